-- `book_sound::setting_at` meets its contract.
use Rattle.setpoint.specs.Codec.{decode_of}
use Rattle.book_rules.specs.Layout.{five_at, setting_at}
use Rattle.book_sound.proofs.setting_at.Goals as goal

pub returns : goal.returns
unfolding setting_at decode_of five_at
returns c = rw (← c.join-word.ensures, ← c.setting.ensures)
