use Rattle.print.specs.Laws.{put_whole}
use Rattle.print.proofs.put.Goals as goal

pub returns : goal.returns
returns c = put_whole c.args.out.now c.args.text.now _ c.args.at c.requires c.copy_from_slice.ensures.after
