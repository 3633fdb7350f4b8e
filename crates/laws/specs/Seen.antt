-- What is seen of a choice.
use Rattle.std.specs.Prelude.{◌≡◌, refl, Bool, true, false, if◌then◌else◌}
use Rattle.model.specs.Log.{Made}

pub seen_if : {A : Type 0} (b : Bool) (x y : Made A) → (if b then x else y).seen ≡ (if b then x.seen else y.seen)
seen_if true x y = refl
seen_if false x y = refl
