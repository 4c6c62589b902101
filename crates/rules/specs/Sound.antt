-- When a buffer holds a sound log (number 1). Reading bodies and replaying ask for structural soundness alone; the calls ask for this.
use Rattle.std.specs.Prelude.{ℕ, Bool, List}
use Rattle.rules.specs.Log.{structural}

unfoldable pub sound : ℕ → List ℕ → Bool
sound w f = structural w f
