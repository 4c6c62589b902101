-- What inner functions ask of a sound buffer.
use Rattle.std.specs.Prelude.{List, ◌≡◌, true, ℕ}
use Rattle.rules.specs.Op.{Vector}
use Rattle.rules.specs.File.{counts_of, log_of, width}
use Rattle.rules.specs.Sound.{sound}

-- a sound buffer and its counts
pub record Tallied (f : List ℕ) (u : Vector) : Type 0 where
  pub is_sound_so : sound width f ≡ true
  pub counts : u ≡ counts_of (log_of width f)
