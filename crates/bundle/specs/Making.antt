-- What the functions that make a bundle ask and answer.
use Rattle.std.specs.Prelude.{ℕ, ◌+◌, ◌*◌, true, List, ◌≡◌, ltb, length}
use Rattle.lists.specs.Lists.{filter, sum}
use Rattle.rules.specs.Bundle.{beyond_counts, bundle_of}
use Rattle.rules.specs.File.{log_of, width}
use Rattle.rules.specs.Op.{Vector}
use Rattle.rules.specs.Sound.{sound}

-- the bytes of a bundle with so many ops of each replica
unfoldable pub bundle_size : Vector → ℕ
bundle_size beyond = 1 + length (filter (ltb 0) beyond) + width * sum beyond

-- a sound log, what it has beyond the counts, and bytes for just that
pub record Fillable (f : List ℕ) (counts beyond : Vector) (out : List ℕ) : Type 0 where
  pub is_sound_so : sound width f ≡ true
  pub is_beyond_so : beyond ≡ beyond_counts (log_of width f) counts
  pub size : length out ≡ length (bundle_of (log_of width f) counts)
