-- What the numbers ask of a value.
use Rattle.rules.specs.Answer.{Answer, accepted, waiting, done, had_it, refused}
use Rattle.rules.specs.Tree.{most_ops}
use Rattle.numbers.specs.Number.{number}
use Rattle.std.specs.Prelude.{ℕ, ◌≤◌, ◌<◌}

-- the value leaves room for the 256 above it
unfoldable pub fits : Answer → Type 0
fits (refused n) = Unit {0}
fits had_it = Unit {0}
fits waiting = Unit {0}
fits done = Unit {0}
fits (accepted n) = n ≤ 9223372036854775807

-- the number of an answer leaves room for the ops taken back above it
pub record PageFits (a : Answer) (taken : ℕ) : Type 0 where
  pub low : number a < 65536
  pub few : taken ≤ most_ops
