-- What inner functions of the codec ask and answer.
use Rattle.std.specs.Prelude.{ℕ, ◌≤◌, Bool, ◌&&◌, ◌||◌, false, not, true, List, ◌≡◌, eqb, leb, length}
use Rattle.rules.specs.Answer.{Answer, accepted, waiting, done, had_it, refused}
use Rattle.rules.specs.Op.{replica_of}

-- whether a kind can stand with a parent
abbrev pub kind_fits : ℕ → ℕ → Bool
kind_fits k p = (leb 1 k && leb k 4) && (not (eqb k 2) || eqb p 0)

-- an op's bytes are all there, and s is its replica
pub record Origin (b : List ℕ) (s : ℕ) : Type 0 where
  pub long : 14 ≤ length b
  pub is_origin : s ≡ replica_of b
  pub low : 1 ≤ s
  pub high : s ≤ 8

abbrev pub is_accepted : Answer → Bool
is_accepted (refused n) = false
is_accepted had_it = false
is_accepted waiting = false
is_accepted done = false
is_accepted (accepted n) = true
