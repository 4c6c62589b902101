-- Eight counts in one number, 8 bits for each: that of replica 1 is the lowest.
use Rattle.std.specs.Prelude.{ℕ, ◌+◌, ◌*◌, ◌-◌, ◌^◌, ◌<◌, Bool, cond, get_or, eqb}
use Rattle.lists.specs.Lists.{all}
use Rattle.rules.specs.Op.{Vector, count_in, replicas}
use Rattle.vector.specs.Spread.{spread_of}

unfoldable pub packed_of : Vector → ℕ
packed_of v =
    spread_of (get_or v 0 0) (get_or v 2 0) (get_or v 4 0) (get_or v 6 0) + 256 * spread_of (get_or v 1 0) (get_or v 3 0) (get_or v 5 0) (get_or v 7 0)

-- one op of replica s
unfoldable pub unit_of : ℕ → ℕ
unit_of s = 2 ^ (8 * (s - 1))

-- counts are bytes
pub record EightCounts (v : Vector) : Type 0 where
  pub each : (i : ℕ) → i < 8 → get_or v i 0 < 256

-- a vector that counts one op more of replica s than another, and is the same otherwise
unfoldable pub is_step : Vector → Vector → ℕ → Bool
is_step before v s = all (λ t. eqb (count_in before t + cond (eqb t s) 1 0) (count_in v t)) replicas
