-- Four counts in one number, and the marks that a comparison leaves in it.
use Rattle.std.specs.Prelude.{ℕ, ◌+◌, ◌*◌, ◌/◌, ◌%◌, ◌<◌, Bool, ◌&&◌, eqb}

-- 16 bits for each
unfoldable pub spread_of : ℕ → ℕ → ℕ → ℕ → ℕ
spread_of a b c d = a + 65536 * (b + 65536 * (c + 65536 * d))

-- bit 8 of each
unfoldable pub all_marked : ℕ → Bool
all_marked n =
    eqb (n / 256 % 2) 1 && (eqb (n / 16777216 % 2) 1 && (eqb (n / 1099511627776 % 2) 1 && eqb (n / 72057594037927936 % 2) 1))

-- counts are bytes
pub record Counts (a b c d : ℕ) : Type 0 where
  pub first : a < 256
  pub second : b < 256
  pub third : c < 256
  pub fourth : d < 256
