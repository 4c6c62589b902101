-- Laws of decimal numbers and of a line: how many digits, and that five are enough and read back.
use lib.ListN.{length, length-append}
use mathlib.Core.Path.{◌≡◌}
use mathlib.Core.List.{[], ◌∷◌, ◌++◌}
use mathlib.Core.Bool.{Bool}
use Prim.Native.Nat.{ℕ, suc, ◌+◌, ◌/◌, ◌%◌, ◌≤◌, ◌<◌}
use native.Mathlib.Omega.{arith}
use native.Mathlib.Decide.{dec_le}
use borrow.Author.Tests.{lt-ltb, le-ltb}
use Rattle.rules.specs.Listing.{digits, decimal, line_of}

---- how many digits

pub digits_low : (k n : ℕ) → n < 10 → digits (suc k) n ≡ (48 + n % 10) ∷ []
unfolding digits
digits_low k n h = rw (lt-ltb n 10 h)

pub digits_high : (k n : ℕ) → 10 ≤ n → digits (suc k) n ≡ digits k (n / 10) ++ ((48 + n % 10) ∷ [])
unfolding digits
digits_high k n h = rw (le-ltb n 10 h)

pub length_low : (k n : ℕ) → n < 10 → length (digits (suc k) n) ≡ 1
length_low k n h = rw (digits_low k n h)

pub length_high : (k n : ℕ) → 10 ≤ n → length (digits (suc k) n) ≡ length (digits k (n / 10)) + 1
length_high k n h = rw (digits_high k n h, length-append)

-- at most one digit more than without the last
digits_last : (k n : ℕ) → length (digits (suc k) n) ≤ length (digits k (n / 10)) + 1
digits_last k n = elim (dec_le 10 n) [ yes h ↦ omega (arith, length_high k n h) | no h ↦ omega (arith, length_low k n (omega arith)) ]

pub one_digit : (n : ℕ) → n < 10 → length (decimal n) ≡ 1
unfolding decimal
one_digit n h = length_low 4 n h

pub two_digits : (n : ℕ) → 10 ≤ n → n < 100 → length (decimal n) ≡ 2
unfolding decimal
two_digits n l h = omega (arith, length_high 4 n l, length_low 3 (n / 10) (omega arith))

pub three_digits : (n : ℕ) → 100 ≤ n → n < 1000 → length (decimal n) ≡ 3
unfolding decimal
three_digits n l h = omega (
  arith,
  length_high 4 n (omega arith),
  length_high 3 (n / 10) (omega arith),
  length_low 2 (n / 10 / 10)
      (omega arith),
)

pub four_digits : (n : ℕ) → 1000 ≤ n → n < 10000 → length (decimal n) ≡ 4
unfolding decimal
four_digits n l h = omega (
  arith,
  length_high 4 n (omega arith),
  length_high 3 (n / 10) (omega arith),
  length_high 2 (n / 10 / 10)
      (omega arith),
  length_low 1 (n / 10 / 10 / 10) (omega arith),
)

pub five_digits : (n : ℕ) → 10000 ≤ n → n < 100000 → length (decimal n) ≡ 5
unfolding decimal
five_digits n l h =
    omega (
      arith,
      length_high 4 n (omega arith),
      length_high 3 (n / 10) (omega arith),
      length_high 2 (n / 10 / 10)
          (omega arith),
      length_high 1 (n / 10 / 10 / 10) (omega arith),
      length_low 0 (n / 10 / 10 / 10 / 10) (omega arith),
    )

---- a line

pub length_line : (d n : ℕ) (marked : Bool) → length (line_of d n marked) ≡ length (decimal d) + length (decimal n) + 4
unfolding line_of
length_line d n marked = rw (length-append, length-append) (omega arith)

decimal_short : (n : ℕ) → n < 10000 → length (decimal n) ≤ 4
unfolding decimal
decimal_short n h = omega (
  arith,
  digits_last 4 n,
  digits_last 3 (n / 10),
  digits_last 2 (n / 10 / 10),
  length_low 1 (n / 10 / 10 / 10)
      (omega arith),
)

-- four digits each for depth and node
pub line_short : (d n : ℕ) (marked : Bool) → d < 10000 → n < 10000 → length (line_of d n marked) ≤ 12
line_short d n marked a b = omega (arith, length_line d n marked, decimal_short d a, decimal_short n b)
