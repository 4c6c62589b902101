-- A number in decimal reads back, and the bound of five digits does not matter.
use Rattle.rules.proofs.DecimalLaws.{length_high, length_low, digits_high, digits_low}
use Rattle.rules.specs.Listing.{decimal, digits}
use Rattle.order.specs.Claims.{value_of}
use mathlib.Core.List.{List, [], ◌++◌, ◌∷◌, foldl-append}
use lib.ListN.{get_or-append, get_or, length, length-append}
use Prim.Native.Nat.{◌%◌, ◌*◌, ◌+◌, ◌-◌, ◌/◌, ◌<◌, ◌≤◌, suc, zero, ℕ}
use mathlib.Core.Path.{◌∙◌, ◌≡◌, sym}
use native.Mathlib.Omega.{arith}
use native.Mathlib.Decide.{dec_le}
use lib.Seq.{get_or_at}

-- 10 to the power k
unfoldable tens : ℕ → ℕ
tens zero = 1
tens (suc k) = 10 * tens k

-- more digits than a number has are not written
digits_more : (j k n : ℕ) → n < tens (suc j) → j ≤ k → digits (suc k) n ≡ digits (suc j) n
unfolding tens
digits_more zero k n h l = digits_low k n (omega arith) ∙ sym (digits_low 0 n (omega arith))
digits_more (suc j) zero n h l = absurd (omega arith)
digits_more (suc j) (suc k) n h l =
    elim (dec_le 10 n) [
      | yes m ↦ rw (digits_high (suc k) n m, digits_high (suc j) n m, digits_more j k (n / 10) (omega arith) (omega arith))
      | no m ↦ digits_low (suc k) n (omega arith) ∙ sym (digits_low (suc j) n (omega arith))
    ]

value_last : (ds : List ℕ) (d : ℕ) → value_of (ds ++ (d ∷ [])) ≡ 10 * value_of ds + (d - 48)
unfolding value_of
value_last ds d = foldl-append _ 0 ds (d ∷ [])

digits_number : (k n : ℕ) → n < tens (suc k) → value_of (digits (suc k) n) ≡ n
unfolding tens value_of
digits_number zero n h = rw (digits_low 0 n (omega arith)) (omega arith)
digits_number (suc k) n h =
    elim (dec_le 10 n) [
      | yes l ↦ rw (digits_high (suc k) n l, value_last (digits (suc k) (n / 10)) (48 + n % 10), digits_number k (n / 10) (omega arith))
          (omega arith)
      | no l ↦ rw (digits_low (suc k) n (omega arith)) (omega arith)
    ]

some_digit : (k n : ℕ) → 0 < length (digits (suc k) n)
some_digit k n = elim (dec_le 10 n) [ yes h ↦ omega (arith, length_high k n h) | no h ↦ omega (arith, length_low k n (omega arith)) ]

digits_first : (k n : ℕ) → 1 ≤ n → n < tens (suc k) → 49 ≤ get_or (digits (suc k) n) 0 0
unfolding tens
digits_first zero n l h = rw (digits_low 0 n (omega arith)) (omega arith)
digits_first (suc k) n l h =
    elim (dec_le 10 n) [
      | yes m ↦ rw (digits_high (suc k) n m, get_or-append (digits (suc k) (n / 10)) ((48 + n % 10) ∷ []) 0 0 (some_digit k (n / 10)))
          (digits_first k (n / 10) (omega arith) (omega arith))
      | no m ↦ rw (digits_low (suc k) n (omega arith)) (omega arith)
    ]

-- the bound of five in `decimal` does not matter to a number below 100,000
pub decimal_any : (k n : ℕ) → 5 ≤ k → n < 100000 → digits k n ≡ decimal n
unfolding decimal tens
decimal_any (suc k) n l h = digits_more 4 k n h (omega arith)
decimal_any zero n l h = absurd (omega arith)

pub decimal_number : (n : ℕ) → n < 100000 → value_of (decimal n) ≡ n
unfolding decimal tens
decimal_number n h = digits_number 4 n h

-- no leading zero
pub decimal_first : (n : ℕ) → 1 ≤ n → n < 100000 → 49 ≤ get_or (decimal n) 0 0
unfolding decimal tens
decimal_first n l h = digits_first 4 n l h

-- an ASCII digit
abbrev pub Digit : ℕ → Type 0
Digit d = (48 ≤ d) × (d ≤ 57)

digits_are : (k n i : ℕ) → i < length (digits k n) → Digit (get_or (digits k n) i 0)
unfolding digits
digits_are zero n i h = absurd (omega arith)
digits_are (suc k) n i h =
    elim (dec_le 10 n) [
      | yes l ↦ rw (digits_high k n l) (last (digits k (n / 10)) (48 + n % 10) i (digits_are k (n / 10)) (omega arith, omega arith)
          (rw (digits_high k n l) at h))
      | no l ↦ let z : i ≡ 0 = omega (arith, length_low k n (omega arith)) in rw (digits_low k n (omega arith), z)
          (omega arith, omega arith)
    ]
  where
    last : (ds : List ℕ) (d i : ℕ) → ((j : ℕ) → j < length ds → Digit (get_or ds j 0)) → Digit d → i < length (ds ++ (d ∷ []))
        → Digit (get_or (ds ++ (d ∷ [])) i 0)
    last ds d i each new h =
        elim (dec_le (length ds) i) [
          | yes l ↦ let e : length ds ≡ i = omega (arith, length-append ds (d ∷ [])) in rw (get_or_at ds d [] 0 i e) new
          | no l ↦ rw (get_or-append ds (d ∷ []) 0 i (omega arith)) (each i (omega arith))
        ]

-- every byte of it is a digit
pub decimal_digits : (n i : ℕ) → i < length (decimal n) → Digit (get_or (decimal n) i 0)
unfolding decimal
decimal_digits n i h = digits_are 5 n i h
