-- The decimal digits of a two-byte number, as the library has them and as the listing does.
use Rattle.std.proofs.Common.{◌≡◌, ℕ, zero, suc, ◌+◌, ◌*◌, ◌/◌, ◌%◌, ◌^◌, ◌≤◌, ◌<◌, false, List, [], ◌∷◌, ◌++◌, sym, ◌∙◌, append_assoc, append-nil, arith, length, take, drop, take-append-drop, not-suc-le-zero, le_of_suc-le-suc, lit≤}
use borrow.Author.Tests.{lt-ltb, ne_eqb}
use native.Mathlib.Decide.{dec_le}
use native.Mathlib.Nat.{pow-le-pow_right, pow-succ'}
use lib.Dec.{lit<}
use Rattle.std.specs.Prelude.{Option, Some, None}
use Rattle.std.specs.Option.{IfNone, IfSome, unwrap_or}
use Rattle.std.specs.Fmt as library
use Rattle.std.specs.Fmt.{digit_glyph, digits_onto}
use Rattle.rules.specs.Listing.{decimal, digits}
use Rattle.pen.specs.Lines.{written}
use Rattle.rules.proofs.DecimalLaws.{digits_high, digits_low, five_digits, four_digits, one_digit, three_digits, two_digits}

glyph : (d : ℕ) → d < 10 → digit_glyph false d ≡ 48 + d
glyph d h = rw (lt-ltb d 10 h)

low : (k m n : ℕ) (acc : List ℕ) → n < 10 → digits_onto (suc m) 10 false n acc ≡ digits (suc k) n ++ acc
low k m n acc h = let e : n / 10 ≡ 0 = omega arith in rw (e, digits_low k n h, glyph (n % 10) (omega arith))

same_digits : (k m n : ℕ) (acc : List ℕ) → k ≤ m → n < 10 ^ suc k → digits_onto (suc m) 10 false n acc ≡ digits (suc k) n ++ acc
same_digits zero m n acc l h = low 0 m n acc h
same_digits (suc k) zero n acc l h = absurd (not-suc-le-zero l)
same_digits (suc k) (suc m) n acc l h = elim (dec_le 10 n) [
  | yes y ↦
      let p : 10 ^ suc (suc k) ≡ 10 * 10 ^ suc k = pow-succ' 10 (suc k) in
      let ih = same_digits k m (n / 10) ((48 + n % 10) ∷ acc) (le_of_suc-le-suc l) (omega arith) in
      rw (
        ne_eqb (n / 10) 0 (λ z. omega arith),
        glyph (n % 10) (omega arith),
        digits_high (suc k) n y,
        append_assoc,
        ih,
      )
  | no z ↦ low (suc k) (suc m) n acc (omega arith)
]

pub decimal_is : (n : ℕ) → n < 65536 → library.decimal n ≡ decimal n
unfolding decimal library.digits
decimal_is n h = same_digits 4 63 n [] (lit≤ tt) (omega arith) ∙ append-nil (digits 5 n)

-- a text that ends at a place, where what is before it and after it stays
pub digits_put : (out new text : List ℕ) (at start end : ℕ) → start + length text ≡ end → end ≡ at + length text
    → drop start new ≡ text ++ drop end out → take start new ≡ take start out → new ≡ written out at text
digits_put out new text at start end s e d t =
    let is : start ≡ at = omega arith in
    sym (take-append-drop start new) ∙ rw (d, t, is, e)

---- how many digits, by the logarithm

count_by : (n k : ℕ) → n < 65536 → 10 ^ k ≤ n → n < 10 * 10 ^ k → (k + 1 ≡ length (decimal n)) × (k + 1 ≤ 5)
count_by n zero h a b = (sym (one_digit n b), omega arith)
count_by n (suc zero) h a b = (sym (two_digits n a b), omega arith)
count_by n (suc (suc zero)) h a b = (sym (three_digits n a b), omega arith)
count_by n (suc (suc (suc zero))) h a b = (sym (four_digits n a b), omega arith)
count_by n (suc (suc (suc (suc zero)))) h a b = (sym (five_digits n a b), omega arith)
count_by n (suc (suc (suc (suc (suc k))))) h a b =
    let j : ℕ = suc (suc (suc (suc (suc k)))) in
    let p : 10 ^ 5 ≤ 10 ^ j = pow-le-pow_right (lit< tt) {i = 5} {j = j} (omega arith) in
    absurd (omega arith)

pub count_is : (n : ℕ) → n < 65536 → (o : Option ℕ) → IfNone o (n ≡ 0) → IfSome o (λ k. 10 ^ k ≤ n) → IfSome o (λ k. n < 10 * 10 ^ k)
    → (r : ℕ) → r ≡ unwrap_or o 0 → (r + 1 ≡ length (decimal n)) × (r + 1 ≤ 5)
count_is n h None z a b r e = (omega (arith, e, one_digit n (omega (arith, z))), omega (arith, e))
count_is n h (Some k) z a b r e = rw e (count_by n k h a b)
