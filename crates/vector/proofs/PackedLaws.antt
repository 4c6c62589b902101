-- Eight counts in one number: two vectors are compared all at once.
use Prim.Native.Nat.{ℕ, ◌+◌, ◌*◌, ◌-◌, ◌^◌, ◌≤◌, ◌<◌, ◌%◌}
use borrow.Author.Rules.{rules}
use borrow.Author.Tests.{eq-eqb, ne_eqb, eqb-true}
use lib.Dec.{eqb, lit<}
use lib.ListN.{get_or}
use mathlib.Core.Bool.{cond, ◌&&◌}
use mathlib.Core.Path.{◌≡◌, refl}
use native.Mathlib.Decide.{ℕ_discrete}
use native.Mathlib.Omega.{arith}
use Rattle.lists.proofs.BoolLaws.{both_ways, and_both, and_left, and_right, and_true}
use Rattle.lists.specs.Lists.{all, up_from}
use Rattle.rules.specs.Op.{Vector, count_in, replicas}
use Rattle.rules.proofs.ReplicaLaws.{replica_cases}
use Rattle.vector.specs.Packed.{packed_of, unit_of, EightCounts, is_step}
use Rattle.vector.specs.Spread.{spread_of}
use Rattle.vector.proofs.VectorLaws.{FourAt, spread_small}

-- eight digits as a number
abbrev number : (ℕ → ℕ) → ℕ
number a = a 0 + 256 * (a 1 + 256 * (a 2 + 256 * (a 3 + 256 * (a 4 + 256 * (a 5 + 256 * (a 6 + 256 * a 7))))))

packed_number : (v : Vector) → packed_of v ≡ number (λ i. get_or v i 0)
unfolding packed_of spread_of
packed_number v = omega arith

-- two numbers are the same when their digits are
digit_same : (x y m n : ℕ) → x < 256 → y < 256 → eqb (x + 256 * m) (y + 256 * n) ≡ (eqb x y && eqb m n)
digit_same x y m n h k =
    both_ways _ _
    (λ e. let z : x + 256 * m ≡ y + 256 * n = eqb-true _ _ e in and_both (eq-eqb x y (omega arith)) (eq-eqb m n (omega arith)))
    (λ e. eq-eqb (x + 256 * m) (y + 256 * n)
    (omega (arith, eqb-true x y (and_left (eqb x y) _ e), eqb-true m n (and_right (eqb x y) _ e))))

module _ (a b : ℕ → ℕ) (small : (i : ℕ) → i < 8 → a i < 256) (small' : (i : ℕ) → i < 8 → b i < 256) where
  digits_same : eqb (number a) (number b) ≡ (eqb (a 0) (b 0) && (eqb (a 1) (b 1) && (eqb (a 2) (b 2) && (eqb (a 3) (b 3)
      && (eqb (a 4) (b 4) && (eqb (a 5) (b 5) && (eqb (a 6) (b 6) && eqb (a 7) (b 7))))))))
  digits_same =
      rw (
        digit_same (a 0) (b 0) _ _ (small 0 (lit< tt)) (small' 0 (lit< tt)),
        digit_same (a 1) (b 1) _ _ (small 1 (lit< tt)) (small' 1 (lit< tt)),
        digit_same (a 2) (b 2) _ _ (small 2 (lit< tt)) (small' 2 (lit< tt)),
        digit_same (a 3) (b 3) _ _ (small 3 (lit< tt)) (small' 3 (lit< tt)),
        digit_same (a 4) (b 4) _ _ (small 4 (lit< tt)) (small' 4 (lit< tt)),
        digit_same (a 5) (b 5) _ _ (small 5 (lit< tt)) (small' 5 (lit< tt)),
        digit_same (a 6) (b 6) (a 7) (b 7) (small 6 (lit< tt)) (small' 6 (lit< tt)),
      )

number_small : (a : ℕ → ℕ) → ((i : ℕ) → i < 8 → a i < 256) → number a < 2 ^ 64
number_small a h =
    omega (arith, h 0 (lit< tt), h 1 (lit< tt), h 2 (lit< tt), h 3 (lit< tt), h 4 (lit< tt), h 5 (lit< tt), h 6 (lit< tt), h 7 (lit< tt))

---- the counts of a vector

module _ (before : Vector) (s : ℕ) (l : 1 ≤ s) (u : s ≤ 8) (bytes : EightCounts before) (h : count_in before s < 255) where
  -- one op more of replica s
  abbrev raised : ℕ → ℕ
  raised i = get_or before i 0 + cond (eqb (i + 1) s) 1 0

  raised_number : packed_of before + unit_of s ≡ number raised
  unfolding unit_of
  raised_number =
      rw (packed_number before)
      (replica_cases (λ s. number (λ i. get_or before i 0) + 2 ^ (8 * (s - 1)) ≡ number (λ i. get_or before i 0 + cond (eqb (i + 1) s) 1 0))
      (omega arith) (omega arith) (omega arith) (omega arith) (omega arith) (omega arith) (omega arith) (omega arith) s l u)

  raised_small : (i : ℕ) → i < 8 → raised i < 256
  unfolding count_in
  raised_small i k = elim (ℕ_discrete (i + 1) s) [
    | yes e ↦ rw (eq-eqb (i + 1) s e) (let z : s - 1 ≡ i = omega arith in omega (arith, rw z at h))
    | no n ↦ rw (ne_eqb (i + 1) s n) (omega (arith, bytes.each i k))
  ]

  -- the sum and the test as the code makes them: m, k and n are what was packed
  module _ (m k : ℕ) (im : m ≡ packed_of before) (ik : k ≡ unit_of s) where
    pub step_sum : m + k < 2 ^ 64
    step_sum = rw (im, ik, raised_number) (number_small raised raised_small)

    pub step_test : (v : Vector) → EightCounts v → (n : ℕ) → n ≡ packed_of v → eqb (m + k) n ≡ is_step before v s
    unfolding is_step all replicas up_from count_in
    step_test v small n is =
        rw (im, ik, is, raised_number, packed_number v, digits_same raised (λ i. get_or v i 0) raised_small small.each, and_true)

pub unit_shift : (s : ℕ) → 1 ≤ s → s ≤ 8 → (1 * 2 ^ (8 * (s - 1))) % 2 ^ 64 ≡ unit_of s
unfolding unit_of
unit_shift =
    replica_cases (λ s. (1 * 2 ^ (8 * (s - 1))) % 2 ^ 64 ≡ 2 ^ (8 * (s - 1))) refl refl refl refl refl refl refl refl

---- the two halves: n and m are what was spread

module _ (v : Vector) (n m : ℕ) (even : FourAt v 0 n) (odd : FourAt v 1 m) where
  byte_of : (s : ℕ) → 1 ≤ s → s ≤ 8 → get_or v (s - 1) 0 < 256
  byte_of =
      let a = even.1 in
      let b = odd.1 in
      replica_cases (λ s. get_or v (s - 1) 0 < 256)
      a.first b.first a.second b.second a.third b.third a.fourth b.fourth

  pub small_counts : EightCounts v
  small_counts = record { each = λ i h. let e : i + 1 - 1 ≡ i = omega arith in rw e at (byte_of (i + 1) (omega arith) (omega arith)) }

  pub halves_packed : n + 256 * m ≡ packed_of v
  unfolding packed_of
  halves_packed = rw (even.0, odd.0)

---- what the code of packed vectors needs
pub ruleset packing = (rules, spread_small, small_counts, halves_packed, unit_shift, step_sum, step_test)
