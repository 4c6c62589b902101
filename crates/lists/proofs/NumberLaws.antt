-- Laws of numbers.
use mathlib.Core.Path.{subst, ◌∙◌, ◌≡◌, sym}
use mathlib.Core.Logic.{inr, inl, ◌⊎◌}
use Prim.Native.Nat.{◌%◌, ◌*◌, ◌+◌, ◌/◌, ◌<◌, ◌≤◌, suc, zero, ℕ}
use native.Mathlib.Nat.{add_comm, mul-le-mul, mul-suc, not-suc-le-zero, le_of_suc-le-suc}
use native.Mathlib.Omega.{arith}
use mathlib.Core.Bool.{cond}
use borrow.Author.Tests.{eq-eqb, ne_eqb}
use lib.Dec.{eqb}
use native.Mathlib.Decide.{ℕ_discrete}

pub mul_step : (w n : ℕ) → w * suc n ≡ w + w * n
mul_step w n = mul-suc w n ∙ add_comm (w * n) w

-- a body of w bytes for each of 255 ops
pub product_small : (w n : ℕ) → w ≤ 255 → n ≤ 255 → w * n ≤ 65025
product_small w n a b = mul-le-mul a b

---- a bit, and the number above it

pub lowest_bit : (b h : ℕ) → b < 2 → (b + 2 * h) % 2 ≡ b
lowest_bit b h l = omega arith

pub above_bit : (b h : ℕ) → b < 2 → (b + 2 * h) / 2 ≡ h
above_bit b h l = omega arith

---- pigeonhole

-- f without its last value: where f is m, that value takes its place
unfoldable swapped : (ℕ → ℕ) → ℕ → ℕ → ℕ → ℕ
swapped f m v j = cond (eqb (f j) m) v (f j)

swapped_at : (f : ℕ → ℕ) (m v j : ℕ) → f j ≡ m → swapped f m v j ≡ v
unfolding swapped
swapped_at f m v j e = rw (eq-eqb (f j) m e)

swapped_off : (f : ℕ → ℕ) (m v j : ℕ) → (f j ≡ m → ⊥) → swapped f m v j ≡ f j
unfolding swapped
swapped_off f m v j e = rw (ne_eqb (f j) m e)

-- n different numbers below m: n is at most m
pub pigeonhole : (m n : ℕ) (f : ℕ → ℕ) → ((j : ℕ) → j < n → f j < m) → ((j k : ℕ) → j < k → k < n → f j ≡ f k → ⊥) → n ≤ m
pigeonhole zero zero f b d = omega arith
pigeonhole zero (suc n) f b d = absurd (not-suc-le-zero (b 0 (omega arith)))
pigeonhole (suc m) zero f b d = omega arith
pigeonhole (suc m) (suc n) f b d =
    let ih = pigeonhole m n (swapped f m (f n)) below differ in omega arith
  where
    below : (j : ℕ) → j < n → swapped f m (f n) j < m
    below j h = elim (ℕ_discrete (f j) m) [
      | yes e ↦ rw (swapped_at f m (f n) j e) (let ne : f n ≡ m → ⊥ = λ q. d j n h (omega arith)
          (e ∙ sym q) in omega (arith, b n (omega arith)))
      | no ne ↦ rw (swapped_off f m (f n) j ne) (omega (arith, b j (omega arith)))
    ]

    differ : (j k : ℕ) → j < k → k < n → swapped f m (f n) j ≡ swapped f m (f n) k → ⊥
    differ j k h u q = elim (ℕ_discrete (f j) m) [
      | yes e ↦ elim (ℕ_discrete (f k) m) [
        | yes e' ↦ d j k h (omega arith) (e ∙ sym e')
        | no ne' ↦ d k n u (omega arith) (sym (swapped_off f m (f n) k ne') ∙ sym q ∙ swapped_at f m (f n) j e)
      ]
      | no ne ↦ elim (ℕ_discrete (f k) m) [
        | yes e' ↦ d j n (omega arith) (omega arith) (sym (swapped_off f m (f n) j ne) ∙ q ∙ swapped_at f m (f n) k e')
        | no ne' ↦ d j k h (omega arith) (sym (swapped_off f m (f n) j ne) ∙ q ∙ swapped_off f m (f n) k ne')
      ]
    ]

---- the first number that a function maps to another

pub least : (f : ℕ → ℕ) (i : ℕ) → f i ≡ 0 → (j : ℕ) × (j ≤ i) × (f j ≡ 0) × ((k : ℕ) → k < j → f k ≡ 0 → ⊥)
least f zero e = (0, omega arith, e, λ k h q. omega arith)
least f (suc i) e = elim (ℕ_discrete (f 0) 0) [
  | yes z ↦ (0, omega arith, z, λ k h q. omega arith)
  | no nz ↦ let (j, u, r, o) = least (λ k. f (suc k)) i e in (suc j, omega arith, r, first j o nz)
]
  where
    first : (j : ℕ) → ((k : ℕ) → k < j → f (suc k) ≡ 0 → ⊥) → (f 0 ≡ 0 → ⊥) → (k : ℕ) → k < suc j → f k ≡ 0 → ⊥
    first j o nz zero h q = nz q
    first j o nz (suc k) h q = o k (le_of_suc-le-suc h) q

-- the first place up to i where f is n, or none
pub search_for : (f : ℕ → ℕ) (n i : ℕ) → ((j : ℕ) × (j ≤ i) × (f j ≡ n) × ((k : ℕ) → k < j → f k ≡ n → ⊥)) ⊎ ((j : ℕ) → j ≤ i → f j ≡ n → ⊥)
search_for f n zero = elim (ℕ_discrete (f 0) n) [
  | yes e ↦ inl (0, omega arith, e, λ k h q. omega arith)
  | no ne ↦ inr (λ j h q. ne (subst (λ (t : ℕ). f t ≡ n) (let z : j ≡ 0 = omega arith in z) q))
]
search_for f n (suc i) = next (search_for f n i)
  where
    next : ((j : ℕ) × (j ≤ i) × (f j ≡ n) × ((k : ℕ) → k < j → f k ≡ n → ⊥)) ⊎ ((j : ℕ) → j ≤ i → f j ≡ n → ⊥)
        → ((j : ℕ) × (j ≤ suc i) × (f j ≡ n) × ((k : ℕ) → k < j → f k ≡ n → ⊥)) ⊎ ((j : ℕ) → j ≤ suc i → f j ≡ n → ⊥)
    next (inl x) = inl (x.0, omega (arith, x.1), x.2, x.3)
    next (inr x) = elim (ℕ_discrete (f (suc i)) n) [
      | yes e ↦ inl (suc i, omega arith, e, λ k h q. x k (omega arith) q)
      | no ne ↦ inr (λ j h q. elim (ℕ_discrete j (suc i)) [
        | yes z ↦ ne (subst (λ (t : ℕ). f t ≡ n) z q)
        | no nz ↦ x j (omega arith) q
      ])
    ]
