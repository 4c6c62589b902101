-- The bits of a head, from the lowest that is set on.
use Prim.Native.Nat.{ℕ, zero, suc, ◌+◌, ◌*◌, ◌-◌, ◌/◌, ◌%◌, ◌^◌, ◌≤◌, ◌<◌}
use lib.Count.{ones, ones_step, count_trailing_zeros, under}
use lib.Dec.{ltb, lit<}
use lib.ListN.{length, drop, get_or, replicate}
use mathlib.Core.List.{List, [], ◌∷◌, ◌++◌}
use mathlib.Core.Path.{◌≡◌, refl, sym, ap, ◌∙◌}
use native.Mathlib.Nat.{div-div-eq-div-mul, pow-suc, pow-succ', not-suc-le-zero, le_of_suc-le-suc}
use native.Mathlib.Omega.{arith}
use Rattle.lists.specs.Lists.{filter}
use Rattle.lists.proofs.NumberLaws.{lowest_bit, above_bit}
use Rattle.rules.proofs.BundleLaws.{some_eqb, some_ltb}
use Rattle.rules.specs.Bundle.{counts_read, head_byte}
use Rattle.rules.specs.Bytes.{byte}
use Rattle.rules.specs.Op.{Vector}

-- halving once more
half_above : (h z : ℕ) → h / 2 ^ suc z ≡ h / 2 / 2 ^ z
half_above h z = ap (λ (x : ℕ). h / x) (pow-succ' 2 z) ∙ sym (div-div-eq-div-mul h 2 (2 ^ z))

---- reading: bit z is the lowest that is set of k bits

pub record LowestSet (k h z : ℕ) : Type 0 where
  pub low : z < k
  pub above : h / 2 ^ suc z < 2 ^ (k - suc z)
  pub counted : ones h ≡ suc (ones (h / 2 ^ suc z))
  -- nothing for the replicas below it, the next count byte for its replica
  pub read : (bs : List ℕ) → counts_read k h bs ≡ replicate z 0 ++ (byte bs 0 ∷ counts_read (k - suc z) (h / 2 ^ suc z) (drop 1 bs))

none_set : (k h : ℕ) → k ≡ 0 → h < 2 ^ k → h ≡ 0
none_set k h e l = let z : h < 1 = rw e at l in omega arith

-- one bit read
even_read : (k h : ℕ) (bs : List ℕ) → h % 2 ≡ 0 → counts_read (suc k) h bs ≡ 0 ∷ counts_read k (h / 2) bs
unfolding counts_read
even_read k h bs e = rw e

odd_read : (k h : ℕ) (bs : List ℕ) → h % 2 ≡ 1 → counts_read (suc k) h bs ≡ byte bs 0 ∷ counts_read k (h / 2) (drop 1 bs)
unfolding counts_read
odd_read k h bs e = rw e

pub lowest_set : (most k h : ℕ) → k ≤ most → h < 2 ^ k → (h ≡ 0 → ⊥) → LowestSet k h (count_trailing_zeros most h)
unfolding count_trailing_zeros
lowest_set zero k h m l nz = absurd (nz (none_set k h (omega arith) l))
lowest_set (suc most) zero h m l nz = absurd (nz (none_set 0 h refl l))
lowest_set (suc most) (suc k) h m l nz = go (h % 2) refl (lowest_set most k (h / 2) (le_of_suc-le-suc m) half)
  where
    half : h / 2 < 2 ^ k
    half = let e : 2 ^ suc k ≡ 2 * 2 ^ k = pow-succ' 2 k in omega arith

    go : (d : ℕ) → h % 2 ≡ d → ((h / 2 ≡ 0 → ⊥) → LowestSet k (h / 2) (count_trailing_zeros most (h / 2)))
        → LowestSet (suc k) h (under d (count_trailing_zeros most (h / 2)))
    go zero e ih =
        let x = ih (λ z. nz (omega arith)) in
        let t : ℕ = count_trailing_zeros most (h / 2) in
        let up : h / 2 ^ suc (suc t) ≡ h / 2 / 2 ^ suc t = half_above h (suc t) in
        let less : suc k - suc (suc t) ≡ k - suc t = omega arith in
        record {
          low = omega (arith, x.low);
          above = rw (up, less) x.above;
          counted = ones_step h ∙ rw (e, up) (omega (arith, x.counted));
          read = λ bs. even_read k h bs e ∙ rw (up, less, x.read bs);
        }
    go (suc d) e ih =
        let up : h / 2 ^ 1 ≡ h / 2 = half_above h 0 ∙ omega arith in
        let less : suc k - 1 ≡ k = omega arith in
        record {
          low = omega arith;
          above = rw (up, less) half;
          counted = ones_step h ∙ rw up (omega arith);
          read = λ bs. odd_read k h bs (omega arith) ∙ rw (up, less);
        }

---- writing: the first count that is not 0

pub record FirstCount (ns : Vector) (z : ℕ) : Type 0 where
  pub low : z < length ns
  pub first : filter (ltb 0) ns ≡ get_or ns z 0 ∷ filter (ltb 0) (drop (suc z) ns)
  pub above : head_byte ns / 2 ^ suc z ≡ head_byte (drop (suc z) ns)

pub first_count : (most : ℕ) (ns : Vector) → length ns ≤ most → (head_byte ns ≡ 0 → ⊥) → FirstCount ns (count_trailing_zeros most (head_byte ns))
unfolding count_trailing_zeros head_byte filter
first_count most [] m nz = absurd (nz refl)
first_count zero (n ∷ ns) m nz = absurd (not-suc-le-zero m)
first_count (suc most) (zero ∷ ns) m nz =
    let bit = lowest_bit 0 (head_byte ns) (lit< tt) in
    let up = above_bit 0 (head_byte ns) (lit< tt) in
    let x = first_count most ns (le_of_suc-le-suc m) (λ z. nz (rw z)) in
    rw (bit, up) (record {
      low = omega (arith, x.low);
      first = x.first;
      above = half_above (0 + 2 * head_byte ns) (suc (count_trailing_zeros most (head_byte ns))) ∙ rw up x.above;
    })
first_count (suc most) (suc n ∷ ns) m nz =
    let bit = lowest_bit 1 (head_byte ns) (lit< tt) in
    let up = above_bit 1 (head_byte ns) (lit< tt) in
    rw (some_eqb n, bit) (record {
      low = omega arith;
      first = rw (some_ltb n);
      above = rw (some_eqb n) (half_above (1 + 2 * head_byte ns) 0 ∙ rw up (omega arith));
    })

pub no_count : (ns : Vector) → head_byte ns ≡ 0 → filter (ltb 0) ns ≡ []
unfolding head_byte filter
no_count [] e = refl
no_count (zero ∷ ns) e = no_count ns (omega arith)
no_count (suc n ∷ ns) e = let z : 1 + 2 * head_byte ns ≡ 0 = rw (some_eqb n) at e in absurd (omega arith)

---- a byte

module _ (n : ℕ) where
  pub bits_above_are : n / 2 ^ count_trailing_zeros 8 n / 2 ≡ n / 2 ^ suc (count_trailing_zeros 8 n)
  bits_above_are = div-div-eq-div-mul n (2 ^ count_trailing_zeros 8 n) 2 ∙ ap (λ (x : ℕ). n / x) (sym (pow-suc 2 (count_trailing_zeros 8 n)))
