-- Turns of the loops over the eight counts of a vector.
use Prim.Native.Nat.{ℕ, ◌+◌, ◌-◌, ◌<◌, ◌*◌, ◌/◌, ◌%◌, ◌≤◌}
use borrow.Author.Tests.{lt-leb, le-leb, eq-eqb, ne_eqb}
use lib.Dec.{leb, eqb}
use lib.ListN.{length, take, drop, get_or, length-take, length-drop}
use lib.Seq.{get_or-take, get_or-drop}
use Rattle.std.specs.List.{range_with_len}
use Rattle.std.proofs.lemmas.List.FromFn.{fill_by_all}
use mathlib.Core.Bool.{◌&&◌, Bool, and-eq-true_iff, true, false}
use mathlib.Core.List.{List, map}
use mathlib.Core.Path.{◌≡◌, refl, sym, ◌∙◌}
use native.Mathlib.Decide.{dec_le}
use native.Mathlib.Omega.{arith}
use Rattle.vector.specs.Spread.{all_marked, spread_of, Counts}
use Rattle.lists.proofs.BoolLaws.{both_ways}
use Rattle.lists.specs.Lists.{up_from, all}
use Rattle.rules.specs.File.{within}
use Rattle.rules.specs.Op.{Vector, count_in, replicas}
use borrow.Author.Rules.{rules}

-- eight bytes from a place on, read one by one
pub bytes_read : (bs : List ℕ) (at : ℕ) → at + 8 ≤ length bs → map (λ i. get_or bs (at + i) 0) (range_with_len 0 8) ≡ take 8 (drop at bs)
bytes_read bs at h =
    sym (fill_by_all (λ i. get_or bs (at + i) 0) (take 8 (drop at bs)) 8 0 (simp (length-take, length-drop) (omega arith))
    (λ k l. rw (get_or-take, get_or-drop)))

pub length_eight : (F : ℕ → ℕ) → length (map F replicas) ≡ 8
unfolding replicas up_from
length_eight F = refl

pub count_of : (v : Vector) (i : ℕ) → count_in v (i + 1) ≡ get_or v i 0
unfolding count_in
count_of v i = let e : i + 1 - 1 ≡ i = omega arith in rw e

---- a comparison of four counts at once

-- bit 8 of the lowest part
low_mark : (x n : ℕ) → x < 512 → eqb ((x + 65536 * n) / 256 % 2) 1 ≡ leb 256 x
low_mark x n h = elim (dec_le 256 x) [
  | yes l ↦ eq-eqb ((x + 65536 * n) / 256 % 2) 1 (omega arith) ∙ sym (le-leb 256 x l)
  | no l ↦ ne_eqb ((x + 65536 * n) / 256 % 2) 1 (λ e. omega arith) ∙ sym (lt-leb 256 x (omega arith))
]

high_mark : (x : ℕ) → x < 512 → eqb ((x + 4096) / 256 % 2) 1 ≡ leb 256 x
high_mark x h = elim (dec_le 256 x) [
  | yes l ↦ eq-eqb ((x + 4096) / 256 % 2) 1 (omega arith) ∙ sym (le-leb 256 x l)
  | no l ↦ ne_eqb ((x + 4096) / 256 % 2) 1 (λ e. omega arith) ∙ sym (lt-leb 256 x (omega arith))
]

-- the parts above it
above_low : (x n : ℕ) → x < 512 → ((x + 65536 * n) / 16777216 ≡ n / 256) × ((x + 65536 * n) / 1099511627776 ≡ n / 16777216)
    × ((x + 65536 * n) / 72057594037927936 ≡ n / 1099511627776)
above_low x n h = (omega arith, omega arith, omega arith)

marks_of : (x y z w : ℕ) → x < 512 → y < 512 → z < 512 → w < 512
    → all_marked (spread_of x y z (w + 4096)) ≡ (leb 256 x && (leb 256 y && (leb 256 z && leb 256 w)))
unfolding all_marked spread_of
marks_of x y z w a b c d =
    let first = above_low x (y + 65536 * (z + 65536 * (w + 4096))) a in
    let second = above_low y (z + 65536 * (w + 4096)) b in
    let third = above_low z (w + 4096) c in
    rw (
      first.0,
      first.1,
      first.2,
      second.0,
      second.1,
      third.0,
      low_mark x (y + 65536 * (z + 65536 * (w + 4096))) a,
      low_mark y
          (z + 65536 * (w + 4096)) b,
      low_mark z (w + 4096) c,
      high_mark w d,
    )

reaches : (u v : ℕ) → v < 256 → leb 256 (u + 256 - v) ≡ leb v u
reaches u v h = elim (dec_le v u) [
  | yes l ↦ le-leb 256 (u + 256 - v) (omega arith) ∙ sym (le-leb v u l)
  | no l ↦ lt-leb 256 (u + 256 - v) (omega arith) ∙ sym (lt-leb v u (omega arith))
]

pub spread_most : (a b c d : ℕ) → Counts a b c d → spread_of a b c d ≤ 71777214294589695
unfolding spread_of
spread_most a b c d h = omega (arith, h.first, h.second, h.third, h.fourth)

module _ (a b c d p q r s : ℕ) (hi : Counts a b c d) (lo : Counts p q r s) where
  pub spread_less : spread_of a b c d + 1224980198173180160 - spread_of p q r s ≡ spread_of (a + 256 - p) (b + 256 - q) (c + 256 - r)
      (d + 256 - s + 4096)
  unfolding spread_of
  spread_less = omega (arith, lo.first, lo.second, lo.third, lo.fourth)

  pub four_reach : all_marked (spread_of a b c d + 1224980198173180160 - spread_of p q r s) ≡ (leb p a && (leb q b && (leb r c && leb s d)))
  four_reach =
      rw (
        spread_less,
        marks_of (a + 256 - p) (b + 256 - q) (c + 256 - r) (d + 256 - s) (omega (arith, hi.first))
            (omega (arith, hi.second)) (omega (arith, hi.third)) (omega (arith, hi.fourth)),
        reaches a p lo.first,
        reaches b q
            lo.second,
        reaches c r lo.third,
        reaches d s lo.fourth,
      )

---- and of eight

eight : (a b c d e f g h : Bool) → (a && (b && (c && (d && (e && (f && (g && (h && true)))))))) ≡ ((a && (c && (e && g)))
    && (b && (d && (f && h))))
eight a b c d e f g h =
    both_ways _ _
    (λ t.
    let x = simp and-eq-true_iff at t in
    rw (x.0, x.1.0, x.1.1.0, x.1.1.1.0, x.1.1.1.1.0, x.1.1.1.1.1.0, x.1.1.1.1.1.1.0, x.1.1.1.1.1.1.1.0))
    (λ t.
    let x = simp and-eq-true_iff at t in
    rw (x.0.0, x.0.1.0, x.0.1.1.0, x.0.1.1.1, x.1.0, x.1.1.0, x.1.1.1.0, x.1.1.1.1))

abbrev reaches_at : Vector → Vector → ℕ → Bool
reaches_at v u i = leb (get_or v i 0) (get_or u i 0)

-- the counts of replicas 1, 3, 5 and 7, and those of 2, 4, 6 and 8
unfoldable pub even_reach : Vector → Vector → Bool
even_reach v u = reaches_at v u 0 && (reaches_at v u 2 && (reaches_at v u 4 && reaches_at v u 6))

unfoldable pub odd_reach : Vector → Vector → Bool
odd_reach v u = reaches_at v u 1 && (reaches_at v u 3 && (reaches_at v u 5 && reaches_at v u 7))

-- a comparison of two vectors
pub within_halves : (v u : Vector) → within v u ≡ (even_reach v u && odd_reach v u)
unfolding within all replicas up_from count_in even_reach odd_reach
within_halves v u =
    eight (reaches_at v u 0) (reaches_at v u 1) (reaches_at v u 2) (reaches_at v u 3) (reaches_at v u 4) (reaches_at v u 5) (reaches_at v u 6)
    (reaches_at v u 7)

---- as the code makes them: m, n, p and q are what was spread

-- n is the four counts of every second replica, from place i on
abbrev pub FourAt : Vector → ℕ → ℕ → Type 0
FourAt v i n =
    (n ≡ spread_of (get_or v i 0) (get_or v (i + 2) 0) (get_or v (i + 4) 0) (get_or v (i + 6) 0))
    × Counts (get_or v i 0) (get_or v (i + 2) 0) (get_or v (i + 4) 0) (get_or v (i + 6) 0)

pub spread_small : (a b c d n : ℕ) → (n ≡ spread_of a b c d) × Counts a b c d → n ≤ 71777214294589695
spread_small a b c d n h = rw (h.0) (spread_most a b c d h.1)

module _ (v u : Vector) (m n p q : ℕ) (a : FourAt u 0 m) (b : FourAt v 0 n) (c : FourAt u 1 p) (d : FourAt v 1 q) where
  within_marked : within v u ≡ (all_marked (m + 1224980198173180160 - n) && all_marked (p + 1224980198173180160 - q))
  unfolding even_reach odd_reach
  within_marked = within_halves v u ∙ sym (rw (a.0, b.0, c.0, d.0) (rw (four_reach _ _ _ _ _ _ _ _ a.1 b.1, four_reach _ _ _ _ _ _ _ _ c.1 d.1)))

  -- x tells whether the even counts are within, y whether the odd ones are
  module _ (x : Bool) (is : x ≡ all_marked (m + 1224980198173180160 - n)) where
    pub within_if_even : x ≡ true → (y : Bool) → y ≡ all_marked (p + 1224980198173180160 - q) → y ≡ within v u
    within_if_even e y iy = iy ∙ sym (within_marked ∙ rw (← is, e))

    pub without_even : x ≡ false → x ≡ within v u
    without_even e = e ∙ sym (within_marked ∙ rw (← is, e))

---- what the comparison needs
pub ruleset comparing = (rules, spread_small, within_if_even, without_even)
