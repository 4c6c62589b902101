-- The places of a holdback, as the code meets them.
use Prim.Native.Nat.{ℕ, suc, ◌+◌, ◌*◌, ◌-◌, ◌≤◌, ◌<◌}
use borrow.Author.Rules.{rules}
use borrow.Author.Tests.{eq-eqb, ne_eqb, le-leb, lt-leb}
use lib.Dec.{eqb}
use lib.ListN.{length, length-drop, take, drop, drop_of_length-le, get_or, set, replicate}
use lib.Seq.{drop-drop, take_all}
use mathlib.Core.Bool.{Bool, true, false}
use mathlib.Core.List.{List, [], ◌∷◌, ◌++◌, append-nil}
use mathlib.Core.Path.{◌≡◌, sym, ◌∙◌}
use native.Mathlib.Nat.{le_refl}
use native.Mathlib.Omega.{arith}
use Rattle.lists.specs.Lists.{all}
use Rattle.lists.proofs.BoolLaws.{tested}
use Rattle.rules.specs.Bytes.{byte}
use Rattle.rules.specs.File.{width}
use Rattle.rules.specs.Holdback.{holdback_ops, holdback_of, sound_holdback}
use Rattle.rules.specs.Op.{Op}
use Rattle.rules.proofs.HoldbackLaws.{sound_reads, place_filled, place_freed}
use Rattle.holdback_places.specs.Places.{Roomy, Occupied, close_at, put_at, without}

---- number 14

module _ (h : List ℕ) where
  pub wrong_length : (length h ≡ 449 → ⊥) → false ≡ sound_holdback width h
  unfolding sound_holdback
  wrong_length e = rw (ne_eqb (length h) 449 e)

  module _ (l : length h ≡ 449) where
    pub some_byte : 0 < length h
    some_byte = omega arith

    module _ (n : ℕ) (is : n ≡ get_or h 0 0) where
      pub wrong_count : 32 < n → false ≡ sound_holdback width h
      unfolding sound_holdback
      wrong_count m = rw (eq-eqb (length h) 449 l, ← is, lt-leb n 32 m)

      module _ (m : n ≤ 32) where
        pub within_size : 1 + 14 * n ≤ length h
        within_size = omega arith

        pub past_tested : (r : Bool) → r ≡ all (eqb 0) (take (length h - (1 + 14 * n)) (drop (1 + 14 * n) h)) → r ≡ sound_holdback width h
        unfolding sound_holdback
        past_tested r e =
            let whole : length (drop (1 + 14 * n) h) ≤ length h - (1 + 14 * n) = rw length-drop (le_refl _) in
            e ∙ rw (take_all _ (drop (1 + 14 * n) h) whole, eq-eqb (length h) 449 l, ← is, le-leb n 32 m, drop-drop (14 * n) 1 h)

pub holdback_some : (h : List ℕ) → sound_holdback width h ≡ true → 0 < length h
holdback_some h s = omega (arith, (sound_reads width h s).size)

---- a place is filled, a place is freed

one_more : (n : ℕ) → 1 + n ≡ suc n
one_more n = omega arith

-- a part from a place on, put back
module _ (h : List ℕ) (at : ℕ) where
  to_end : length h - at ≡ length (drop at h)
  to_end = rw length-drop

  none_behind : drop (length (drop at h)) (drop at h) ≡ []
  none_behind = drop_of_length-le (drop at h) {i = length (drop at h)} (le_refl _)

  whole_part : take (length (drop at h)) (drop at h) ≡ drop at h
  whole_part = take_all (length (drop at h)) (drop at h) (le_refl _)

  pub close_is : (part : List ℕ) → part ≡ drop width (take (length h - at) (drop at h)) ++ replicate 14 0
      → take at h ++ (part ++ drop (length h - at) (drop at h)) ≡ close_at h at
  unfolding close_at
  close_is part e = rw (e, to_end, whole_part, none_behind, append-nil, drop-drop width at h)

-- the op in the first free place, and the count
module _ (op : Op) where
  pub filled : (h : List ℕ) → Roomy h op → (n : ℕ) → n ≡ get_or h 0 0 → (now : List ℕ) → now ≡ put_at h (1 + 14 * n) op
      → set now 0 (get_or h 0 0 + 1) ≡ holdback_of width (holdback_ops width h ++ (op ∷ []))
  unfolding put_at
  filled [] x n is now e = let s = (sound_reads width [] x.compared.is_holdback).size in absurd (omega arith)
  filled (b ∷ bs) x n is now e =
      let c = x.compared in
      let k : 1 + 14 * b + length op ≡ suc (14 * b + 14) = omega (arith, c.long) in
      rw (e, is, k, one_more (14 * b)) (sym (place_filled width b bs c.is_holdback op c.long x.room))

-- the places from i on closed up, and the count
pub freed : (h : List ℕ) (i : ℕ) → Occupied h i → (now : List ℕ) → now ≡ close_at h (1 + 14 * i)
    → set now 0 (get_or h 0 0 - 1) ≡ holdback_of width (without (holdback_ops width h) i)
unfolding without close_at
freed [] i x now e = let s = (sound_reads width [] x.is_holdback).size in absurd (omega arith)
freed (b ∷ bs) i x now e =
    let k : 1 + 14 * i + width ≡ suc (14 * suc i) = omega arith in
    rw (e, k, one_more (14 * i)) (sym (place_freed width b bs x.is_holdback i x.inside))

module _ (h : List ℕ) where
  pub free_from : (op : Op) → Roomy h op → (n : ℕ) → n ≡ get_or h 0 0 → 1 + 14 * n + length op ≤ length h
  free_from op x n is = let s = sound_reads width h x.compared.is_holdback in omega (arith, x.room, x.compared.long)

  pub occupied : sound_holdback width h ≡ true → (i : ℕ) → i < byte h 0 → Occupied h i
  occupied s i l =
      let x = sound_reads width h s in
      record { is_holdback = s; inside = l; fits = omega (arith, x.size, x.few) }

---- what the code of the places needs: search placing
pub ruleset zeros = (wrong_length, some_byte, wrong_count, within_size, past_tested)

pub ruleset freeing = (holdback_some, close_is, filled, freed, free_from)

pub ruleset placing = (rules, tested, zeros, freeing)
