-- The head of a bundle, as the code meets it.
use Prim.Native.Nat.{ℕ, suc, ◌+◌, ◌*◌, ◌-◌, ◌/◌, ◌^◌, ◌≤◌, ◌<◌}
use borrow.Author.Rules.{rules}
use lib.Count.{ones, count_trailing_zeros}
use lib.Dec.{eqb, ltb}
use lib.ListN.{length, length-drop, length-set, take, drop, get_or, set, replicate, take-append-drop}
use lib.Seq.{drop-drop, drop-set-lt, get_or-drop, take-add, take-suc-set}
use mir.Val.{bool_byte}
use mathlib.Core.Bool.{Bool, true, false, cond, not}
use mathlib.Core.List.{List, [], ◌∷◌, ◌++◌, append_assoc}
use mathlib.Core.Path.{◌≡◌, refl, sym, ap, ◌∙◌}
use native.Mathlib.Numerals.{add-one}
use native.Mathlib.Omega.{arith}
use Rattle.lists.specs.Lists.{filter, up_from}
use Rattle.lists.proofs.ListLaws.{drop_replicate, stores, stores_are, take_replicate}
use Rattle.rules.specs.Bundle.{counts_read, head_byte, head_counts, head_size}
use Rattle.rules.specs.Bytes.{byte}
use Rattle.rules.specs.Op.{Vector, count_in, replicas}
use Rattle.rules.proofs.BundleLaws.{reads_none}
use Rattle.rules.proofs.FileLaws.{vector_eta}
use Rattle.bundle_head.specs.Head.{HeadRoom, WholeHead, bit_of}
use Rattle.bundle_head.proofs.BitLaws.{FirstCount, LowestSet, first_count, lowest_set, no_count}

---- the first byte

abbrev IsBit : ℕ → ℕ → Type 0
IsBit b n = (b ≡ bit_of n) × (b ≤ 1)

pub bit_is : (n r : ℕ) → r ≡ bool_byte (not (eqb n 0)) → IsBit r n
unfolding bit_of
bit_is n r e = go (eqb n 0) e
  where
    go : (b : Bool) → r ≡ bool_byte (not b) → (r ≡ cond b 0 1) × (r ≤ 1)
    go true e = (e, omega arith)
    go false e = (e, omega arith)

pub four_are : (a b c d p q r s : ℕ) → IsBit p a → IsBit q b → IsBit r c → IsBit s d
    → (p + 2 * (q + 2 * (r + 2 * s)) ≡ head_byte (a ∷ b ∷ c ∷ d ∷ [])) × (p + 2 * (q + 2 * (r + 2 * s)) ≤ 15)
unfolding head_byte bit_of
four_are a b c d p q r s x y z u =
    (rw (x.0, y.0, z.0, u.0) (omega arith), omega (arith, x.1, y.1, z.1, u.1))

pub eight_are : (v : Vector) → length v ≡ 8 → (l h : ℕ)
    → l ≡ head_byte (get_or v 0 0 ∷ get_or v 1 0 ∷ get_or v 2 0 ∷ get_or v 3 0 ∷ [])
    → h ≡ head_byte (get_or v 4 0 ∷ get_or v 5 0 ∷ get_or v 6 0 ∷ get_or v 7 0 ∷ []) → l + 16 * h ≡ head_byte v
unfolding head_byte replicas up_from count_in
eight_are v e l h hl hh = rw (hl, hh) (omega arith) ∙ ap head_byte (vector_eta v e)

---- writing the counts that are not 0: those before index are written before at

pub record PutAt (counts out₀ out : List ℕ) (bits index at : ℕ) : Type 0 where
  pub made : index ≤ 8
  pub eight : length counts ≡ 8
  pub is_bits : bits ≡ head_byte (drop index counts)
  pub left : stores out₀ 1 (filter (ltb 0) counts) ≡ stores out at (filter (ltb 0) (drop index counts))
  pub room : at + length (filter (ltb 0) (drop index counts)) ≤ length out
  pub size : length out ≡ length out₀

pub put_starts : (counts : Vector) → length counts ≡ 8 → (out : List ℕ) (head : ℕ) → HeadRoom out head counts
    → PutAt counts out out head 0 1
put_starts counts e out head x = record {
  made = omega arith;
  eight = e;
  is_bits = x.is_head;
  left = refl;
  room = omega (arith, x.room);
  size = refl;
}

module _ (counts out₀ out : List ℕ) (bits index at : ℕ) (x : PutAt counts out₀ out bits index at) where
  left_long : length (drop index counts) ≡ 8 - index
  left_long = rw length-drop (omega (arith, x.eight))

  module _ (nz : bits ≡ 0 → ⊥) where
    first : FirstCount (drop index counts) (count_trailing_zeros 8 bits)
    first = rw x.is_bits (first_count 8 (drop index counts) (omega (arith, left_long)) (λ z. nz (x.is_bits ∙ z)))

    pub put_below : count_trailing_zeros 8 bits < 8
    put_below = omega (arith, first.low, left_long)

    pub put_place : at < length out
    put_place = let n = ap length first.first in omega (arith, x.room)

    module _ (z next : ℕ) (hz : z ≡ count_trailing_zeros 8 bits) (hn : next ≡ index + z) where
      pub put_index : next < 8
      put_index = omega (arith, first.low, left_long)

      pub put_less : 8 - (next + 1) < 8 - index
      put_less = omega (arith, put_index)

      behind : drop (suc (count_trailing_zeros 8 bits)) (drop index counts) ≡ drop (next + 1) counts
      behind =
          let e : index + suc (count_trailing_zeros 8 bits) ≡ next + 1 = omega arith in
          drop-drop (suc (count_trailing_zeros 8 bits)) index counts ∙ rw e

      counted : filter (ltb 0) (drop index counts) ≡ get_or counts next 0 ∷ filter (ltb 0) (drop (next + 1) counts)
      counted =
          let e : index + count_trailing_zeros 8 bits ≡ next = omega arith in
          first.first ∙ rw (behind, get_or-drop index counts (count_trailing_zeros 8 bits) 0, e)

      pub put_on : (above : ℕ) → above ≡ bits / 2 ^ suc (count_trailing_zeros 8 bits)
          → PutAt counts out₀ (set out at (get_or counts next 0)) above (next + 1) (at + 1)
      unfolding stores
      put_on above is =
          let n = ap length counted in
          record {
            made = omega (arith, put_index);
            eight = x.eight;
            is_bits = is ∙ ap (λ (n : ℕ). n / 2 ^ suc (count_trailing_zeros 8 bits)) x.is_bits ∙ first.above ∙ ap head_byte behind;
            left = x.left ∙ rw counted;
            room = omega (arith, x.room, length-set out at (get_or counts next 0));
            size = length-set out at (get_or counts next 0) ∙ x.size;
          }

  pub put_ends : 1 + length (filter (ltb 0) counts) ≤ length out₀ → bits ≡ 0
      → out ≡ take 1 out₀ ++ (filter (ltb 0) counts ++ drop (1 + length (filter (ltb 0) counts)) out₀)
  unfolding stores
  put_ends enough e =
      let none : filter (ltb 0) (drop index counts) ≡ [] = no_count (drop index counts) (sym x.is_bits ∙ e) in
      sym (x.left ∙ rw none) ∙ stores_are (filter (ltb 0) counts) out₀ 1 enough

---- reading the counts: those before index are read, off the bytes before at

pub record ReadAt (b counts : List ℕ) (bits index at : ℕ) : Type 0 where
  pub made : index ≤ 8
  pub eight : length counts ≡ 8
  pub small : bits < 2 ^ (8 - index)
  pub left : head_counts b ≡ take index counts ++ counts_read (8 - index) bits (drop at b)
  pub unread : drop index counts ≡ replicate (8 - index) 0
  pub room : at + ones bits ≤ length b

pub read_starts : (b : List ℕ) (h : ℕ) → WholeHead b h → h < 256 → ReadAt b (replicate 8 0) h 0 1
unfolding head_counts head_size
read_starts b h x small = record {
  made = omega arith;
  eight = refl;
  small = small;
  left = rw x.is_head;
  unread = refl;
  room = rw x.is_head (omega (arith, x.whole));
}

module _ (b counts : List ℕ) (bits index at : ℕ) (x : ReadAt b counts bits index at) where
  pub read_ends : bits ≡ 0 → counts ≡ head_counts b
  read_ends e =
      sym (x.left ∙ rw (e, reads_none (8 - index) (drop at b), ← x.unread) (take-append-drop index counts))

  module _ (nz : bits ≡ 0 → ⊥) where
    lowest : LowestSet (8 - index) bits (count_trailing_zeros 8 bits)
    lowest = lowest_set 8 (8 - index) bits (omega arith) x.small nz

    pub read_below : count_trailing_zeros 8 bits < 8
    read_below = omega (arith, lowest.low)

    pub read_place : at < length b
    read_place = omega (arith, lowest.counted, x.room)

    module _ (z next : ℕ) (hz : z ≡ count_trailing_zeros 8 bits) (hn : next ≡ index + z) where
      pub read_index : next < 8
      read_index = omega (arith, lowest.low)

      pub read_less : 8 - (next + 1) < 8 - index
      read_less = omega (arith, read_index)

      pub read_on : (above : ℕ) → above ≡ bits / 2 ^ suc (count_trailing_zeros 8 bits)
          → ReadAt b (set counts next (get_or b at 0)) above (next + 1) (at + 1)
      read_on above is =
          let k : 8 - index - suc (count_trailing_zeros 8 bits) ≡ 8 - (next + 1) = omega arith in
          let v : ℕ = get_or b at 0 in
          let zeros : take next counts ≡ take index counts ++ replicate (count_trailing_zeros 8 bits) 0 =
          rw (
            hn,
            hz,
            take-add index (count_trailing_zeros 8 bits) counts,
            x.unread,
            take_replicate 0 (count_trailing_zeros 8 bits) (8 - index) (omega (arith, lowest.low)),
          ) in
          let one : byte (drop at b) 0 ≡ v = let e : at + 0 ≡ at = omega arith in get_or-drop at b 0 0 ∙ rw e in
          let rest : drop (next + 1) counts ≡ drop (suc (count_trailing_zeros 8 bits)) (drop index counts) =
          let e : index + suc (count_trailing_zeros 8 bits) ≡ next + 1 = omega arith in
          sym (drop-drop (suc (count_trailing_zeros 8 bits)) index counts ∙ rw e) in
          record {
            made = omega (arith, read_index);
            eight = length-set counts next v ∙ x.eight;
            small = rw (is, ← k) lowest.above;
            left =
                x.left
                ∙ rw (
                  lowest.read (drop at b),
                  one,
                  drop-drop 1 at b,
                  k,
                  ← is,
                  add-one next,
                  take-suc-set counts next v
                      (omega (arith, x.eight, read_index)),
                  zeros,
                  append_assoc,
                  append_assoc,
                );
            unread =
                drop-set-lt (next + 1) counts next v (omega arith)
                ∙ rw (rest, x.unread, drop_replicate 0 (suc (count_trailing_zeros 8 bits)) (8 - index), k);
            room = rw is (omega (arith, lowest.counted, x.room));
          }

---- what the code of a head needs: search heading

pub ruleset putting = (put_starts, put_less, put_below, put_index, put_place, put_on, put_ends)

pub ruleset reading = (read_starts, read_less, read_below, read_index, read_place, read_on, read_ends)

pub ruleset heading = (rules, eight_are, putting, reading)
