-- The test of a bundle against its head, as the code meets it.
use Prim.Native.Nat.{ℕ, ◌+◌, ◌*◌, ◌-◌, ◌≤◌, ◌<◌}
use borrow.Author.Rules.{rules}
use borrow.Author.Tests.{eq-eqb, ne_eqb, le-leb, lt-leb}
use lib.Count.{ones}
use lib.Dec.{leb, eqb, ltb}
use lib.ListN.{length, length-drop, take, drop, get_or}
use lib.Seq.{take_all}
use mathlib.Core.Bool.{Bool, true, false}
use mathlib.Core.List.{List}
use mathlib.Core.Path.{◌≡◌, sym, ◌∙◌}
use native.Mathlib.Omega.{arith}
use Rattle.lists.specs.Lists.{all, sum}
use Rattle.lists.proofs.BoolLaws.{tested}
use Rattle.rules.specs.Bundle.{bodies_in, head_counts, head_size, ops_by, whole_bundle}
use Rattle.rules.specs.Bytes.{byte}
use Rattle.rules.specs.File.{chunks, width}
use Rattle.rules.specs.Op.{Op, Vector, count_in}
use Rattle.bundle_head.specs.Head.{BodiesOf, HeadEnd, WholeHead, agrees, agrees_at, filled}

---- of each replica

pub agrees_so : (ops : List Op) (counts : Vector) (s n c : ℕ) → n ≡ ops_by ops s → c ≡ get_or counts (s - 1) 0
    → eqb n c ≡ agrees_at ops counts s
unfolding agrees_at count_in
agrees_so ops counts s n c hn hc = rw (hn, hc)

pub bodies_of : (bs : List ℕ) (n s : ℕ) → width * n ≤ length bs → 1 ≤ s → s < 9 → BodiesOf bs n s
bodies_of bs n s l a b = record { long = l; low = a; high = omega arith }

---- the whole

pub size_told : (b : List ℕ) (n : ℕ) → (n ≡ 1 + ones (byte b 0)) × (1 ≤ n) × (n ≤ 9) → (n ≡ head_size b) × (1 ≤ n) × (n ≤ 9)
unfolding head_size
size_told b n e = e

module _ (b : List ℕ) (size : ℕ) (x : HeadEnd b size) where
  pub filled_head : (h : ℕ) → h ≡ get_or b 0 0 → WholeHead b h
  filled_head h e = record { is_head = e; whole = omega (arith, x.is_size, x.whole) }

  pub filled_some : 0 < length b
  filled_some = omega (arith, x.some, x.whole)

  pub filled_start : size ≤ length b
  filled_start = x.whole

  module _ (counts : Vector) (hc : counts ≡ head_counts b) (n : ℕ) (hn : n ≡ sum counts) where
    n_is : sum (head_counts b) ≡ n
    n_is = rw (← hc) (sym hn)

    pub filled_not : (length b ≡ size + 14 * n → ⊥) → false ≡ filled b
    unfolding filled
    filled_not ne = rw (n_is, ← x.is_size, ne_eqb (length b) (size + 14 * n) ne)

    module _ (e : length b ≡ size + 14 * n) where
      -- the part behind the head
      rest_is : take (length b - size) (drop size b) ≡ drop size b
      rest_is = take_all (length b - size) (drop size b) (rw length-drop (omega arith))

      pub bodies_long : width * n ≤ length (take (length b - size) (drop size b))
      bodies_long = rw (rest_is, length-drop) (omega arith)

      pub filled_agrees : (q : Bool) → q ≡ agrees (chunks width n (take (length b - size) (drop size b))) counts → q ≡ filled b
      unfolding filled bodies_in
      filled_agrees q hq = hq ∙ rw (rest_is, n_is, ← x.is_size, eq-eqb (length b) (size + 14 * n) e, hc)

module _ (b : List ℕ) where
  pub whole_none : length b ≡ 0 → false ≡ whole_bundle width b
  unfolding whole_bundle head_size
  whole_none e = rw (lt-leb (1 + ones (byte b 0)) (length b) (omega arith))

  module _ (size : ℕ) (is : size ≡ head_size b) where
    pub whole_short : length b < size → false ≡ whole_bundle width b
    unfolding whole_bundle
    whole_short l = rw (lt-leb (head_size b) (length b) (omega arith))

    pub whole_end : 1 ≤ size → size ≤ length b → HeadEnd b size
    whole_end s l = record { is_size = is; some = s; whole = l }

    module _ (l : size ≤ length b) where
      head_fits : leb (head_size b) (length b) ≡ true
      head_fits = le-leb (head_size b) (length b) (omega arith)

      -- the part of the count bytes
      counts_part : take (size - 1) (drop 1 b) ≡ take (ones (byte b 0)) (drop 1 b)
      unfolding head_size
      counts_part = let e : size - 1 ≡ ones (byte b 0) = omega arith in rw e

      module _ (r : Bool) (hr : r ≡ all (ltb 0) (take (size - 1) (drop 1 b))) where
        pub whole_zero : r ≡ false → false ≡ whole_bundle width b
        unfolding whole_bundle
        whole_zero e = rw (head_fits, ← counts_part, ← hr, e)

        pub whole_filled : r ≡ true → (q : Bool) → q ≡ filled b → q ≡ whole_bundle width b
        unfolding whole_bundle filled agrees agrees_at
        whole_filled z q hq = hq ∙ rw (head_fits, ← counts_part, ← hr, z)

---- what the code of the test needs: search testing

pub ruleset agreements = (agrees_so, bodies_of)

pub ruleset filling = (filled_head, filled_some, filled_start, filled_not, bodies_long, filled_agrees)

pub ruleset wholes = (whole_none, whole_short, whole_end, whole_zero, whole_filled)

pub ruleset testing = (rules, tested, agreements, filling, wholes)
