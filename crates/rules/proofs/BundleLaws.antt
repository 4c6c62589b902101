-- Laws of a bundle's bytes: what test 12 says of them; the head reads back, and so do the bodies.
use Prim.Native.Nat.{ℕ, zero, suc, ◌+◌, ◌*◌, ◌≤◌, ◌<◌}
use borrow.Author.Tests.{le-leb, leb-true, eq-eqb, eqb-true, ne_eqb, lt-ltb, ltb-true}
use lib.Count.{ones, ones_in, ones_step}
use lib.Dec.{ltb, eqb, lit<}
use lib.ListN.{length, take, drop, replicate, length-append, length-drop, length-take}
use lib.Seq.{take_at, drop_at, get_or-drop, get_or-take}
use mathlib.Core.Bool.{true, false, and-eq-true_iff}
use mathlib.Core.List.{List, [], ◌∷◌, ◌++◌, append-nil}
use mathlib.Core.Path.{◌≡◌, refl, sym, ap, ◌∙◌}
use native.Mathlib.Omega.{arith}
use Rattle.lists.proofs.AllLaws.{all_at, all_passing}
use Rattle.lists.proofs.BoolLaws.{and_both}
use Rattle.lists.proofs.NumberLaws.{lowest_bit, above_bit}
use Rattle.lists.specs.Lists.{sum, concat, all, filter}
use Rattle.rules.proofs.FileLaws.{Wide, chunks_concat, length_ops}
use Rattle.rules.proofs.ReplicaLaws.{all_replicas, replica_passes}
use Rattle.rules.specs.Bundle.{head_byte, head_of, counts_read, head_counts, head_size, bodies_in, ops_by, whole_bundle}
use Rattle.rules.specs.Bytes.{byte}
use Rattle.rules.specs.File.{chunks}
use Rattle.rules.specs.Op.{Op, Vector, count_in}

---- what test 12 says of a bundle

pub record Whole (w : ℕ) (b : List ℕ) : Type 0 where
  pub head : head_size b ≤ length b
  pub counted : (i : ℕ) → i < ones (byte b 0) → 1 ≤ byte b (1 + i)
  pub size : length b ≡ head_size b + w * sum (head_counts b)
  pub shares : (s : ℕ) → 1 ≤ s → s ≤ 8 → ops_by (bodies_in w b) s ≡ count_in (head_counts b) s

module _ (w : ℕ) (b : List ℕ) (e : whole_bundle w b ≡ true) where
  pub whole_reads : Whole w b
  unfolding whole_bundle head_size
  whole_reads =
      let t = simp and-eq-true_iff at e in
      let long : 1 + ones (byte b 0) ≤ length b = leb-true _ _ t.0.0.0 in
      record {
        head = long;
        counted = λ i h.
            let bytes : List ℕ = take (ones (byte b 0)) (drop 1 b) in
            let room : i < length bytes = rw (length-take, length-drop) (omega arith) in
            let same_byte : byte bytes i ≡ byte b (1 + i) = get_or-take (ones (byte b 0)) (drop 1 b) i 0 h ∙ get_or-drop 1 b i 0 in
            rw (← same_byte) (ltb-true 0 (byte bytes i) (all_at (ltb 0) 0 bytes t.0.0.1 i room));
        size = eqb-true _ _ t.0.1;
        shares = λ s l u. eqb-true _ _ (replica_passes _ t.1 s l u);
      }

---- a head of counts

-- a replica with ops, by the two tests that ask for it
pub some_eqb : (n : ℕ) → eqb (suc n) 0 ≡ false
some_eqb n = ne_eqb (suc n) 0 (λ e. omega arith)

pub some_ltb : (n : ℕ) → ltb 0 (suc n) ≡ true
some_ltb n = lt-ltb 0 (suc n) (omega arith)

-- the counts that are read are those that the head was made of
reads_head : (ns : Vector) (t : List ℕ) → counts_read (length ns) (head_byte ns) (filter (ltb 0) ns ++ t) ≡ ns
unfolding counts_read head_byte filter
reads_head [] t = refl
reads_head (zero ∷ ns) t = rw (lowest_bit 0 (head_byte ns) (lit< tt), above_bit 0 (head_byte ns) (lit< tt), reads_head ns t)
reads_head (suc n ∷ ns) t =
    rw (some_eqb n, some_ltb n, lowest_bit 1 (head_byte ns) (lit< tt), above_bit 1 (head_byte ns) (lit< tt), reads_head ns t)

ones_none : ones 0 ≡ 0
unfolding ones ones_in
ones_none = refl

-- it has as many count bytes as set bits
pub ones_head : (ns : Vector) → ones (head_byte ns) ≡ length (filter (ltb 0) ns)
unfolding head_byte filter
ones_head [] = ones_none
ones_head (zero ∷ ns) =
    ones_step (0 + 2 * head_byte ns)
    ∙ rw (lowest_bit 0 (head_byte ns) (lit< tt), above_bit 0 (head_byte ns) (lit< tt)) (omega (arith, ones_head ns))
ones_head (suc n ∷ ns) =
    rw (some_eqb n, some_ltb n) (ones_step (1 + 2 * head_byte ns)
    ∙ rw (lowest_bit 1 (head_byte ns) (lit< tt), above_bit 1 (head_byte ns) (lit< tt)) (omega (arith, ones_head ns)))

---- a head and the bodies that it counts

module _ (w : ℕ) (ns : Vector) (ops : List Op) (eight : length ns ≡ 8) (wide : Wide w ops) (number : length ops ≡ sum ns) where
  abbrev bytes : List ℕ
  bytes = head_of ns ++ concat ops

  size : head_size bytes ≡ 1 + length (filter (ltb 0) ns)
  unfolding head_size head_of
  size = rw (ones_head ns)

  counts : head_counts bytes ≡ ns
  unfolding head_counts head_of
  counts = rw (sym eight) (reads_head ns (concat ops))

  head_long : length (head_of ns) ≡ 1 + length (filter (ltb 0) ns)
  unfolding head_of
  head_long = omega arith

  pub bodies : bodies_in w bytes ≡ ops
  unfolding bodies_in
  bodies =
      rw (counts, size, drop_at (head_of ns) (concat ops) (1 + length (filter (ltb 0) ns)) head_long, ← number)
      (ap (chunks w (length ops)) (sym (append-nil (concat ops))) ∙ chunks_concat w ops [] wide)

  pub long : length bytes ≡ 1 + length (filter (ltb 0) ns) + w * sum ns
  long = rw (length-append, head_long, length_ops w ops wide, number)

  counted : all (ltb 0) (take (ones (byte bytes 0)) (drop 1 bytes)) ≡ true
  unfolding head_of
  counted = rw (ones_head ns, take_at (filter (ltb 0) ns) (concat ops) _ refl) (all_passing (ltb 0) ns)

  -- it passes test 12
  pub whole : ((s : ℕ) → 1 ≤ s → s ≤ 8 → ops_by ops s ≡ count_in ns s) → whole_bundle w bytes ≡ true
  unfolding whole_bundle
  whole h =
      and_both
      (and_both (and_both (le-leb (head_size bytes) (length bytes) (omega (arith, size, long))) counted)
      (eq-eqb (length bytes) (head_size bytes + w * sum (head_counts bytes)) (rw (size, counts) long)))
      (all_replicas _ (λ s l u. eq-eqb (ops_by (bodies_in w bytes) s) (count_in (head_counts bytes) s) (rw (bodies, counts) (h s l u))))

-- no bit is set
pub reads_none : (k : ℕ) (bs : List ℕ) → counts_read k 0 bs ≡ replicate k 0
unfolding counts_read
reads_none zero bs = refl
reads_none (suc k) bs = ap (◌∷◌ 0) (reads_none k bs)
