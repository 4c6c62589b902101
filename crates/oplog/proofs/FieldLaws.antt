-- Where the fields of an op stand in a laid-out file.
use lib.Seq.{get_or-take, drop-drop, take-take}
use borrow.Author.Rules.{rules}
use mathlib.Core.Path.{◌≡◌, ap, ◌∙◌}
use mathlib.Core.Bool.{true}
use mathlib.Core.List.{List}
use Prim.Native.Nat.{ℕ, ◌+◌, ◌*◌, ◌-◌, ◌^◌, ◌≤◌, ◌<◌}
use native.Mathlib.Omega.{arith}
use lib.ListN.{length, take, drop, get_or}
use native.Mathlib.Nat.{mul-le-mul_left, mul-add, mul-one}
use Rattle.rules.specs.Op.{Op, Vector, count_in, kind_of, node_of, parent_of, replica_of, vector_of}
use Rattle.rules.specs.Bytes.{word_at}
use Rattle.lists.specs.Lists.{sum}
use Rattle.rules.specs.File.{counts_of, op_at, start_at, start_of, file_end, log_of, ops_of, within, count_at, end_of, header_counts}
use Rattle.rules.specs.Log.{laid}
use Rattle.rules.proofs.StructureLaws.{Laid, laid_reads}
use Rattle.rules.proofs.FileLaws.{counts_at, counts_log_of, ops_chunks_of, length_counts, chunk_at}
use Rattle.rules.proofs.CausalLaws.{within_le}
use Rattle.lists.proofs.ListLaws.{sum_take, drop_take}
use Rattle.oplog.specs.Places.{InFile, Held, place_of}

-- two ops of the same fields
pub record SameFields (r o : Op) : Type 0 where
  pub kind : kind_of r ≡ kind_of o
  pub replica : replica_of r ≡ replica_of o
  pub node : node_of r ≡ node_of o
  pub parent : parent_of r ≡ parent_of o
  pub vector : vector_of r ≡ vector_of o

-- the fields of an op stand in its first 14 bytes
same_front : (w : ℕ) (o : Op) → 14 ≤ w → SameFields (take w o) o
unfolding kind_of replica_of node_of parent_of vector_of word_at
same_front w o h =
    let e : (i : ℕ) → i < 14 → get_or (take w o) i 0 ≡ get_or o i 0 = λ i l. get_or-take w o i 0 (omega arith) in
    let s : w ≡ 6 + (w - 6) = omega arith in
    let v : take 8 (drop 6 (take w o)) ≡ take 8 (drop 6 o) =
    ap (λ (n : ℕ). take 8 (drop 6 (take n o))) s ∙ rw (drop_take 6 (w - 6), take-take 8 (w - 6) _ (omega arith)) in
    record {
      kind = e 0 (omega arith);
      replica = e 1 (omega arith);
      node = rw (e 2 (omega arith), e 3 (omega arith));
      parent = rw (e 4 (omega arith), e 5 (omega arith));
      vector = v;
    }

pub counts_in : (w : ℕ) (f : List ℕ) (s : ℕ) → 1 ≤ s → s ≤ 8 → count_in (counts_of (log_of w f)) s ≡ count_at f s
counts_in w f s l u = ap (λ v. count_in v s) (counts_log_of w f) ∙ counts_at f s l u

module _ (w : ℕ) (f : List ℕ) (s q : ℕ) (x : InFile w f s q) where
  facts : Laid w f
  facts = laid_reads w f x.is_laid

  pub header_fits : 32 ≤ length f
  header_fits = facts.header

  start_is : start_at f s ≡ start_of w (header_counts f) s
  start_is = facts.starts s x.low x.high

  pub small : q ≤ 255
  small = omega (arith, x.last, facts.counts s x.low x.high)

  fits : place_of w f s q + w ≤ length f
  unfolding start_of file_end end_of count_in
  fits =
      let c : List ℕ = header_counts f in
      let b : get_or c (s - 1) 0 ≡ count_at f s = counts_at f s x.low x.high in
      let m : w * (sum (take (s - 1) c) + (q - 1) + 1) ≤ w * sum c = mul-le-mul_left w
      (omega (arith, sum_take c (s - 1), x.first, x.last)) in
      omega (arith, facts.fits, mul-add w (sum (take (s - 1) c) + (q - 1)) 1, mul-add w (sum (take (s - 1) c)) (q - 1), mul-one w)

  pub op_fits : (at : ℕ) → at ≡ place_of w f s q → at + w ≤ length f
  op_fits at e = rw e fits

  pub place_size : length f < 2 ^ 64 → w * (q - 1) < 2 ^ 64
  place_size h = omega (arith, fits)

  -- every byte of the op
  pub op_is : op_at (log_of w f) s q ≡ take w (drop (place_of w f s q) f)
  unfolding op_at ops_of log_of start_of count_in
  op_is =
      let c : q - 1 < get_or (header_counts f) (s - 1) 0 = rw (counts_at f s x.low x.high) (omega (arith, x.first, x.last)) in
      rw (
        ops_chunks_of w (header_counts f) (drop 32 f) (s - 1) (omega (arith, length_counts f, x.low, x.high)),
        chunk_at w
            (get_or (header_counts f) (s - 1) 0) _ (q - 1) c,
        drop-drop,
        drop-drop,
      )
      (let e : 32 + (w * sum (take (s - 1) (header_counts f)) + w * (q - 1)) ≡ 32 + w * sum (take (s - 1) (header_counts f)) + w * (q - 1) =
      omega arith in ap (λ (i : ℕ). take w (drop i f)) e)

  -- the fields of the op, where it starts
  pub fields_at : (at : ℕ) → at ≡ place_of w f s q → SameFields (op_at (log_of w f) s q) (drop at f)
  fields_at at e = rw (op_is, e) (same_front w (drop (place_of w f s q) f) x.wide)

  ---- the place as the code works it out; m is the start that was read

  module _ (m : ℕ) (e : m ≡ start_at f s) where
    pub place_is : m + w * (q - 1) ≡ place_of w f s q
    place_is = rw (e, start_is)

    pub place_fits : m + w * (q - 1) + w ≤ length f
    place_fits = rw place_is fits

    pub place_sum : length f < 2 ^ 64 → m + w * (q - 1) < 2 ^ 64
    place_sum h = omega (arith, place_fits)

-- a spot that a counted vector counts
pub in_file_of : (w : ℕ) (f : List ℕ) (v : Vector) → Held w f v → (s q : ℕ) → 1 ≤ s → s ≤ 8 → 1 ≤ q → q ≤ count_in v s → InFile w f s q
in_file_of w f v h s q l u lq uq = record {
  wide = h.wide;
  is_laid = h.is_laid;
  low = l;
  high = u;
  first = lq;
  last = omega (arith, h.each s l u);
}

-- a vector within the held counts
pub held_of : (w : ℕ) (f : List ℕ) (v : Vector) → 14 ≤ w → laid w f ≡ true → within v (header_counts f) ≡ true → Held w f v
held_of w f v h e c = record {
  wide = h;
  is_laid = e;
  each = λ s l u. omega (arith, within_le v (header_counts f) c s l u, counts_at f s l u);
}

---- what the code of places needs: search placing
pub ruleset placing = (rules, header_fits, place_size, place_sum, place_is, place_fits)
