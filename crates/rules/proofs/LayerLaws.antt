-- A layer of soundness: a test of every op, above the structure, that is settled by what the op's vector counts.
use Prim.Native.Nat.{ℕ, ◌+◌, ◌-◌, ◌≤◌}
use mathlib.Core.List.{[]}
use mathlib.Core.Path.{◌≡◌, ◌∙◌}
use mathlib.Core.Bool.{Bool, true}
use native.Mathlib.Omega.{arith}
use native.Mathlib.Decide.{ℕ_discrete, dec_le}
use lib.ListN.{length, length-append}
use lib.Seq.{get_or-append_seam}
use Rattle.lists.specs.Lists.{all}
use Rattle.rules.specs.File.{Log, counts_of, ops_of, op_at, append, Extends}
use Rattle.rules.specs.Log.{covered, closed}
use Rattle.rules.specs.Op.{Op, count_in, replica_of, vector_of, replicas}
use Rattle.rules.proofs.StructureLaws.{GoodLog, HeldOps, good_ops, count_held}
use Rattle.rules.proofs.AppendLaws.{SameWithin, same_within, covered_more, append_extends, ops_same, ops_other}
use Rattle.rules.proofs.ReplicaLaws.{all_replicas, replica_passes}
use Rattle.lists.proofs.AllLaws.{all_at, all_of}

-- every op of every replica passes
unfoldable pub every_op : (Op → Bool) → Log → Bool
every_op p log = all (λ s. all p (ops_of log s)) replicas

module _ (p : Op → Bool) where
  abbrev pub Every : Log → Type 0
  Every log = (s q : ℕ) → 1 ≤ s → s ≤ 8 → 1 ≤ q → q ≤ count_in (counts_of log) s → p (op_at log s q) ≡ true

  module _ (log : Log) where
    pub every_reads : every_op p log ≡ true → Every log
    unfolding every_op op_at
    every_reads e s q l u lq uq =
        all_at p [] (ops_of log s) (replica_passes _ e s l u) (q - 1) (omega (arith, count_held log s))

    pub every_of : Every log → every_op p log ≡ true
    unfolding every_op op_at
    every_of h =
        all_replicas _ (λ s l u. all_of p [] (ops_of log s) (λ i a.
        let k : i + 1 - 1 ≡ i = omega arith in
        rw k at (h s (i + 1) l u (omega arith) (omega (arith, count_held log s)))))

-- what the op's vector counts settles the test
abbrev pub Local : (Log → Op → Bool) → Type 0
Local T =
    (log more : Log) → HeldOps log → (r : Op) → covered log (vector_of r) ≡ true → closed log (vector_of r) ≡ true
    → covered more (vector_of r) ≡ true → SameWithin log more (vector_of r) → T more r ≡ T log r

module _ (T : Log → Op → Bool) (local : Local T) (log more : Log) (g : GoodLog log) (h : Every (T log) log) (x : Extends log more) where
  layer_same : (r : Op) → covered log (vector_of r) ≡ true → closed log (vector_of r) ≡ true → T more r ≡ T log r
  layer_same r c cl = local log more (good_ops g) r c cl (covered_more log more x (vector_of r) c) (same_within log more x (vector_of r) c)

  layer_more : (s q : ℕ) → 1 ≤ s → s ≤ 8 → 1 ≤ q → q ≤ count_in (counts_of log) s → T more (op_at more s q) ≡ true
  layer_more s q l u lq uq =
      let o = good_ops g s q l u lq uq in
      rw (x.ops s q l u lq uq) (layer_same (op_at log s q) o.is_covered o.is_closed ∙ h s q l u lq uq)

-- one op more
module _ (T : Log → Op → Bool) (local : Local T) (log : Log) (g : GoodLog log) (h : Every (T log) log) (r : Op) (lo : 1 ≤ replica_of r)
    (hi : replica_of r ≤ 8) (c : covered log (vector_of r) ≡ true) (cl : closed log (vector_of r) ≡ true) (t : T log r ≡ true) where
  more : Extends log (append log r)
  more = append_extends log r g.eight lo hi

  pub layer_append : Every (T (append log r)) (append log r)
  unfolding op_at
  layer_append s q l u lq uq = elim (dec_le q (count_in (counts_of log) s)) [
    | yes old ↦ layer_more T local log (append log r) g h more s q l u lq old
    | no new ↦ elim (ℕ_discrete s (replica_of r)) [
      | yes e ↦
          let d = rw (e, count_held, ops_same log r g.eight lo hi, length-append) at uq in
          let n = rw (e, count_held) at new in
          let k : q - 1 ≡ length (ops_of log (replica_of r)) = omega arith in
          rw (e, ops_same log r g.eight lo hi, k, get_or-append_seam (ops_of log (replica_of r)) r [] [])
          (layer_same T local log (append log r) g h more r c cl ∙ t)
      | no ne ↦ absurd (new (rw (count_held, ← ops_other log r g.eight lo hi s l ne, ← count_held (append log r) s) uq))
    ]
  ]
