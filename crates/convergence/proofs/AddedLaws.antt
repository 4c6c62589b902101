-- A log whose ops are those of another and new ones.
use Prim.Native.Nat.{ℕ, ◌+◌, ◌≤◌, ◌<◌}
use mathlib.Core.Bool.{true}
use mathlib.Core.List.{List, ◌++◌}
use mathlib.Core.Logic.{⊎_elim}
use mathlib.Core.Path.{◌≡◌, sym, ◌∙◌}
use native.Mathlib.Nat.{le_refl}
use native.Mathlib.Decide.{dec_le}
use native.Mathlib.Omega.{arith}
use Rattle.convergence.proofs.HasLaws.{has_old, has_right, has_either}
use Rattle.rules.proofs.InLaws.{OpIn, op_in}
use Rattle.convergence.proofs.TrackLaws.{tracks_log}
use Rattle.convergence.specs.Exchange.{has}
use Rattle.rules.specs.File.{Extends, Log, op_at, counts_of}
use Rattle.rules.proofs.StructureLaws.{GoodLog, HeldOp, good_ops}
use Rattle.lists.specs.Lists.{concat}
use Rattle.rules.specs.Op.{Op, count_in, replica_of, seq_of}

-- the ops of more are those of log and new ones
module _ (log more : Log) (good : GoodLog log) (Good-more : GoodLog more) (new : List Op)
    (ops : (z : Op) → has (concat more) z ≡ has (new ++ concat log) z) where
  in_either : (z : Op) → has (new ++ concat log) z ≡ true → OpIn more z
  in_either z e = (tracks_log more Good-more).inside z (ops z ∙ e)

  pub new_there : (r : Op) → has new r ≡ true → OpIn more r
  new_there r h = in_either r (has_old new (concat log) r h)

  pub new_extends : Extends log more
  new_extends = record {
    counts = λ s l u. elim (dec_le 1 (count_in (counts_of log) s)) [
      | yes k ↦ (old s (count_in (counts_of log) s) l u k (le_refl _)).0
      | no k ↦ omega arith
    ];
    ops = λ s q l u lq uq. (old s q l u lq uq).1;
  }
    where
      old : (s q : ℕ) → 1 ≤ s → s ≤ 8 → 1 ≤ q → q ≤ count_in (counts_of log) s
          → (q ≤ count_in (counts_of more) s) × (op_at more s q ≡ op_at log s q)
      old s q l u lq uq =
          let x = good_ops good s q l u lq uq in
          let there = (tracks_log log good).outside (op_at log s q) (op_in log (good_ops good) s q l u lq uq) in
          let i = in_either (op_at log s q) (has_right new (concat log) (op_at log s q) there) in
          (rw (x.origin, x.number) at i.here, rw (x.origin, x.number) at i.there)

  -- an op that the log does not hold is new
  module _ (s q : ℕ) (l : 1 ≤ s) (u : s ≤ 8) (lo : count_in (counts_of log) s < q) (hi : q ≤ count_in (counts_of more) s) where
    found : HeldOp more s q (op_at more s q)
    found = good_ops Good-more s q l u (omega arith) hi

    pub one_of_new : has new (op_at more s q) ≡ true
    one_of_new =
        let z : Op = op_at more s q in
        let there = (tracks_log more Good-more).outside z (op_in more (good_ops Good-more) s q l u (omega arith) hi) in
        ⊎_elim
        (λ (e : has new z ≡ true). e)
        (λ (e : has (concat log) z ≡ true).
        let old = rw (found.origin, found.number) at ((tracks_log log good).inside z e).here in
        absurd (omega arith))
        (has_either new (concat log) z (sym (ops z) ∙ there))

  -- a replica without a new op
  pub none_new : (s : ℕ) → 1 ≤ s → s ≤ 8 → ((z : Op) → has new z ≡ true → replica_of z ≡ s → ⊥)
      → count_in (counts_of more) s ≡ count_in (counts_of log) s
  none_new s l u none = elim (dec_le (count_in (counts_of more) s) (count_in (counts_of log) s)) [
    | yes h ↦ omega (arith, new_extends.counts s l u)
    | no h ↦
        let q : ℕ = count_in (counts_of more) s in
        let lo : count_in (counts_of log) s < q = omega arith in
        absurd (none _ (one_of_new s q l u lo (le_refl q)) (found s q l u lo (le_refl q)).origin)
  ]

  -- a new op that is the next of its replica, and the only new one of it
  module _ (s : ℕ) (r : Op) (is_new : has new r ≡ true) (from : replica_of r ≡ s) (next : seq_of r ≡ count_in (counts_of log) s + 1) where
    pub new_op_law : op_at more s (count_in (counts_of log) s + 1) ≡ r
    new_op_law = rw (from, next) at (new_there r is_new).there

    pub new_count : ((z : Op) → has new z ≡ true → replica_of z ≡ s → z ≡ r) → count_in (counts_of more) s ≡ count_in (counts_of log) s + 1
    new_count alone =
        let i = new_there r is_new in
        let l = rw from at i.low in
        let u = rw from at i.high in
        let q : ℕ = count_in (counts_of more) s in
        let lo : count_in (counts_of log) s < q = omega (arith, rw (from, next) at i.here) in
        let last = found s q l u lo (le_refl q) in
        let is : op_at more s q ≡ r = alone (op_at more s q) (one_of_new s q l u lo (le_refl q)) last.origin in
        let n = rw is at last.number in
        omega arith
