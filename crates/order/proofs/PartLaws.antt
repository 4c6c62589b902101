-- The part and the whole: the order of a cut is the order of any greater one without the ops that it does not count.
use Prim.Native.Nat.{ℕ, suc, ◌+◌, ◌-◌, ◌≤◌, ◌<◌}
use lib.Dec.{ltb}
use lib.ListN.{take, get_or}
use mathlib.Core.Bool.{Bool, true}
use mathlib.Core.List.{List, [], map}
use mathlib.Core.Path.{◌≡◌, sym, ap, ◌∙◌}
use native.Mathlib.Omega.{arith}
use Rattle.lists.specs.Lists.{up_from, down_from, concat, filter, greatest}
use Rattle.lists.proofs.FilterLaws.{filter_concat, filter_front, filter_swap}
use Rattle.lists.proofs.ListLaws.{map_concat}
use Rattle.lists.proofs.RangeLaws.{map_down_from, map_up_from}
use Rattle.rules.specs.File.{Log, op_at, ops_of}
use Rattle.rules.specs.Log.{covered}
use Rattle.rules.specs.Op.{Vector, count_in, counted, replica_of, replicas, seq_of}
use Rattle.rules.specs.Replay.{Stamped, stamp, stamped, of_replica, of_kind, of_time, ordered, ops_within, timestamp}
use Rattle.rules.specs.Tree.{slots}
use Rattle.rules.proofs.CausalLaws.{Le}
use Rattle.rules.proofs.StructureLaws.{GoodLog, good_ops, held_in}
use Rattle.order.proofs.LevelLaws.{by_time_more, counted_bound, stamped_times, timestamp_bound}

-- a cut counts an op with its timestamp
abbrev pub in_cut : Vector → Stamped → Bool
in_cut v x = counted v x.op

times_bound : (log : Log) (v : Vector) → greatest (map (λ (y : Stamped). y.time) (stamped log v)) ≤ slots
unfolding stamped timestamp
times_bound log v =
    rw (stamped_times log (ops_within log v)) (counted_bound log v (timestamp log) slots
    (λ s q l u lq uq. timestamp_bound slots log (op_at log s q)))

-- what passes of an order is the order of what passes
module _ (p : Stamped → Bool) (xs : List Stamped) where
  filter_kind : (t k : ℕ) → filter p (of_kind xs t k) ≡ of_kind (filter p xs) t k
  unfolding of_kind of_replica
  filter_kind t k =
      filter_concat p (of_replica xs t k) (down_from 8)
      ∙ ap concat (map_down_from (λ s. filter p (of_replica xs t k s)) (of_replica (filter p xs) t k) 8 (λ s l u. filter_swap p _ xs))

  filter_time : (t : ℕ) → filter p (of_time xs t) ≡ of_time (filter p xs) t
  unfolding of_time
  filter_time t =
      filter_concat p (of_kind xs t) (up_from 1 4)
      ∙ ap concat (map_up_from (λ k. filter p (of_kind xs t k)) (of_kind (filter p xs) t) 4 1 (λ k a b. filter_kind t k))

module _ (log : Log) (good : GoodLog log) (v w : Vector) (cw : covered log w ≡ true) (le : Le v w) where
  in_part : (s i : ℕ) → 1 ≤ s → s ≤ 8 → i < count_in w s → in_cut v (stamp log (get_or (ops_of log s) i [])) ≡ ltb i (count_in v s)
  unfolding stamp op_at
  in_part s i l u h =
      let e : i + 1 - 1 ≡ i = omega arith in
      let x = good_ops good s (i + 1) l u (omega arith) (omega (arith, held_in log w cw s l u)) in
      let o : replica_of (get_or (ops_of log s) i []) ≡ s = rw e at x.origin in
      let n : seq_of (get_or (ops_of log s) i []) ≡ suc i = rw e at x.number ∙ omega arith in
      rw (o, n)

  stamped_part : filter (in_cut v) (stamped log w) ≡ stamped log v
  unfolding stamped ops_within replicas
  stamped_part =
      ap (filter (in_cut v)) (map_concat (stamp log) (λ s. take (count_in w s) (ops_of log s)) (up_from 1 8))
      ∙ filter_concat (in_cut v) (λ s. map (stamp log) (take (count_in w s) (ops_of log s))) (up_from 1 8)
      ∙ ap concat (map_up_from (λ s. filter (in_cut v) (map (stamp log) (take (count_in w s) (ops_of log s))))
      (λ s. map (stamp log) (take (count_in v s) (ops_of log s))) 8 1
      (λ s l u. filter_front (in_cut v) (stamp log) [] (count_in v s) (count_in w s) (ops_of log s) (le s l (omega arith))
      (λ i a b. in_part s i l (omega arith) a)))
      ∙ sym (map_concat (stamp log) (λ s. take (count_in v s) (ops_of log s)) (up_from 1 8))

  -- the order of a part is that of the whole without the rest
  pub ordered_part : ordered log v ≡ filter (in_cut v) (ordered log w)
  unfolding ordered
  ordered_part =
      by_time_more (stamped log v) slots (times_bound log v)
      ∙ ap concat (map_up_from (of_time (stamped log v)) (λ t. filter (in_cut v) (of_time (stamped log w) t)) slots 1 (λ t a b.
      ap (λ xs. of_time xs t) (sym stamped_part) ∙ sym (filter_time (in_cut v) (stamped log w) t)))
      ∙ sym (filter_concat (in_cut v) (of_time (stamped log w)) (up_from 1 slots))
      ∙ ap (filter (in_cut v)) (sym (by_time_more (stamped log w) slots (times_bound log w)))
