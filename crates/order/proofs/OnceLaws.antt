-- Every op of a cut is judged exactly once: the order is a rearrangement of the ops of the cut.
use lib.ListN.{length, length-map}
use mathlib.Core.Path.{◌≡◌, refl, sym, ap, ◌∙◌}
use mathlib.Core.Bool.{Bool, true, cond, ◌&&◌}
use mathlib.Core.List.{List, map}
use Prim.Native.Nat.{ℕ, ◌≤◌}
use native.Mathlib.Omega.{arith}
use lib.Dec.{leb, eqb}
use borrow.Author.Tests.{le-leb}
use Rattle.lists.specs.Lists.{filter, all, up_from, down_from, concat, greatest}
use Rattle.rules.specs.Replay.{Stamped, ops_within, stamp, stamped, of_replica, of_kind, of_time, by_time, ordered, timestamp}
use Rattle.rules.specs.Op.{kind_of, count_in, replica_of, Op, Vector}
use Rattle.rules.specs.File.{Log, op_at}
use Rattle.rules.proofs.StructureLaws.{HeldOp, held_in, good_ops, GoodLog}
use Rattle.lists.proofs.BoolLaws.{and_both}
use Rattle.order.proofs.LevelLaws.{Cut, counted_bound, positive, stamped_times, counted_value}
use Rattle.rules.proofs.KnownLaws.{kinds}
use Rattle.lists.proofs.AllLaws.{all_filter, all_of_map}
use Rattle.lists.proofs.GreatestLaws.{all_greatest}
use Rattle.lists.proofs.FilterLaws.{filter_both, filter_every, of_key, tally, tally_concat, tally_down, tally_up}

---- the order

module _ (P : Stamped → Bool) (xs : List Stamped) (n : ℕ) (times : all (λ x. leb 1 x.time && leb x.time n) xs ≡ true)
    (kinds : all (λ x. leb 1 (kind_of x.op) && leb (kind_of x.op) 4) xs ≡ true)
    (seats : all (λ x. leb 1 (replica_of x.op) && leb (replica_of x.op) 8) xs ≡ true) where
  abbrev at : ℕ → List Stamped
  at t = filter (λ x. eqb x.time t) xs

  of_kind_law : (t k : ℕ) → tally P (of_kind xs t k) ≡ tally P (filter (λ x. eqb (kind_of x.op) k) (at t))
  unfolding of_kind of_replica
  of_kind_law t k =
      let ys : List Stamped = filter (λ x. eqb (kind_of x.op) k) (at t) in
      tally_concat P _ (of_key P (λ x. replica_of x.op) ys) (down_from 8)
      (λ s. ap (tally P) (filter_both (λ x. eqb x.time t && eqb (kind_of x.op) k) (λ x. eqb (replica_of x.op) s) xs
      ∙ ap (filter (λ x. eqb (replica_of x.op) s)) (filter_both (λ x. eqb x.time t) (λ x. eqb (kind_of x.op) k) xs)))
      ∙ tally_down P (λ x. replica_of x.op) ys 8 (all_filter _ _ (at t) (all_filter _ _ xs seats))

  of_time_law : (t : ℕ) → tally P (of_time xs t) ≡ tally P (at t)
  unfolding of_time
  of_time_law t =
      tally_concat P (of_kind xs t) (of_key P (λ x. kind_of x.op) (at t)) (up_from 1 4) (of_kind_law t)
      ∙ tally_up P (λ x. kind_of x.op) (at t) 4 (all_filter _ _ xs kinds)

  all_times : tally P (concat (map (of_time xs) (up_from 1 n))) ≡ tally P xs
  all_times = tally_concat P (of_time xs) at (up_from 1 n) of_time_law ∙ tally_up P (λ x. x.time) xs n times

---- the ops of a cut

module _ (log : Log) (good : GoodLog log) (cut : Vector) (is : Cut log cut) where
  within_all : (p : Op → Bool) → ((s q : ℕ) → 1 ≤ s → s ≤ 8 → 1 ≤ q → q ≤ count_in cut s → p (op_at log s q) ≡ true)
      → all p (ops_within log cut) ≡ true
  within_all p h =
      all_greatest p (ops_within log cut) (counted_bound log cut (λ r. cond (p r) 0 1) 0
      (λ s q l u lq uq. rw (h s q l u lq uq) (omega arith)))

  held : (s q : ℕ) → 1 ≤ s → s ≤ 8 → 1 ≤ q → q ≤ count_in cut s → HeldOp log s q (op_at log s q)
  held s q l u lq uq = good_ops good s q l u lq (omega (arith, held_in log cut is.is_covered s l u))

  latest : (s q : ℕ) → 1 ≤ s → s ≤ 8 → 1 ≤ q → q ≤ count_in cut s
      → timestamp log (op_at log s q) ≤ greatest (map (λ (x : Stamped). x.time) (map (stamp log) (ops_within log cut)))
  latest s q l u lq uq =
      rw (stamped_times log (ops_within log cut)) (counted_value log cut (timestamp log) s q l u lq uq
      (omega (arith, held_in log cut is.is_covered s l u)))

  -- whatever is asked of the ops, as many of the order pass as of the cut
  pub ordered_once : (P : Stamped → Bool) → length (filter P (ordered log cut)) ≡ length (filter P (stamped log cut))
  unfolding ordered by_time stamped stamp
  ordered_once P =
      let g : ℕ = greatest (map (λ (x : Stamped). x.time) (map (stamp log) (ops_within log cut))) in
      all_times P (map (stamp log) (ops_within log cut)) g
      (all_of_map _ (stamp log) (ops_within log cut)
      ∙ within_all _ (λ s q l u lq uq. and_both
      (le-leb 1 _ (positive log good s q l u lq (omega (arith, held_in log cut is.is_covered s l u))))
      (le-leb _ g (latest s q l u lq uq))))
      (all_of_map _ (stamp log) (ops_within log cut) ∙ within_all _ (λ s q l u lq uq. let k = kinds (op_at log s q)
      (held s q l u lq uq).formed in and_both (le-leb 1 _ k.0) (le-leb _ 4 k.1)))
      (all_of_map _ (stamp log) (ops_within log cut) ∙ within_all _ (λ s q l u lq uq. let o = (held s q l u lq uq).origin in rw o
      (and_both (le-leb 1 s l) (le-leb s 8 u))))

  pub ordered_length : length (ordered log cut) ≡ length (ops_within log cut)
  unfolding stamped
  ordered_length =
      sym (ap length (filter_every (λ _. true) (ordered log cut) (λ x. refl))) ∙ ordered_once (λ _. true)
      ∙ ap length (filter_every (λ _. true) (stamped log cut) (λ x. refl)) ∙ length-map (ops_within log cut) (stamp log)
