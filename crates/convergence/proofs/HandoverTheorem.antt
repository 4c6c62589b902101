-- Ops offered in an order in which the sums of their counts do not fall are never early.
use mathlib.Core.Path.{◌≡◌, ap, refl, sym}
use Rattle.convergence.specs.Exchange.{Pair, Side, other, run, Site, has}
use Rattle.convergence.proofs.Converge.{u, su, wu, stands}
use Rattle.convergence.specs.Converges.{meeting}
use mathlib.Core.List.{List, ◌∷◌, []}
use Rattle.rules.specs.File.{Extends, Log, largest, log_of, width, op_at, ops_of}
use Rattle.rules.proofs.StructureLaws.{GoodLog, HeldOp, good_ops, count_held, held_in}
use Rattle.convergence.specs.Handover.{weight, HandedOver, NeverEarly, NotFalling, deliver_all}
use Rattle.convergence.proofs.KeptLaws.{Kept, log_in, kept_good, kept_wide, kept_run, kept_standing}
use Rattle.rules.specs.Op.{Op, replica_of, seq_of, vector_of, count_in}
use Rattle.rules.proofs.InLaws.{OpIn, in_more, op_in}
use Rattle.rules.proofs.SoundLaws.{SoundLog}
use Rattle.convergence.proofs.RoundLaws.{Stands}
use Rattle.convergence.proofs.DeliverAllLaws.{kept_all, all_is, all_answered}
use Rattle.rules.proofs.TurnLaws.{CausalOrder, HeldOrComing, InTurn, all_taken, no_room, in_turn}
use Rattle.rules.proofs.WayLaws.{room_in_full}
use Rattle.rules.specs.Bundle.{turns_answer, turns_buffer}
use Rattle.lists.proofs.EachLaws.{Each}
use Rattle.rules.proofs.FileLaws.{WideLog, wide_at, wide_op}
use Rattle.rules.proofs.AppendLaws.{seq_positive, extends_within}
use Rattle.rules.proofs.CausalLaws.{total, total_sum, counted_less}
use mathlib.Core.Bool.{◌||◌, true}
use Prim.Native.Nat.{◌≤◌, ℕ, ◌-◌, ◌<◌}
use lib.ListN.{length, drop, length-drop, length-take, take}
use Rattle.rules.specs.Answer.{Answer}
use Rattle.lists.specs.Lists.{any, same}
use Rattle.lists.proofs.BoolLaws.{or_cases}
use Rattle.lists.proofs.ListLaws.{same_eq}
use native.Mathlib.Omega.{arith}
use mathlib.Core.Logic.{⊎_elim, inl, inr}
use Rattle.convergence.proofs.HasLaws.{each_has}

-- an op of a log, its vector, and the sum of its counts
module _ (log : Log) (good : GoodLog log) (wide : WideLog width log) (r : Op) (i : OpIn log r) where
  held_here : HeldOp log (replica_of r) (seq_of r) r
  held_here = rw i.there at (good_ops good (replica_of r) (seq_of r) i.low i.high (seq_positive r) i.here)

  long : length r ≡ width
  unfolding op_at ops_of
  long =
      let n : seq_of r - 1 < length (ops_of log (replica_of r)) = omega (arith, i.here, seq_positive r, count_held log (replica_of r)) in
      rw i.there at (wide_op width (ops_of log (replica_of r)) (seq_of r - 1) (wide_at width log (replica_of r - 1) wide) n)

  weight_total : weight r ≡ total (vector_of r)
  unfolding weight vector_of
  weight_total =
      let e : length (take 8 (drop 6 r)) ≡ 8 = rw (length-take, length-drop, long) in
      sym (total_sum (take 8 (drop 6 r)) e)

-- x takes the ops of y in turn; both logs lie within u
module _ (u : Log) (su : SoundLog u) (wu : WideLog width u) (base : List ℕ) (big : largest width ≤ length base)
    (y : Site) (ky : Kept y) (yu : Extends (log_in y) u) where
  abbrev from_y : Log
  from_y = log_in y

  good_y : GoodLog from_y
  good_y = kept_good y ky

  -- what an op's vector counts has a smaller sum
  lighter : (r : Op) → OpIn from_y r → (t k : ℕ) → 1 ≤ t → t ≤ 8 → 1 ≤ k → k ≤ count_in (vector_of r) t → weight (op_at from_y t k) < weight r
  lighter r i t k l h lk uk =
      let x = held_here from_y good_y (kept_wide y ky) r i in
      let o = op_in from_y (good_ops good_y) t k l h lk (omega (arith, held_in from_y (vector_of r) x.is_covered t l h)) in
      let less = counted_less from_y (good_ops good_y) (vector_of r) x.is_covered x.is_closed t k l h lk uk in
      omega (arith, weight_total from_y good_y (kept_wide y ky) r i, weight_total from_y good_y (kept_wide y ky) (op_at from_y t k) o)

  -- so sums that do not fall are a causal order
  in_order : (ops : List Op) → Each (OpIn from_y) ops → NotFalling ops → CausalOrder from_y ops
  unfolding has any
  in_order [] is order = tt
  in_order (r ∷ ops) is order = (
    λ t k l h lk uk e.
        let less = lighter r is.0 t k l h lk uk in
        let z : Op = op_at from_y t k in
        ⊎_elim (λ (q : same z r ≡ true). let w : weight z ≡ weight r = ap weight (same_eq z r q) in omega arith)
        (λ (q : has ops z ≡ true). let w = order.0 z q in omega arith) (or_cases (same z r) (has ops z) e),
    in_order ops is.1 order.1,
  )

  module _ (x : Site) (s : Stands u base x) (ops : List Op) (from : (r : Op) → has ops r ≡ true → has y.held r ≡ true)
      (rest : (r : Op) → has y.held r ≡ true → (has x.held r || has ops r) ≡ true) (order : NotFalling ops) where
    all_in : Each (OpIn from_y) ops
    all_in = each_has (OpIn from_y) ops (λ r e. ky.tracks.inside r (from r e))

    coming : HeldOrComing width from_y x.buffer ops
    unfolding has
    coming t k l h lk uk =
        let o = op_in from_y (good_ops good_y) t k l h lk uk in
        let n = good_ops good_y t k l h lk uk in
        ⊎_elim (λ (e : has x.held (op_at from_y t k) ≡ true). inl (rw (n.origin, n.number) at (s.kept.tracks.inside _ e).here))
        (λ (e : has ops (op_at from_y t k) ≡ true). inr e)
        (or_cases (has x.held (op_at from_y t k)) (has ops (op_at from_y t k)) (rest _ (ky.tracks.outside _ o)))

    hand : HandedOver x y ops
    hand = go refl (in_turn width u su wu base from_y good_y yu ops x.buffer s.way all_in (in_order ops all_in order) coming)
      where
        go : {a : Answer} → turns_answer width x.buffer ops ≡ a → InTurn width u from_y base x.buffer ops a → HandedOver x y ops
        go e (no_room few) = absurd (omega (arith, room_in_full width u su base big))
        go e (all_taken on counts) =
            let after : log_in (deliver_all x ops) ≡ log_of width (turns_buffer width x.buffer ops) = rw (all_is ops x) in
            let more : Extends from_y (log_in (deliver_all x ops)) =
            rw after (extends_within from_y (log_of width (turns_buffer width x.buffer ops)) u yu on.on_way.inside counts) in
            record {
              answers = all_answered ops x _ e;
              arrived = λ r i. (kept_all ops x s.kept).tracks.outside r (in_more from_y _ more r (ky.tracks.inside r i));
            }

pub never_early : NeverEarly
unfolding meeting
never_early start calls rest long big ag d ops from all order =
    let p : Pair = meeting start calls rest in
    let k : (e : Side) → Kept (p e) = λ e. kept_standing (run (start e) (calls e)) (rest e) (kept_run (start e) (calls e) (long e)) in
    let within = stands p k big ag in
    hand (u p k big ag) (su p k big ag) (wu p k big ag) (p d).buffer (big d) (p (other d)) (k (other d)) (within (other d)).way.inside
    (p d) (within d) ops from all order
