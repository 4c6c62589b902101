-- What true upward moves that saw one log come to, where they are all that is added to it.
use Prim.Native.Nat.{◌≤◌, ◌<◌, ◌+◌, ℕ, suc, zero}
use borrow.Author.Tests.{eq-eqb, eqb-true, lt-ltb, ltb-true}
use lib.Dec.{eqb}
use lib.ListN.{length}
use mathlib.Core.Bool.{Bool, true, false, cond, not, ◌&&◌}
use mathlib.Core.List.{List, [], ◌∷◌, ◌++◌, map}
use mathlib.Core.Logic.{⊎_elim}
use mathlib.Core.Path.{refl, ap, ◌≡◌, ◌∙◌, sym}
use native.Mathlib.Decide.{dec_le}
use native.Mathlib.Omega.{arith}
use Rattle.lists.specs.Lists.{any, concat, filter, is_in, same}
use Rattle.lists.proofs.BoolLaws.{and_both, and_left, and_right, both_ways, fails, never}
use Rattle.lists.proofs.FilterLaws.{filter_alike}
use Rattle.lists.proofs.ListLaws.{same_eq, same_refl}
use Rattle.rules.specs.File.{Log, counts_of}
use Rattle.rules.specs.Log.{known_parent}
use Rattle.rules.specs.Op.{Op, count_in, node_of, own_count, parent_of, replica_of, seq_of}
use Rattle.rules.specs.Replay.{outcome_slot, parents_of}
use Rattle.rules.specs.Tree.{parent_in}
use Rattle.rules.proofs.KnownLaws.{named_valid, parent_reads}
use Rattle.rules.proofs.StructureLaws.{GoodLog, good_ops}
use Rattle.order.specs.Claims.{Distinct}
use Rattle.order.proofs.LateLaws.{Late}
use Rattle.convergence.specs.Clash.{next_slot}
use Rattle.convergence.specs.Exchange.{has, times}
use Rattle.convergence.proofs.AddedLaws.{new_extends, new_op_law, new_there, one_of_new}
use Rattle.convergence.proofs.HasLaws.{all_has, any_has, each_has, has_any, map_has, times_none, times_once}
use Rattle.convergence.proofs.TrackLaws.{tracks_log}
use Rattle.tidy_up.specs.TidyUp.{HighestWins, applied_to, none_lost, one_applied, outcome_in, outranks}
use Rattle.tidy_up.proofs.UpwardLaws.{Mover, New, TrueUp, fair_outcome, moved_there, new_op, old_there, stayed_there}

-- ops of different replicas stand in a list once
stand_once : (ops : List Op) (r : Op) → Distinct (map replica_of ops) → times ops r ≤ 1
unfolding times filter
stand_once [] r d = omega arith
stand_once (x ∷ ops) r d = go (same r x) refl (stand_once ops r d.1)
  where
    go : (b : Bool) → same r x ≡ b → times ops r ≤ 1 → length (cond b (x ∷ filter (same r) ops) (filter (same r) ops)) ≤ 1
    go true e h =
        let gone : has ops r ≡ false = fails (has ops r) (λ i. d.0 (rw (same_eq r x e) at (map_has replica_of ops r i))) in
        omega (arith, times_none ops r gone)
    go false e h = h

-- an op that another outranks
outranked : (ops : List Op) (r z : Op) → has ops z ≡ true → node_of z ≡ node_of r → replica_of r < replica_of z
    → any (outranks r) ops ≡ true
unfolding outranks
outranked ops r z h n above = any_has (outranks r) ops z h (and_both (eq-eqb _ _ n) (lt-ltb _ _ above))

outranking : (ops : List Op) (r : Op) → any (outranks r) ops ≡ true
    → (z : Op) × (has ops z ≡ true) × (node_of z ≡ node_of r) × (replica_of r < replica_of z)
unfolding outranks
outranking ops r e =
    let (z, h, q) = has_any (outranks r) ops e in
    let same_node = eqb (node_of z) (node_of r) in
    (z, h, eqb-true _ _ (and_left same_node _ q), ltb-true _ _ (and_right same_node _ q))

module _ (log more : Log) (good : GoodLog log) (Good-more : GoodLog more) (ops : List Op)
    (only : (z : Op) → has (concat more) z ≡ has (ops ++ concat log) z) (true_up : (r : Op) → has ops r ≡ true → TrueUp log r) where
  late : Late log more
  late = record {
    extends = new_extends log more good Good-more ops only;
    vector = λ s q l u lo hi. (true_up _ (one_of_new log more good Good-more ops only s q l u lo hi)).saw;
  }

  ---- the ops by replica

  is_one : (s : ℕ) → New log more s → has ops (new_op log more s) ≡ true
  is_one s a = one_of_new log more good Good-more ops only s _ a.low a.high (omega arith) (omega (arith, a.beyond))

  of_replica_law : (s : ℕ) → New log more s → replica_of (new_op log more s) ≡ s
  of_replica_law s a = (good_ops Good-more s (count_in (counts_of log) s + 1) a.low a.high (omega arith) (omega (arith, a.beyond))).origin

  truth : (s : ℕ) → New log more s → TrueUp log (new_op log more s)
  truth s a = true_up (new_op log more s) (is_one s a)

  module _ (r : Op) (h : has ops r ≡ true) where
    next : seq_of r ≡ count_in (counts_of log) (replica_of r) + 1
    unfolding seq_of own_count
    next = rw (true_up r h).saw

    is_new : New log more (replica_of r)
    is_new =
        let i = new_there log more good Good-more ops only r h in
        record { low = i.low; high = i.high; beyond = omega (arith, i.here, next) }

    op_is : new_op log more (replica_of r) ≡ r
    op_is = new_op_law log more good Good-more ops only (replica_of r) r h refl next

    slot_is : next_slot log (replica_of r) ≡ outcome_slot r
    unfolding next_slot outcome_slot
    slot_is = rw next

  -- a replica has one of them at most
  by_replica : (r z : Op) → has ops r ≡ true → has ops z ≡ true → replica_of r ≡ replica_of z → r ≡ z
  by_replica r z h i e = sym (op_is r h) ∙ ap (new_op log more) e ∙ op_is z i

  ---- outcomes

  module _ (r : Op) (h : has ops r ≡ true) where
    abbrev Above : Type 0
    Above = Mover log more (replica_of r) (node_of r)

    above_ranks : Above → any (outranks r) ops ≡ true
    above_ranks (t, l, a, e) =
        let above : replica_of r < replica_of (new_op log more t) = rw (of_replica_law t a) l in
        outranked ops r (new_op log more t) (is_one t a) e above

    ranks_above : any (outranks r) ops ≡ true → Above
    ranks_above e =
        let (z, i, n, above) = outranking ops r e in
        (replica_of z, above, is_new z i, ap node_of (op_is z i) ∙ n)

    outcome_is : outcome_in more r ≡ cond (any (outranks r) ops) 2 1
    unfolding outcome_in
    outcome_is =
        let fair = rw (slot_is r h, op_is r h) at (fair_outcome log more late good Good-more truth (replica_of r) (is_new r h)) in
        ⊎_elim
        (λ x. let free : any (outranks r) ops ≡ false = fails _ (λ e. x.1 (ranks_above e)) in rw free x.0)
        (λ x. rw (above_ranks x.1) x.0)
        fair

    moved : any (outranks r) ops ≡ false → parent_in (parents_of more) (node_of r) ≡ parent_of r
    unfolding parent_in
    moved e =
        rw (op_is r h) at (moved_there log more late good Good-more truth (replica_of r) (is_new r h)
        (λ p. never (sym e ∙ above_ranks (rw (op_is r h) at p))))

  stayed : (n : ℕ) → known_parent log (counts_of log) n ≡ true → is_in n (map node_of ops) ≡ false
      → parent_in (parents_of more) n ≡ parent_in (parents_of log) n
  unfolding parent_in
  stayed n k e =
      let valid = named_valid log (counts_of log) n (parent_reads log (counts_of log) n k) in
      stayed_there log more late good Good-more truth n valid (λ s a is.
      never (sym e ∙ rw is at (map_has node_of ops (new_op log more s) (is_one s a))))

  old_outcome : (r : Op) → has (concat log) r ≡ true → outcome_in more r ≡ outcome_in log r
  unfolding outcome_in
  old_outcome r h = old_there log more late good Good-more truth r ((tracks_log log good).inside r h)

  pub highest_wins : HighestWins log more ops
  highest_wins = record { outcome = outcome_is; old_outcome = old_outcome; moved = moved; stayed = stayed }

  ---- none is lost

  pub none_lost_law : none_lost more ops ≡ true
  unfolding none_lost
  none_lost_law = all_has _ ops (λ r h. rw (outcome_is r h) (go (any (outranks r) ops)))
    where
      go : (b : Bool) → not (eqb (cond b 2 1) 3) ≡ true
      go true = refl
      go false = refl

  ---- one is applied

  -- of those that move the node of r, one that none outranks
  abbrev Winner : Op → Type 0
  Winner r = (w : Op) × (has ops w ≡ true) × (node_of w ≡ node_of r) × (any (outranks w) ops ≡ false)

  higher : (r : Op) → has ops r ≡ true
      → ((z : Op) → has ops z ≡ true → node_of z ≡ node_of r → replica_of r < replica_of z → Winner r) → Winner r
  higher r h up = go (any (outranks r) ops) refl
    where
      go : (b : Bool) → any (outranks r) ops ≡ b → Winner r
      go true e = let (z, i, n, above) = outranking ops r e in up z i n above
      go false e = (r, h, refl, e)

  highest : (k : ℕ) (r : Op) → has ops r ≡ true → 8 ≤ replica_of r + k → Winner r
  highest zero r h l = higher r h (λ z i n above. absurd (omega (arith, (is_new z i).high)))
  highest (suc k) r h l = higher r h (λ z i n above.
      let (w, j, m, free) = highest k z i (omega arith) in
      (w, j, m ∙ n, free))

  applied_free : (r : Op) → has ops r ≡ true → outcome_in more r ≡ 1 → any (outranks r) ops ≡ false
  applied_free r h e = go (any (outranks r) ops) (sym (outcome_is r h) ∙ e)
    where
      go : (b : Bool) → ◌≡◌ {A = ℕ} (cond b 2 1) 1 → b ≡ false
      go true z = absurd (omega arith)
      go false z = refl

  -- two that none outranks, of one node, are one
  alone : (r z : Op) → has ops r ≡ true → has ops z ≡ true → node_of r ≡ node_of z
      → any (outranks r) ops ≡ false → any (outranks z) ops ≡ false → r ≡ z
  alone r z h i n free free' = elim (dec_le (replica_of r) (replica_of z)) [
    | yes le ↦ elim (dec_le (replica_of z) (replica_of r)) [
      | yes ge ↦ by_replica r z h i (omega arith)
      | no lt ↦ never (sym free ∙ outranked ops r z i (sym n) (omega arith))
    ]
    | no gt ↦ never (sym free' ∙ outranked ops z r h n (omega arith))
  ]

  module _ (different : Distinct (map replica_of ops)) (n : ℕ) (w : Op) (h : has ops w ≡ true) (is : node_of w ≡ n)
      (free : any (outranks w) ops ≡ false) where
    abbrev passes : Op → Bool
    passes r = eqb (node_of r) n && eqb (outcome_in more r) 1

    only_w : (r : Op) → has ops r ≡ true → passes r ≡ same w r
    only_w r i = both_ways (passes r) (same w r) there back
      where
        there : passes r ≡ true → same w r ≡ true
        there e =
            let n_is = eqb-true (node_of r) n (and_left (eqb (node_of r) n) _ e) in
            let one = eqb-true (outcome_in more r) 1 (and_right (eqb (node_of r) n) _ e) in
            let it = alone w r h i (is ∙ sym n_is) free (applied_free r i one) in
            rw (← it) (same_refl w)

        back : same w r ≡ true → passes r ≡ true
        back e = rw (← same_eq w r e) (and_both (eq-eqb _ _ is) (eq-eqb _ _ (outcome_is w h ∙ rw free)))

    one_there : applied_to more ops n ≡ 1
    unfolding applied_to times
    one_there = ap length (filter_alike passes (same w) ops (each_has _ ops only_w)) ∙ times_once ops w (stand_once ops w different) ∙ rw h

  pub one_applied_law : Distinct (map replica_of ops) → one_applied more ops ≡ true
  unfolding one_applied
  one_applied_law different = all_has _ ops (λ r h.
      let (w, i, n, free) = highest 8 r h (omega arith) in
      eq-eqb _ 1 (one_there different (node_of r) w i n free))
