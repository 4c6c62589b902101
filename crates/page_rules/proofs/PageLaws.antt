-- A log with one op more: the old order is the new one without it, and how many ops stand behind it.
use Prim.Native.Nat.{ℕ, suc, ◌+◌, ◌*◌, ◌-◌, ◌≤◌, ◌<◌}
use borrow.Author.Tests.{eq-eqb, leb-true, leb-false}
use lib.ListN.{take, drop, drop_of_length-le, get_or, length, length-append, length-drop, length-map, take-append-drop}
use lib.Seq.{drop_at, drop-cons, get_or-take, length-take-le, take_at}
use mathlib.Core.Bool.{true, false}
use mathlib.Core.List.{List, [], ◌∷◌, ◌++◌, map, map-append}
use mathlib.Core.Path.{◌≡◌, refl, sym, ap, ◌∙◌}
use native.Mathlib.Decide.{dec_le, ℕ_discrete}
use native.Mathlib.Omega.{arith}
use Rattle.lists.specs.Lists.{filter, index_of, is_in}
use Rattle.lists.proofs.BoolLaws.{fails}
use Rattle.lists.proofs.EachLaws.{Each, each_at, each_both, each_left, each_map, each_of, each_of_map}
use Rattle.lists.proofs.FilterLaws.{filter_append, filter_each, filter_full}
use Rattle.lists.proofs.MemberLaws.{each_in, index_behind}
use Rattle.rules.specs.File.{Log, append, counts_of}
use Rattle.rules.specs.Op.{Op, Vector, count_in, replica_of, seq_of}
use Rattle.page_rules.specs.Claims.{SortsIn}
use Rattle.page_rules.specs.Page.{page_at, page_of, sort_after}
use Rattle.rules.specs.Replay.{Stamped, order_of, ordered, outcome_slot, stamp}
use Rattle.rules.specs.Tree.{slot}
use Rattle.rules.proofs.AppendLaws.{Admits, closed_more, extends, good_append, in_range, new_seq, other_count, own_count_law, sum_append}
use Rattle.rules.proofs.CausalLaws.{total, total_sum, within_length}
use Rattle.rules.proofs.ExtendLaws.{Alike, alike_more, ordered_alike, replay_alike}
use Rattle.rules.proofs.IssueLaws.{counts_eight}
use Rattle.rules.proofs.StructureLaws.{GoodLog, counts_closed, counts_covered, good_ops, held_in}
use Rattle.order.specs.Undo.{FirstNew, no_op}
use Rattle.order.proofs.LevelLaws.{Cut, whole_cut}
use Rattle.order.proofs.OnceLaws.{ordered_length}
use Rattle.order.proofs.OrderLaws.{ordered_each}
use Rattle.order.proofs.PartLaws.{in_cut, ordered_part}

---- a cut that lacks one op

module _ (log : Log) (good : GoodLog log) (old : Vector) (is : Cut log old) (one : total (counts_of log) ≡ suc (total old)) where
  abbrev xs : List Stamped
  xs = ordered log (counts_of log)

  part : ordered log old ≡ filter (in_cut old) xs
  part = ordered_part log good old (counts_of log) (counts_covered log) (held_in log old is.is_covered)

  one_longer : length xs ≡ suc (length (filter (in_cut old) xs))
  one_longer =
      ordered_length log good (counts_of log) (whole_cut log good) ∙ within_length log (counts_of log) (counts_covered log) ∙ one
      ∙ ap suc (sym (ap length (sym part) ∙ ordered_length log good old is ∙ within_length log old is.is_covered))

  -- it stands behind those that the cut counts, up to place i
  module _ (i : ℕ) (at : FirstNew log old i) where
    front_each : Each (λ x. in_cut old x ≡ true) (take i xs)
    front_each = each_of (λ x. in_cut old x ≡ true) (take i xs) no_op (λ k l.
        let u : k < i = omega (arith, length-take-le i xs at.inside) in
        rw (get_or-take i xs k no_op u) (at.front k u))

    counted_front : filter (in_cut old) xs ≡ take i xs ++ filter (in_cut old) (drop i xs)
    counted_front =
        ap (filter (in_cut old)) (sym (take-append-drop i xs)) ∙ filter_append (in_cut old) (take i xs) (drop i xs)
        ∙ ap (λ ys. ys ++ filter (in_cut old) (drop i xs)) (filter_each (in_cut old) (take i xs) front_each)

    front_length : length (take i xs) ≡ i
    front_length = length-take-le i xs at.inside

    pub place_within : i < length xs
    unfolding filter
    place_within = elim (dec_le (length xs) i) [
      | yes h ↦
          let none : drop i xs ≡ [] = drop_of_length-le xs h in
          let n = ap length counted_front ∙ length-append (take i xs) (filter (in_cut old) (drop i xs)) in
          let z : length (filter (in_cut old) (drop i xs)) ≡ 0 = rw none in
          absurd (omega (arith, one_longer, n, z, front_length))
      | no h ↦ omega arith
    ]

    pub counted_back : filter (in_cut old) (drop i xs) ≡ drop (suc i) xs
    unfolding filter
    counted_back =
        let rest : List Stamped = drop (suc i) xs in
        let first : drop i xs ≡ get_or xs i no_op ∷ rest = drop-cons xs i no_op place_within in
        let passed : filter (in_cut old) (drop i xs) ≡ filter (in_cut old) rest = rw (first, at.here place_within) in
        let n = ap length counted_front ∙ length-append (take i xs) (filter (in_cut old) (drop i xs)) in
        passed ∙ filter_full (in_cut old) rest (omega (arith, one_longer, n, front_length, ap length passed, length-drop (suc i) xs))

    pub old_ordered : ordered log old ≡ take i xs ++ drop (suc i) xs
    old_ordered = part ∙ counted_front ∙ ap (λ ys. take i xs ++ ys) counted_back

---- a log with an op that it admits

module _ (log : Log) (good : GoodLog log) (r : Op) (h : Admits log r) where
  abbrev pub more : Log
  more = append log r

  abbrev pub old : Vector
  old = counts_of log

  pub good_more : GoodLog more
  good_more = good_append log r good h

  alike : Alike log more old
  alike = alike_more log more (extends log r good h) old (counts_covered log) (counts_closed log good)

  pub old_cut : Cut more old
  old_cut = record { is_covered = alike.there; is_closed = closed_more log more old alike.same ∙ counts_closed log good }

  pub one_more : total (counts_of more) ≡ suc (total old)
  one_more =
      let b = in_range log r good h in
      omega (
        arith,
        total_sum (counts_of more) (counts_eight more good_more),
        total_sum old (counts_eight log good),
        sum_append log r good.eight b.0 b.1,
      )

  -- the page of the log is that of the cut at its counts
  pub page_before : page_at more old ≡ page_of log
  unfolding page_of page_at order_of
  page_before = rw (ordered_alike log more (good_ops good) old alike, replay_alike log more (good_ops good) old alike)

  -- of the ops of the new order just the new one is not counted
  record NewOrOld (x : Stamped) : Type 0 where
    pub before : in_cut old x ≡ true → outcome_slot r ≡ outcome_slot x.op → ⊥
    pub new : in_cut old x ≡ false → outcome_slot x.op ≡ outcome_slot r

  told : Each NewOrOld (ordered more (counts_of more))
  unfolding stamp outcome_slot slot
  told = ordered_each more (counts_of more) NewOrOld (λ s q l u lq uq.
      let b = in_range log r good h in
      let x = good_ops good_more s q l u lq uq in
      let few = good_more.counts s l u in
      let own = good_more.counts (replica_of r) b.0 b.1 in
      record {
        before = λ c e.
            let k : q ≤ count_in old s = leb-true _ _ (rw (x.origin, x.number) at c) in
            let z : 255 * (replica_of r - 1) + seq_of r ≡ 255 * (s - 1) + q = rw (x.origin, x.number) at e in
            let same : s ≡ replica_of r = omega (arith, new_seq log r good h, own_count_law log r good h, b.0) in
            omega (arith, new_seq log r good h, z, k, ap (count_in old) same);
        new = λ c.
            let k : count_in old s < q = leb-false _ _ (rw (x.origin, x.number) at c) in
            elim (ℕ_discrete s (replica_of r)) [
              | yes e ↦
                  let own = own_count_law log r good h in
                  let number : q ≡ seq_of r = omega (arith, new_seq log r good h, own, ap (count_in old) e, ap (count_in (counts_of more)) e) in
                  rw (x.origin, x.number, e, number)
              | no ne ↦ absurd (omega (arith, other_count log r good h s l ne))
            ];
      })

  abbrev order : List ℕ
  order = order_of more (counts_of more)

  not_before : (xs : List Stamped) → Each NewOrOld xs → Each (λ x. in_cut old x ≡ true) xs
      → is_in (outcome_slot r) (map (λ (x : Stamped). outcome_slot x.op) xs) ≡ false
  not_before xs t c = fails _ (λ e. each_in (λ i. outcome_slot r ≡ i → ⊥) (map (λ (x : Stamped). outcome_slot x.op) xs)
      (each_of_map (λ i. outcome_slot r ≡ i → ⊥) (λ (x : Stamped). outcome_slot x.op) xs
      (each_map _ _ xs (λ x y. y.0.before y.1) (each_both NewOrOld (λ x. in_cut old x ≡ true) xs t c))) (outcome_slot r) e refl)

  module _ (i : ℕ) (at : FirstNew more old i) where
    abbrev ys : List Stamped
    ys = ordered more (counts_of more)

    abbrev slots_of_law : List Stamped → List ℕ
    slots_of_law = map (λ (x : Stamped). outcome_slot x.op)

    pub within : i < length ys
    within = place_within more good_more old old_cut one_more i at

    abbrev it : Stamped
    it = get_or ys i no_op

    parts : ys ≡ take i ys ++ (it ∷ drop (suc i) ys)
    parts = sym (take-append-drop i ys) ∙ ap (λ zs. take i ys ++ zs) (drop-cons ys i no_op within)

    own : outcome_slot it.op ≡ outcome_slot r
    own = (each_at NewOrOld ys no_op i told within).new (at.here within)

    front_size : length (slots_of_law (take i ys)) ≡ i
    front_size = length-map (take i ys) _ ∙ length-take-le i ys at.inside

    -- the place of the new op
    place_is : index_of (outcome_slot r) order ≡ i
    unfolding order_of index_of
    place_is =
        let rest : List Stamped = drop (suc i) ys in
        let t : Each NewOrOld (take i ys) = each_left NewOrOld (take i ys) (drop i ys) (rw (take-append-drop i ys) told) in
        let c = front_each more good_more old old_cut one_more i at in
        let first : index_of (outcome_slot r) (slots_of_law (it ∷ rest)) ≡ 0 = rw (eq-eqb (outcome_slot r) (outcome_slot it.op) (sym own)) in
        ap (λ zs. index_of (outcome_slot r) (slots_of_law zs)) parts
        ∙ rw (
          map-append,
          index_behind (outcome_slot r) (slots_of_law (take i ys)) (slots_of_law (it ∷ rest)) (not_before (take i ys) t c),
          first,
          front_size,
        ) (omega arith)

    pub behind_is : sort_after log r ≡ length (drop (suc i) order)
    unfolding sort_after
    behind_is = rw place_is

    -- the old order is the new one without it
    old_slots : order_of log old ≡ slots_of_law (take i ys) ++ slots_of_law (drop (suc i) ys)
    unfolding order_of
    old_slots =
        ap slots_of_law (sym (ordered_alike log more (good_ops good) old alike) ∙ old_ordered more good_more old old_cut one_more i at)
        ∙ map-append _ (take i ys) (drop (suc i) ys)

    pub sorts_in : SortsIn log r (sort_after log r)
    unfolding order_of
    sorts_in =
        let front : List ℕ = slots_of_law (take i ys) in
        let back : List ℕ = slots_of_law (drop (suc i) ys) in
        let before : take i (order_of log old) ≡ front = rw (old_slots) (take_at front back i front_size) in
        let after : drop i (order_of log old) ≡ back = rw (old_slots) (drop_at front back i front_size) in
        record {
          place = i;
          order = ap slots_of_law parts ∙ map-append _ (take i ys) (it ∷ drop (suc i) ys)
              ∙ rw (before, after) (ap (λ (k : ℕ). front ++ (k ∷ back)) own);
          after = behind_is ∙ rw (after, length-drop, length-map, length-map, length-drop);
        }
