-- Bringing a page on to a log with one op more, as the code has it.
use mathlib.Core.Path.{◌≡◌, refl, sym, ap, ap₂, ◌∙◌}
use mathlib.Core.Bool.{Bool, true, false}
use mathlib.Core.List.{List, [], ◌∷◌, ◌++◌, append_assoc, map, map-append, foldl}
use Prim.Native.Nat.{ℕ, zero, suc, ◌+◌, ◌-◌, ◌≤◌, ◌<◌}
use native.Mathlib.Omega.{arith}
use lib.ListN.{drop, get_or, length, length-append, length-drop, length-map, length-replicate, replicate, set, take}
use lib.Seq.{drop-append-le, length-take-le, take-append-le}
use borrow.Author.Tests.{le-leb}
use Rattle.lists.specs.Lists.{filter, sum}
use Rattle.lists.proofs.ListLaws.{map_at, map_drop, map_map, map_take}
use Rattle.std.proofs.lemmas.List.{get_or-take, set_at, take_all, take-append-drop, take_more}
use Rattle.rules.specs.Op.{Vector, count_in, counted}
use Rattle.rules.specs.File.{Log, counts_of, header_counts, log_of, width}
use Rattle.rules.specs.Log.{covered, sound_header, structural}
use Rattle.page_rules.specs.Page.{Page, page_filled, padded, page, page_at, page_of, shows}
use Rattle.rules.specs.Replay.{State, Stamped, order_of, ordered, outcome_slot, replay, start}
use Rattle.rules.specs.Tree.{most_ops}
use Rattle.rules.proofs.CausalLaws.{Le, le_within, total, total_sum, within_le, within_length}
use Rattle.rules.proofs.FileLaws.{counts_at, counts_log_of}
use Rattle.rules.proofs.IssueLaws.{counts_eight}
use Rattle.rules.proofs.StepLaws.{Full, full_first, full_run}
use Rattle.rules.proofs.StructureLaws.{GoodLog, counts_covered, structural_good}
use Rattle.order.specs.Undo.{FirstNew, Undoable, no_op, replay_keeping, step_keeping, unjudged}
use Rattle.order.proofs.LevelLaws.{Cut, whole_cut}
use Rattle.order.proofs.OnceLaws.{ordered_length}
use Rattle.page_rules.proofs.PageLaws.{counted_back, old_ordered, place_within}
use Rattle.order.proofs.PartLaws.{in_cut, ordered_part}
use Rattle.order.proofs.UndoLaws.{replay_keeping_law}
use Rattle.tree.specs.Slots.{op_in, replica_in, sequence_in}
use Rattle.schedule.specs.declared.entries.Entry.{Entry}
use Rattle.schedule.specs.Schedule.{entry_of, scheduled, stamped_of}
use Rattle.schedule.specs.Level.{SchedulableCut}
use Rattle.schedule.proofs.OrderLaws.{entries_are, few_ops}
use Rattle.effect.specs.Effects.{Applicable}
use Rattle.replay.specs.Tables.{Along, no_entry}
use Rattle.replay.proofs.CutLaws.{along_asks, whole_asks, whole_header, whole_sound}
use Rattle.undo.specs.Tables.{ops_along, slot_counted, timed_along}
use Rattle.undo.specs.Carried.{Carriable, FirstBeyond, Schedules, Slots}
use Rattle.undo.proofs.CarryLaws.{ops_are}
use Rattle.undo.proofs.KeepLaws.{counted_slot, is_slot}
use Rattle.page_tables.specs.Tables.{Comparable, FillablePage, order_without}
use Rattle.page.specs.Renewing.{OneMore, Renewable, Took, slot_in_entry}

---- the tables of a replay

state_parents : (k : Undoable) (log : Log) (cut : Vector) → k ≡ replay_keeping log cut → k.state.parents ≡ (replay log cut).parents
state_parents k log cut is = ap (λ (k : Undoable). k.state.parents) is ∙ ap (λ (st : State). st.parents) (replay_keeping_law log cut)

state_outcomes : (k : Undoable) (log : Log) (cut : Vector) → k ≡ replay_keeping log cut → k.state.outcomes ≡ (replay log cut).outcomes
state_outcomes k log cut is = ap (λ (k : Undoable). k.state.outcomes) is ∙ ap (λ (st : State). st.outcomes) (replay_keeping_law log cut)

---- the tables of the order

zeros : ℕ → List ℕ
zeros n = replicate n 0

zeros_more : (n : ℕ) → zeros n ++ (0 ∷ []) ≡ zeros (suc n)
unfolding zeros
zeros_more zero = refl
zeros_more (suc n) = ap (λ (ys : List ℕ). 0 ∷ ys) (zeros_more n)

-- an order with zeros behind it, without one of its entries
padded_without : (i : ℕ) (ys : List ℕ) → i < length ys → length ys ≤ most_ops
    → order_without i (padded ys) ≡ padded (take i ys ++ drop (suc i) ys)
unfolding order_without padded zeros
padded_without i ys h u =
    let rest : length (take i ys ++ drop (suc i) ys) ≡ length ys - 1 =
    length-append (take i ys) (drop (suc i) ys) ∙ omega (arith, length-take-le i ys (omega arith), length-drop (suc i) ys) in
    let more : most_ops - length (take i ys ++ drop (suc i) ys) ≡ suc (most_ops - length ys) = omega (arith, rest) in
    rw (
      more,
      take-append-le i ys (replicate (most_ops - length ys) 0) (omega arith),
      drop-append-le (suc i) ys (replicate (most_ops - length ys) 0) (omega arith),
      append_assoc,
      append_assoc,
    ) (ap (λ zs. take i ys ++ (drop (suc i) ys ++ zs)) (zeros_more (most_ops - length ys)))

-- the loop that writes the slots of entries: i of them are written
pub slots_more : (es : List Entry) (i : ℕ) (d : Entry) → i < length es → length es ≤ most_ops → (s : List ℕ)
    → s ≡ padded (map slot_in_entry (take i es)) → set s i (get_or es i d).slot ≡ padded (map slot_in_entry (take (i + 1) es))
unfolding padded
slots_more es i d h few s is =
    let ys : List ℕ = map slot_in_entry (take i es) in
    let long : length ys ≡ i = length-map (take i es) slot_in_entry ∙ length-take-le i es (omega arith) in
    let left : most_ops - length ys ≡ suc (most_ops - (length ys + 1)) = omega (arith, long) in
    rw (
      is,
      left,
      set_at ys 0 (replicate (most_ops - (length ys + 1)) 0) (get_or es i d).slot i long,
      take_more es i d h,
      map-append,
      length-append,
      append_assoc,
    )

pub slots_none : replicate most_ops 0 ≡ padded (map slot_in_entry [])
unfolding padded
slots_none = refl

module _ (f : List ℕ) (old : Vector) (g : OneMore f old) where
  pub file_header : 32 ≤ length f
  file_header = whole_header width f g.is_structural

  pub file_sound : sound_header width f ≡ true
  file_sound = whole_sound width f g.is_structural

  pub order_asks : (all : Vector) → all ≡ header_counts f → SchedulableCut width f all
  order_asks all is = whole_asks width f all is g.is_structural (omega arith)

module _ (f : List ℕ) (old all : Vector) (es : List Entry) (ls lp lo : List ℕ) (x : Renewable f old all es ls lp lo) where
  abbrev log : Log
  log = log_of width f

  st : structural width f ≡ true
  st = x.grown.is_structural

  good : GoodLog log
  good = structural_good width f st

  cut : SchedulableCut width f all
  cut = order_asks f old x.grown all x.counts

  counts_all : counts_of log ≡ all
  counts_all = counts_log_of width f ∙ sym x.counts

  abbrev xs : List Stamped
  xs = ordered log all

  count : length es ≡ length xs
  unfolding scheduled
  count = ap length x.is_scheduled ∙ length-map xs entry_of

  pub few : length es ≤ most_ops
  few = omega (arith, count, few_ops width f st all cut.held cut.is_closed)

  -- the slots of all ops
  slots_are : map slot_in_entry es ≡ order_of log all
  unfolding scheduled order_of entry_of
  slots_are = rw x.is_scheduled (map_map slot_in_entry entry_of xs)

  table_long : (s : List ℕ) → s ≡ padded (map slot_in_entry es) → length s ≡ most_ops
  unfolding padded
  table_long s is = rw (is, length-append, length-replicate, length-map) (omega (arith, few))

  pub along : Along width f es
  along = along_asks width f all cut es x.is_scheduled

  applicable : (i : ℕ) → i < length es → Applicable width f (get_or es i no_entry)
  applicable i h = record { is_structural = st; in_slot = along.in_slots i no_entry h }

  stamped_is : map (stamped_of log) es ≡ xs
  stamped_is = rw x.is_scheduled (entries_are width f all st cut.held)

  op_at_place : (i : ℕ) → i < length es → op_in log (get_or es i no_entry).slot ≡ (get_or xs i no_op).op
  unfolding stamped_of
  op_at_place i h =
      ap (λ (y : Stamped). y.op)
      (sym (map_at (stamped_of log) es i no_op no_entry h) ∙ ap (λ (ys : List Stamped). get_or ys i no_op) stamped_is)

  all_counted : (k : ℕ) → k < length es → slot_counted all (get_or es k no_entry).slot ≡ true
  unfolding slot_counted
  all_counted k h =
      let i : ℕ = (get_or es k no_entry).slot in
      let y = (along.in_slots k no_entry h).in_file in
      le-leb (sequence_in i) _ (rw (x.counts, counts_at f (replica_in i) y.low y.high) y.last)

  pub slots_ask : Slots es
  slots_ask = λ i d h. is_slot width f (get_or es i d) (record { is_structural = st; in_slot = along.in_slots i d h })

  schedules : Schedules width f es all
  unfolding covered
  schedules = record {
    is_covered = le_within all (counts_of log) (λ r a c. omega (arith, ap (λ (v : Vector). count_in v r) counts_all));
    ops = stamped_is;
  }

  -- tables of a judgement
  fill_so : (v : Vector) (judged : Undoable) → judged ≡ replay_keeping log v → (s : List ℕ) → s ≡ padded (map slot_in_entry es)
      → FillablePage ls lp lo s judged.state.parents judged.state.outcomes
  unfolding replay
  fill_so v judged is s is' =
      let full : Full (replay log v) = full_run (ordered log v) start full_first in
      record {
        lent = x.lent;
        judged = record {
          order = table_long s is';
          parents = rw (state_parents judged log v is) full.parents_full;
          outcomes = rw (state_outcomes judged log v is) full.outcomes_full;
        };
      }

  ---- the judgement of the old ops

  old_le : Le old all
  old_le = rw x.counts (within_le old (header_counts f) x.grown.inside)

  old_cut : Cut log old
  unfolding covered
  old_cut = record {
    is_covered = le_within old (counts_of log) (λ r a c. omega (arith, old_le r a c, ap (λ (v : Vector). count_in v r) counts_all));
    is_closed = x.grown.is_closed;
  }

  one : total (counts_of log) ≡ suc (total old)
  one =
      omega (
        arith,
        total_sum (counts_of log) (counts_eight log good),
        total_sum old x.grown.eight,
        x.grown.one,
        ap sum (counts_log_of width f),
      )

  count_old : suc (sum old) ≡ length es
  count_old =
      let m : length es ≡ length (ordered log (counts_of log)) = count ∙ rw counts_all in
      omega (
        arith,
        m,
        ordered_length log good (counts_of log) (whole_cut log good),
        within_length log (counts_of log) (counts_covered log),
        one,
        total_sum old x.grown.eight,
      )

  module _ (none judged : Undoable) (first_is : none ≡ unjudged) (is : judged ≡ foldl step_keeping none (timed_along log old es)) where
    judged_old : judged ≡ replay_keeping log old
    unfolding replay_keeping timed_along
    judged_old =
        is ∙ rw (first_is, stamped_is)
        (ap (foldl step_keeping unjudged) (sym (ordered_part log good old all schedules.is_covered old_le)))

    module _ (i : ℕ) (first : FirstBeyond old es i) where
      counted_at : (k : ℕ) → k < length es
          → slot_counted old (get_or es k no_entry).slot ≡ counted old (get_or (ordered log (counts_of log)) k no_op).op
      counted_at k h = sym (counted_slot width f (get_or es k no_entry) (applicable k h) old) ∙ rw (op_at_place k h, counts_all)

      first_new : FirstNew log old i
      first_new =
          let m : length (ordered log (counts_of log)) ≡ length es = rw (counts_all) (sym count) in
          record {
            inside = omega (arith, first.inside);
            front = λ k h. sym (counted_at k (omega (arith, first.inside))) ∙ first.front k h;
            here = λ h. sym (counted_at i (omega arith)) ∙ first.here (omega arith);
          }

      inside : i < length es
      inside = rw (count, ← counts_all) (place_within log good old old_cut one i first_new)

      pub shows_asks : (s : List ℕ) → s ≡ padded (map slot_in_entry es) → Comparable ls lp lo s i judged.state.parents judged.state.outcomes
      shows_asks s is' = record {
        fillable = fill_so old judged judged_old s is';
        inside = omega (arith, inside, few);
      }

      -- what the code carries along: the slice from there on
      abbrev rest : List Entry
      rest = take (length es - i) (drop i es)

      rest_is : rest ≡ drop i es
      rest_is = take_all (length es - i) (drop i es) (omega (arith, length-drop i es))

      pub carry_asks : Carriable width f old all rest judged
      carry_asks =
          let whole = take-append-drop i es in
          record {
            whole = all;
            front = take i es;
            along = rw (rest_is, whole) along;
            schedules = rw (rest_is, whole) schedules;
            before_inside = le_within old all old_le;
            after_inside = le_within all all (λ r a c. omega arith);
            agrees = λ k h.
                let l : k < i = omega (arith, h, length-take-le i es first.inside) in
                rw (get_or-take i es k no_entry l) (first.front k l ∙ sym (all_counted k (omega (arith, first.inside))));
            replayed = judged_old;
          }

      old_page : (s : List ℕ) → s ≡ padded (map slot_in_entry es)
          → page (order_without i s) judged.state.parents judged.state.outcomes ≡ page_at log old
      unfolding page_at order_of
      old_page s is' =
          let ys = order_of log all in
          let slot_of : Stamped → ℕ = λ x. outcome_slot x.op in
          let old_order : order_of log old ≡ take i ys ++ drop (suc i) ys =
          ap (map slot_of) (rw counts_all at (old_ordered log good old old_cut one i first_new))
          ∙ map-append slot_of (take i xs) (drop (suc i) xs) ∙ ap₂ ◌++◌ (map_take slot_of i xs) (map_drop slot_of (suc i) xs) in
          let long : length ys ≡ length es = length-map xs slot_of ∙ sym count in
          rw (old_order, is', slots_are, padded_without i ys (omega (arith, long, inside)) (omega (arith, long, few)))
          (ap₂ (page (padded (take i ys ++ drop (suc i) ys))) (state_parents judged log old judged_old)
          (state_outcomes judged log old judged_old))

      back_count : length (ops_along log old rest) ≡ length (drop (suc i) (order_of log (counts_of log)))
      unfolding order_of timed_along
      back_count =
          let zs : List Stamped = ordered log (counts_of log) in
          let back : filter (in_cut old) (drop i xs) ≡ drop (suc i) xs =
          rw counts_all at (counted_back log good old old_cut one i first_new) in
          rw (
            rest_is,
            ops_are log old (drop i es),
            map_drop (stamped_of log) i es,
            stamped_is,
            back,
            length-map,
            length-drop,
            length-drop,
            length-map,
            counts_all,
          )

      module _ (s : List ℕ) (is' : s ≡ padded (map slot_in_entry es)) (shown : Bool)
          (so : shown ≡ shows (page ls lp lo) (page (order_without i s) judged.state.parents judged.state.outcomes)) where
        pub took_back : shown ≡ true → (r : ℕ) → r ≡ length (ops_along log old rest) → Took log old (page ls lp lo) r
        took_back e r taken = record { place = i; first = first_new; number = rw (← old_page s is', ← so, e) (taken ∙ back_count) }

        pub took_all : shown ≡ false → Took log old (page ls lp lo) (length es - 1)
        took_all e = record { place = i; first = first_new; number = rw (← old_page s is', ← so, e) (omega (arith, count_old)) }

  -- the whole judgement
  module _ (judged : Undoable) (is : judged ≡ replay_keeping log all) (s : List ℕ) (is' : s ≡ padded (map slot_in_entry es)) where
    pub fill_asks : FillablePage ls lp lo s judged.state.parents judged.state.outcomes
    fill_asks = fill_so all judged is s is'

    pub page_new : (q : Page) → q ≡ page_filled (page ls lp lo) (page s judged.state.parents judged.state.outcomes)
        → q ≡ page_filled (page ls lp lo) (page_of log)
    unfolding page_of page_at
    page_new q e = e ∙ rw (is', slots_are, counts_all, state_parents judged log all is, state_outcomes judged log all is)

  pub some : 1 ≤ length es
  some = omega (arith, count_old)
