-- Ops that are issued from one log, with its counts as their vectors, are replayed after all of it, as one level.
use Prim.Native.Nat.{suc, ℕ, ◌≤◌, ◌<◌, ◌+◌, ◌-◌}
use lib.Dec.{eqb}
use lib.ListN.{take, drop}
use lib.Seq.{get_or-drop, take-add}
use mathlib.Core.Bool.{cond}
use mathlib.Core.List.{map, ◌++◌, append-nil, map-append, [], ◌∷◌}
use mathlib.Core.Logic.{⊎_elim}
use mathlib.Core.Path.{ap, ◌∙◌, ◌≡◌, ap₂, sym}
use native.Mathlib.Decide.{dec_le}
use native.Mathlib.Omega.{arith}
use Rattle.order.proofs.RunLaws.{op_ready, op_none}
use Rattle.order.proofs.LevelLaws.{AtLevel, time_of, counted_value, Cut, whole_cut, equation, off_time, of_replica_law, by_time_more, matches, stamped_times, one_level, counted_bound, status}
use Rattle.order.specs.Levels.{level, ready_ops, ready_op}
use Rattle.rules.proofs.AppendLaws.{closed_more}
use Rattle.lists.proofs.RangeLaws.{map_down_from, map_up_from, up_from_add}
use Rattle.lists.proofs.FilterLaws.{filter_append, filter_none}
use Rattle.lists.proofs.ListLaws.{concat_append}
use Rattle.rules.proofs.StructureLaws.{GoodLog, good_ops, counts_covered, counts_closed}
use Rattle.rules.proofs.TimeLaws.{map_within}
use Rattle.lists.specs.Lists.{greatest, concat, up_from, filter}
use Rattle.rules.specs.File.{Log, counts_of, op_at, ops_of, Extends}
use Rattle.rules.specs.Op.{Vector, count_in, vector_of, Op, kind_of}
use Rattle.rules.specs.Replay.{timestamp, of_time, ordered, ops_within, of_kind, of_replica, stamped, Stamped, stamp}
use Rattle.rules.proofs.ExtendLaws.{Alike, alike_more, inner_alike, ordered_alike, timestamp_alike, within_alike}

-- more is log and, of each replica, perhaps one op with the held counts of log as its vector
pub record Late (log more : Log) : Type 0 where
  pub extends : Extends log more
  pub vector : (s q : ℕ) → 1 ≤ s → s ≤ 8 → count_in (counts_of log) s < q → q ≤ count_in (counts_of more) s
      → vector_of (op_at more s q) ≡ counts_of log

module _ (log more : Log) (x : Late log more) (good : GoodLog log) (good_more : GoodLog more) where
  abbrev held : Vector
  held = counts_of log

  abbrev all_held : Vector
  all_held = counts_of more

  -- the greatest timestamp of the log; a late op's is the next
  unfoldable pub top : ℕ
  top = greatest (map (timestamp log) (ops_within log held))

  -- what the first log holds, the second replays alike
  alike : Alike log more held
  alike = alike_more log more x.extends held (counts_covered log) (counts_closed log good)

  held_cut : Cut more held
  held_cut = record { is_covered = alike.there; is_closed = closed_more log more held alike.same ∙ counts_closed log good }

  all_cut : Cut more all_held
  all_cut = whole_cut more good_more

  times_within : map (timestamp more) (ops_within more held) ≡ map (timestamp log) (ops_within log held)
  times_within =
      rw (within_alike log more held alike) (map_within (timestamp more) (timestamp log) log held (λ s q l u lq uq.
      timestamp_alike log more (good_ops good) (op_at log s q) (inner_alike log more (good_ops good) held alike s q l u lq uq)))

  early_time : (s q : ℕ) → 1 ≤ s → s ≤ 8 → 1 ≤ q → q ≤ count_in held s → time_of more good_more s q ≤ top
  unfolding top
  early_time s q l u lq uq =
      rw (← times_within) (counted_value more held (timestamp more) s q l u lq uq (omega (arith, x.extends.counts s l u)))

  late_time : (s q : ℕ) → 1 ≤ s → s ≤ 8 → count_in held s < q → q ≤ count_in all_held s → time_of more good_more s q ≡ suc top
  unfolding top
  late_time s q l u lq uq =
      let e : time_of more good_more s q ≡ 1 + top = equation more good_more s q l u (omega arith) uq
      ∙ rw (x.vector s q l u lq uq, times_within) in
      omega arith

  last_level : AtLevel more good_more all_held all_cut (suc top) held
  last_level = record {
    inside = x.extends.counts;
    low = λ s q l u lq uq. omega (arith, early_time s q l u lq uq);
    high = λ s q l u lq uq. omega (arith, late_time s q l u lq uq);
  }

  -- no late op has an earlier time
  late_none : (t k s : ℕ) → t ≤ top → 1 ≤ s → s ≤ 8 → of_replica (stamped more all_held) t k s ≡ of_replica (stamped more held) t k s
  late_none t k s h l u =
      let b = x.extends.counts s l u in
      let d : ℕ = count_in all_held s - count_in held s in
      let e : count_in all_held s ≡ count_in held s + d = omega arith in
      let none : filter (matches t k s) (map (stamp more) (take d (drop (count_in held s) (ops_of more s)))) ≡ [] =
      filter_none (matches t k s) (stamp more) [] d (drop (count_in held s) (ops_of more s)) (λ i a c.
      rw (get_or-drop (count_in held s) (ops_of more s) i []) (off_time more good_more all_held all_cut t k s (count_in held s + i) l u
      (omega arith) (λ z.
      omega (arith, late_time s (count_in held s + i + 1) l u (omega arith) (omega arith))))) in
      of_replica_law more good_more all_held all_cut t k s l u ∙ rw (
        e,
        take-add (count_in held s) d (ops_of more s),
        map-append,
        filter_append,
        none,
        append-nil,
        of_replica_law more good_more held held_cut t k s l u,
      )

  early_times : (t : ℕ) → t ≤ top → of_time (stamped more all_held) t ≡ of_time (stamped more held) t
  unfolding of_time of_kind
  early_times t h =
      ap concat (map_up_from (of_kind (stamped more all_held) t) (of_kind (stamped more held) t) 4 1 (λ k a b.
      ap concat (map_down_from (of_replica (stamped more all_held) t k) (of_replica (stamped more held) t k) 8
      (λ s l u. late_none t k s h l u))))

  pub ordered_late : ordered more all_held ≡ ordered log held ++ level more (suc top) (ready_ops more all_held held)
  unfolding ordered stamped up_from concat
  ordered_late =
      by_time_more (stamped more all_held) (top + 1) all_times ∙ rw (up_from_add 1 top 1, map-append, concat_append, append-nil)
      (ap₂ ◌++◌ early last)
    where
      all_times : greatest (map (λ (y : Stamped). y.time) (stamped more all_held)) ≤ top + 1
      all_times =
          rw (stamped_times more (ops_within more all_held)) (counted_bound more all_held (timestamp more) (top + 1)
          (λ s q l u lq uq. elim (dec_le q (count_in held s)) [
            | yes h ↦ omega (arith, early_time s q l u lq h)
            | no h ↦ omega (arith, late_time s q l u (omega arith) uq)
          ]))

      held_times : greatest (map (λ (y : Stamped). y.time) (stamped more held)) ≤ top
      held_times =
          rw (stamped_times more (ops_within more held)) (counted_bound more held (timestamp more) top
          (λ s q l u lq uq. early_time s q l u lq uq))

      early : concat (map (of_time (stamped more all_held)) (up_from 1 top)) ≡ ordered log held
      early =
          ap concat (map_up_from (of_time (stamped more all_held)) (of_time (stamped more held)) top 1 (λ t a b. early_times t (omega arith)))
          ∙ sym (by_time_more (stamped more held) top held_times)
          ∙ ordered_alike log more (good_ops good) held alike

      last : of_time (stamped more all_held) (1 + top) ≡ level more (suc top) (ready_ops more all_held held)
      last =
          ap (of_time (stamped more all_held)) (omega arith) ∙ one_level more good_more all_held all_cut (suc top) (omega arith) held
          last_level

  ---- the entries of that level

  module _ (k s : ℕ) (l : 1 ≤ s) (u : s ≤ 8) where
    abbrev late_op : Op
    late_op = op_at more s (count_in held s + 1)

    pub late_ready : count_in held s < count_in all_held s → ready_op more (suc top) (ready_ops more all_held held) k s ≡ cond
        (eqb (kind_of late_op) k) (record { time = suc top; op = late_op } ∷ []) []
    late_ready h = ⊎_elim
        (λ y. op_ready more good_more all_held all_cut (suc top) (omega arith) held last_level k s l u y.0)
        (λ y. absurd (omega (arith, y.1 h, late_time s (count_in held s + 1) l u (omega arith) (omega arith))))
        (status more good_more all_held all_cut (suc top) (omega arith) held last_level s l u)

    pub late_empty : count_in all_held s ≡ count_in held s → ready_op more (suc top) (ready_ops more all_held held) k s ≡ []
    late_empty e = ⊎_elim
        (λ y. absurd (omega (arith, y.1)))
        (λ y. op_none more good_more all_held all_cut (suc top) (omega arith) held last_level k s l u y.0)
        (status more good_more all_held all_cut (suc top) (omega arith) held last_level s l u)
