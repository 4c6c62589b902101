-- Carrying a replay along an order, as the code has it.
use mathlib.Core.Path.{◌≡◌, refl, sym, ap, ◌∙◌}
use mathlib.Core.List.{List, ◌++◌, map, map-append, foldl}
use Prim.Native.Nat.{ℕ, ◌+◌, ◌<◌}
use native.Mathlib.Omega.{arith}
use lib.ListN.{length, length-append, get_or, take, drop}
use Rattle.std.proofs.lemmas.List.{drop_at, get_or-append-add, get_or_append_left, take_at}
use Rattle.lists.specs.Lists.{filter}
use Rattle.lists.proofs.EachLaws.{each_of, each_of_map}
use Rattle.lists.proofs.FilterLaws.{filter_map}
use Rattle.lists.proofs.ListLaws.{map_map}
use Rattle.rules.specs.Op.{Op, Vector, counted}
use Rattle.rules.specs.File.{Log, log_of}
use Rattle.rules.specs.Replay.{Stamped, ordered}
use Rattle.rules.proofs.CausalLaws.{within_le}
use Rattle.rules.proofs.StructureLaws.{structural_good}
use Rattle.order.specs.Undo.{Undoable, replay_keeping, step_keeping, take_back}
use Rattle.order.proofs.CarryLaws.{Agrees, carried}
use Rattle.order.proofs.PartLaws.{in_cut}
use Rattle.order.proofs.UndoLaws.{ops_in}
use Rattle.schedule.specs.declared.entries.Entry.{Entry}
use Rattle.schedule.specs.Schedule.{stamped_of}
use Rattle.effect.specs.Effects.{Applicable}
use Rattle.replay.specs.Tables.{Along, no_entry}
use Rattle.undo.specs.Tables.{ops_along, timed_along}
use Rattle.undo.specs.Carried.{Carriable}
use Rattle.undo.proofs.KeepLaws.{counted_slot}

-- the ops of entries are those of their stamped ops
pub ops_are : (log : Log) (cut : Vector) (es : List Entry) → ops_along log cut es ≡ ops_in (timed_along log cut es)
unfolding ops_along timed_along stamped_of
ops_are log cut es =
    ap (filter (λ (r : Op). counted cut r)) (sym (map_map (λ (y : Stamped). y.op) (stamped_of log) es))
    ∙ filter_map (λ (r : Op). counted cut r) (λ (y : Stamped). y.op) (map (stamped_of log) es)

module _ (w : ℕ) (f : List ℕ) (before after : Vector) (rest : List Entry) (k : Undoable) (x : Carriable w f before after rest k) where
  abbrev log : Log
  log = log_of w f

  pub rest_asks : Along w f rest
  rest_asks = record {
    is_structural = x.along.is_structural;
    in_slots = λ i d h.
        rw get_or-append-add at (x.along.in_slots (length x.front + i) d (omega (arith, length-append x.front rest)));
  }

  front_applicable : (i : ℕ) → i < length x.front → Applicable w f (get_or x.front i no_entry)
  front_applicable i h = record {
    is_structural = x.along.is_structural;
    in_slot = rw get_or_append_left at (x.along.in_slots i no_entry (omega (arith, length-append x.front rest)));
  }

  -- the order is that of the front and of the rest
  abbrev place : ℕ
  place = length (map (stamped_of log) x.front)

  order_is : ordered log x.whole ≡ map (stamped_of log) x.front ++ map (stamped_of log) rest
  order_is = sym x.schedules.ops ∙ map-append (stamped_of log) x.front rest

  front_is : take place (ordered log x.whole) ≡ map (stamped_of log) x.front
  front_is = rw order_is (take_at (map (stamped_of log) x.front) _ _ refl)

  back_is : drop place (ordered log x.whole) ≡ map (stamped_of log) rest
  back_is = rw order_is (drop_at (map (stamped_of log) x.front) _ _ refl)

  front_agrees : Agrees before after (take place (ordered log x.whole))
  unfolding stamped_of
  front_agrees =
      rw front_is
      (each_of_map (λ y. in_cut before y ≡ in_cut after y) (stamped_of log) x.front
      (each_of (λ (e : Entry). in_cut before (stamped_of log e) ≡ in_cut after (stamped_of log e)) x.front no_entry (λ i h.
      let a = front_applicable i h in
      let e : Entry = get_or x.front i no_entry in
      counted_slot w f e a before ∙ x.agrees i h ∙ sym (counted_slot w f e a after))))

  pub carries : (back : Undoable) → back ≡ take_back k (ops_along log before rest) → (forth : Undoable)
      → forth ≡ foldl step_keeping back (timed_along log after rest) → forth ≡ replay_keeping log after
  unfolding timed_along
  carries back b forth e =
      let y = x.schedules in
      e ∙ rw (b, ops_are log before rest, ← back_is, x.replayed)
      (carried log (structural_good w f x.along.is_structural) before after x.whole y.is_covered
      (within_le before x.whole x.before_inside) (within_le after x.whole x.after_inside) place front_agrees)
