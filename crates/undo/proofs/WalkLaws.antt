-- Judging and taking back along entries, as the code has it.
use mathlib.Core.Path.{◌≡◌, refl, sym, ap, ◌∙◌}
use mathlib.Core.Bool.{true, false, cond}
use mathlib.Core.List.{List, [], ◌∷◌, ◌++◌, map, map-append, append-nil, foldl, foldl-append}
use Prim.Native.Nat.{ℕ, ◌+◌, ◌≤◌, ◌<◌}
use native.Mathlib.Omega.{arith}
use lib.ListN.{get_or, length, length-append, take}
use Rattle.std.proofs.lemmas.List.{take_more}
use Rattle.lists.specs.Lists.{filter}
use Rattle.lists.proofs.FilterLaws.{filter_append}
use Rattle.lists.proofs.EachLaws.{Each, each_left, each_of, each_right}
use Rattle.rules.specs.Op.{Op, Vector, counted}
use Rattle.rules.specs.File.{Log, log_of}
use Rattle.rules.specs.Replay.{Stamped}
use Rattle.order.specs.Undo.{Undoable, step_keeping, take_back, undo}
use Rattle.order.proofs.UndoLaws.{take_back_last}
use Rattle.tree.specs.Slots.{op_in}
use Rattle.schedule.specs.declared.entries.Entry.{Entry}
use Rattle.schedule.specs.Schedule.{stamped_of}
use Rattle.effect.specs.Effects.{Applicable}
use Rattle.replay.specs.Tables.{Along, no_entry}
use Rattle.undo.specs.Tables.{ops_along, slot_counted, timed_along}
use Rattle.undo.proofs.KeepLaws.{counted_slot}

module _ (log : Log) (cut : Vector) where
  -- one entry more
  timed_last : (es : List Entry) (e : Entry) → timed_along log cut (es ++ e ∷ [])
      ≡ timed_along log cut es ++ cond (counted cut (op_in log e.slot)) (stamped_of log e ∷ []) []
  unfolding timed_along stamped_of filter
  timed_last es e = rw map-append (filter_append (λ (x : Stamped). counted cut x.op) (map (stamped_of log) es) _)

  ops_last : (es : List Entry) (e : Entry) → ops_along log cut (es ++ e ∷ [])
      ≡ ops_along log cut es ++ cond (counted cut (op_in log e.slot)) (op_in log e.slot ∷ []) []
  unfolding ops_along filter
  ops_last es e = rw map-append (filter_append (λ (r : Op). counted cut r) (map (λ (x : Entry). op_in log x.slot) es) _)

---- forth: what the first i entries do is done

module _ (w : ℕ) (f : List ℕ) (cut : Vector) (es : List Entry) (start : Undoable) (i : ℕ) (d : Entry) (now : Undoable)
    (h : i < length es) (x : Along w f es)
    (is : now ≡ foldl step_keeping start (timed_along (log_of w f) cut (take i es))) where
  abbrev this : Entry
  this = get_or es i d

  applicable_at : Applicable w f this
  applicable_at = record { is_structural = x.is_structural; in_slot = x.in_slots i d h }

  judged : (after : Undoable) → after ≡ foldl step_keeping now (cond (slot_counted cut this.slot) (stamped_of (log_of w f) this ∷ []) [])
      → after ≡ foldl step_keeping start (timed_along (log_of w f) cut (take (i + 1) es))
  judged after e =
      e ∙ rw (
        is,
        take_more es i d h,
        timed_last (log_of w f) cut (take i es) this,
        foldl-append,
        counted_slot w f this applicable_at cut,
      )

  pub judged_counted : slot_counted cut this.slot ≡ true → (after : Undoable) → after ≡ step_keeping now (stamped_of (log_of w f) this)
      → after ≡ foldl step_keeping start (timed_along (log_of w f) cut (take (i + 1) es))
  judged_counted c after e = judged after (rw c e)

  pub judged_passed : slot_counted cut this.slot ≡ false → now ≡ foldl step_keeping start (timed_along (log_of w f) cut (take (i + 1) es))
  judged_passed c = judged now (rw c)

pub judged_none : (log : Log) (cut : Vector) (now : Undoable) → now ≡ foldl step_keeping now (timed_along log cut [])
unfolding timed_along filter
judged_none log cut now = refl

---- back: what is left is to be taken back

pub record Behind (w : ℕ) (f : List ℕ) (cut : Vector) (es : List Entry) (start now : Undoable) (taken : ℕ) (rest : List Entry)
    : Type 0 where
  pub asks : Each (Applicable w f) rest
  pub inside : taken + length rest ≤ length es
  pub left : take_back start (ops_along (log_of w f) cut es) ≡ take_back now (ops_along (log_of w f) cut rest)
  pub count : taken + length (ops_along (log_of w f) cut rest) ≡ length (ops_along (log_of w f) cut es)

empty : (xs : List Entry) → length xs ≡ 0 → xs ≡ []
empty [] e = refl
empty (x ∷ xs) e = absurd (omega (arith, e))

module _ (w : ℕ) (f : List ℕ) (cut : Vector) (es : List Entry) where
  pub behind_starts : Along w f es → (start : Undoable) (rest : List Entry) → rest ≡ es → Behind w f cut es start start 0 rest
  behind_starts x start rest is = rw is (record {
    asks = each_of (Applicable w f) es no_entry (λ i h. record { is_structural = x.is_structural; in_slot = x.in_slots i no_entry h });
    inside = omega arith;
    left = refl;
    count = omega arith;
  })

  module _ (start now : Undoable) (taken : ℕ) (rest : List Entry) (h : Behind w f cut es start now taken rest) where
    module _ (more : List Entry) (e : Entry) (is : rest ≡ more ++ e ∷ []) where
      applicable : Applicable w f e
      applicable = (each_right (Applicable w f) more (e ∷ []) (rw is at h.asks)).0

      one_less : length rest ≡ length more + 1
      one_less = rw (is, length-append) refl

      pub behind_fits : taken + 1 ≤ length es
      behind_fits = omega (arith, h.inside, one_less)

      ops_are : ops_along (log_of w f) cut rest ≡ ops_along (log_of w f) cut more ++ cond (slot_counted cut e.slot) (op_in (log_of w f) e.slot ∷ []) []
      ops_are = rw (is, ← counted_slot w f e applicable cut) (ops_last (log_of w f) cut more e)

      pub behind_counted : slot_counted cut e.slot ≡ true → (after : Undoable) → after ≡ undo now (op_in (log_of w f) e.slot)
          → Behind w f cut es start after (taken + 1) more
      behind_counted c after a =
          let ops : ops_along (log_of w f) cut rest ≡ ops_along (log_of w f) cut more ++ op_in (log_of w f) e.slot ∷ [] = rw c at ops_are in
          record {
            asks = each_left (Applicable w f) more (e ∷ []) (rw is at h.asks);
            inside = omega (arith, h.inside, one_less);
            left = h.left ∙ rw (ops, a) (take_back_last now (ops_along (log_of w f) cut more) (op_in (log_of w f) e.slot));
            count = omega (arith, h.count, ap length ops, length-append (ops_along (log_of w f) cut more) (op_in (log_of w f) e.slot ∷ []));
          }

      pub behind_passed : slot_counted cut e.slot ≡ false → Behind w f cut es start now taken more
      behind_passed c =
          let ops : ops_along (log_of w f) cut rest ≡ ops_along (log_of w f) cut more = (rw c at ops_are) ∙ append-nil _ in
          record {
            asks = each_left (Applicable w f) more (e ∷ []) (rw is at h.asks);
            inside = omega (arith, h.inside, one_less);
            left = h.left ∙ ap (take_back now) ops;
            count = omega (arith, h.count, ap length ops);
          }

    pub behind_ends : length rest ≡ 0 → (now ≡ take_back start (ops_along (log_of w f) cut es)) × (taken ≡ length (ops_along (log_of w f) cut es))
    unfolding ops_along filter take_back
    behind_ends e = let none = empty rest e in (sym (h.left ∙ rw none), omega (arith, rw none at h.count))
