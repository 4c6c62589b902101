-- One op judged with what it overwrote kept, and taken back, as the code has it.
use mathlib.Core.Path.{◌≡◌, sym, ap, ◌∙◌}
use Prim.Native.Nat.{ℕ, ◌<◌}
use native.Mathlib.Omega.{arith}
use mathlib.Core.List.{List}
use lib.ListN.{drop}
use Rattle.rules.specs.Op.{Op, Vector, counted, node_of}
use Rattle.rules.specs.File.{log_of}
use Rattle.rules.specs.Tree.{slot_of, slots}
use Rattle.rules.specs.Replay.{outcome_slot}
use Rattle.order.specs.Undo.{IsSlot}
use Rattle.oplog.proofs.FieldLaws.{fields_at}
use Rattle.oplog.proofs.HeldLaws.{held_op}
use Rattle.tree.specs.Slots.{op_in, replica_in, sequence_in, slot_place}
use Rattle.schedule.specs.declared.entries.Entry.{Entry}
use Rattle.effect.specs.Effects.{Applicable}
use Rattle.effect.proofs.EffectLaws.{named_below, own_below, slot_own}
use Rattle.undo.specs.Tables.{slot_counted}

module _ (w : ℕ) (f : List ℕ) (e : Entry) (x : Applicable w f e) where
  abbrev op : Op
  op = op_in (log_of w f) e.slot

  -- the slot of the node that it names
  module _ (at n j : ℕ) (is : at ≡ slot_place w f e.slot) (hn : n ≡ node_of (drop at f)) (hj : j ≡ slot_of n) where
    pub named_is : j ≡ slot_of (node_of op)
    unfolding op_in
    named_is = hj ∙ ap slot_of (hn ∙ sym (fields_at w f (replica_in e.slot) (sequence_in e.slot) x.in_slot.in_file at is).node)

    pub named_small : j < slots
    named_small = rw named_is (named_below w f e.slot x.is_structural x.in_slot)

  -- its own
  pub own_small : e.slot < slots
  own_small = own_below w f e.slot x.is_structural x.in_slot

  pub own_slot : outcome_slot op ≡ e.slot
  own_slot = slot_own w f e.slot x.is_structural x.in_slot

  pub is_slot : IsSlot e.slot
  is_slot = record { some = x.in_slot.some; most = omega (arith, own_small) }

  -- a cut counts the op by its slot
  pub counted_slot : (cut : Vector) → counted cut op ≡ slot_counted cut e.slot
  unfolding slot_counted op_in
  counted_slot cut = let o = held_op w f x.is_structural (replica_in e.slot) (sequence_in e.slot) x.in_slot.in_file in rw (o.origin, o.number)

---- what the code that keeps and puts back needs
pub ruleset keeping = (own_small, own_slot)
