-- The effect of an op, as the code has it.
use mathlib.Core.Path.{◌≡◌, sym, ap, ◌∙◌}
use mathlib.Core.Logic.{inr}
use mathlib.Core.Bool.{true}
use borrow.Author.Tests.{le-leb}
use mathlib.Core.List.{List}
use Prim.Native.Nat.{ℕ, ◌+◌, ◌*◌, ◌-◌, ◌/◌, ◌%◌, ◌≤◌, ◌<◌}
use native.Mathlib.Omega.{arith}
use native.Mathlib.Decide.{ℕ_discrete}
use lib.ListN.{drop, set}
use Rattle.rules.specs.Op.{vector_of, kind_of, parent_of, node_number, is_add, node_of, is_move, Op}
use Rattle.rules.specs.Tree.{no_parent, slot_of, slot, slots}
use Rattle.rules.specs.Replay.{State, outcome_of, outcome_slot, step}
use Rattle.rules.specs.File.{op_at, log_of}
use Rattle.rules.specs.Log.{structural}
use Rattle.rules.proofs.SlotLaws.{slot_below}
use Rattle.rules.proofs.KnownLaws.{kinds, names_add, names_node, known_reads}
use Rattle.tree.specs.Slots.{InSlot, op_in, replica_in, sequence_in, slot_place}
use Rattle.rules.proofs.StructureLaws.{HeldOp}
use Rattle.oplog.proofs.FieldLaws.{SameFields, fields_at, small}
use Rattle.schedule.specs.declared.entries.Entry.{Entry}
use Rattle.schedule.specs.Schedule.{stamped_of}
use Rattle.codec.specs.Kind.{is_kind}
use Rattle.effect.specs.Effects.{Applicable, Slotted, hung, noted, outcome_by}
use Rattle.oplog.proofs.HeldLaws.{held_op}

---- what an op of a structurally sound file names has a slot

module _ (w : ℕ) (f : List ℕ) (i : ℕ) (st : structural w f ≡ true) (x : InSlot w f i) where
  abbrev s : ℕ
  s = replica_in i

  abbrev q : ℕ
  q = sequence_in i

  abbrev r : Op
  r = op_at (log_of w f) s q

  held : HeldOp (log_of w f) s q r
  held = held_op w f st s q x.in_file

  node_range : (1 ≤ node_of r / 256) × (node_of r / 256 ≤ 8) × (1 ≤ node_of r % 256)
  unfolding node_number
  node_range = elim (ℕ_discrete (kind_of r) 1) [
    | yes e ↦
        let n : node_of r ≡ 256 * s + q = (names_add (log_of w f) r held.names e).1 ∙ rw (held.origin, held.number) in
        let b = small w f s q x.in_file in
        (omega arith, omega (arith, x.in_file.high), omega arith)
    | no ne ↦
        let k = (known_reads (log_of w f) (vector_of r) (node_of r) (names_node (log_of w f) r held.names ne)).0 in
        (k.low, k.high, k.first)
  ]

  pub named_below : slot_of (node_of (op_in (log_of w f) i)) < slots
  unfolding op_in
  named_below = slot_below (node_of r) (inr node_range)

  node_small : node_of (op_in (log_of w f) i) < no_parent
  unfolding op_in
  node_small = omega (arith, node_range.1)

  pub own_below : i < slots
  own_below = omega (arith, small w f s q x.in_file, x.in_file.high, x.some)

  -- its outcome stands there
  pub slot_own : outcome_slot (op_in (log_of w f) i) ≡ i
  unfolding outcome_slot slot op_in
  slot_own = let own : 255 * (s - 1) + q ≡ i = omega (arith, x.some) in rw (held.origin, held.number, own)

module _ (w : ℕ) (f : List ℕ) (e : Entry) (x : Applicable w f e) where
  abbrev op : Op
  op = op_in (log_of w f) e.slot

  -- what the code has read are the op's fields
  module _ (at : ℕ) (is : at ≡ slot_place w f e.slot) where
    fields : SameFields op (drop at f)
    unfolding op_in
    fields = fields_at w f (replica_in e.slot) (sequence_in e.slot) x.in_slot.in_file at is

    -- its kind is one of the four
    pub kind_known : (k : ℕ) → k ≡ kind_of (drop at f) → is_kind k ≡ true
    unfolding op_in
    kind_known k hk =
        let b = kinds op (held_op w f x.is_structural (replica_in e.slot) (sequence_in e.slot) x.in_slot.in_file).formed in
        rw (hk, ← fields.kind, le-leb 1 (kind_of op) b.0, le-leb (kind_of op) 4 b.1)

    module _ (n j : ℕ) (hn : n ≡ node_of (drop at f)) (hj : j ≡ slot_of n) where
      node_so : n ≡ node_of op
      node_so = hn ∙ sym fields.node

      pub node_slotted : Slotted n j
      node_slotted = record {
        small = rw node_so (node_small w f e.slot x.is_structural x.in_slot);
        inside = rw (hj, node_so) (named_below w f e.slot x.is_structural x.in_slot);
      }

      module _ (k m u v : ℕ) (hk : k ≡ kind_of (drop at f)) (hm : m ≡ parent_of (drop at f)) (st : State)
          (hu : u ≡ outcome_by st k n m j e.time) (hv : v ≡ u) where
        pub applied : (after : State) → after ≡ noted (hung st k u j m) k u j e.time
            → record { parents = after.parents; outcomes = set after.outcomes e.slot v; placed = after.placed }
            ≡ step st (stamped_of (log_of w f) e)
        unfolding step outcome_of outcome_by hung noted is_add is_move stamped_of
        applied after h =
            let ek : k ≡ kind_of op = hk ∙ sym fields.kind in
            let em : m ≡ parent_of op = hm ∙ sym fields.parent in
            let g : j ≡ slot_of (node_of op) = hj ∙ ap slot_of node_so in
            rw (h, hv, hu, ek, em, g, node_so, slot_own w f e.slot x.is_structural x.in_slot)
