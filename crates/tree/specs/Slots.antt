-- Slots and their nodes, as the code has them.
use Rattle.std.specs.Prelude.{ℕ, ◌+◌, ◌*◌, ◌-◌, ◌/◌, ◌%◌, ◌≤◌, cond, List, get_or, eqb, ltb}
use Rattle.rules.specs.Op.{Op}
use Rattle.rules.specs.File.{Log, op_at}
use Rattle.rules.specs.Tree.{slot_of, slots}
use Rattle.oplog.specs.Places.{InFile, place_of}

-- the slot of a node; 0 for a number without one
unfoldable pub slot_in : ℕ → ℕ
slot_in n = cond (ltb (slot_of n) slots) (slot_of n) 0

-- the replica and the sequence of the op that has a slot; that op
abbrev pub replica_in : ℕ → ℕ
replica_in n = (n - 1) / 255 + 1

abbrev pub sequence_in : ℕ → ℕ
sequence_in n = (n - 1) % 255 + 1

unfoldable pub op_in : Log → ℕ → Op
op_in log n = op_at log (replica_in n) (sequence_in n)

-- a laid-out file has an op in a slot
pub record InSlot (w : ℕ) (f : List ℕ) (n : ℕ) : Type 0 where
  pub some : 1 ≤ n
  pub in_file : InFile w f (replica_in n) (sequence_in n)

-- where it starts
abbrev pub slot_place : ℕ → List ℕ → ℕ → ℕ
slot_place w f n = place_of w f (replica_in n) (sequence_in n)

-- the node of a slot
unfoldable pub slot_node : ℕ → ℕ
slot_node k = cond (eqb k 0) 0 (256 * replica_in k + sequence_in k)

-- what a table has for a node
abbrev pub at_node : List ℕ → ℕ → ℕ
at_node t n = get_or t (slot_in n) 0
