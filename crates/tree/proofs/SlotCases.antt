-- The cases of slots and their nodes, as the code meets them.
use Prim.Native.Nat.{◌*◌, ◌+◌, ◌<◌, ◌≤◌, ◌-◌, ◌/◌, ℕ}
use borrow.Author.Rules.{rules}
use borrow.Author.Tests.{eq-eqb, le-ltb, lt-ltb, ne_eqb}
use mathlib.Core.Path.{◌≡◌, ◌∙◌}
use mathlib.Core.List.{List}
use Rattle.rules.specs.Tree.{slot, slot_of, slots}
use native.Mathlib.Decide.{ℕ_discrete}
use native.Mathlib.Omega.{arith}
use Rattle.tree.specs.Slots.{InSlot, replica_in, sequence_in, slot_node, slot_in}
use Rattle.oplog.specs.Places.{InFile}

---- the slot of a node, as the code computes it

pub slot_low : (n r : ℕ) → r ≡ n → n < 256 → r ≡ slot_of n
unfolding slot_of slot
slot_low n r e h = e ∙ (elim (ℕ_discrete n 0) [
  | yes z ↦ rw z
  | no nz ↦ rw (ne_eqb n 0 nz) (omega arith)
])

pub slot_high : (n r : ℕ) → r ≡ n - n / 256 → 256 ≤ n → r - 255 ≡ slot_of n
unfolding slot_of slot
slot_high n r e h = rw (e, ne_eqb n 0 (λ z. omega arith)) (omega arith)

-- k is the slot of n
module _ (n k : ℕ) (is : k ≡ slot_of n) where
  pub slot_inside : k < slots → k ≡ slot_in n
  unfolding slot_in
  slot_inside h = is ∙ rw (lt-ltb (slot_of n) slots (rw (← is) h))

  pub slot_outside : slots ≤ k → 0 ≡ slot_in n
  unfolding slot_in
  slot_outside h = rw (le-ltb (slot_of n) slots (rw (← is) h))

module _ (k : ℕ) where
  pub node_root : k ≡ 0 → 0 ≡ slot_node k
  unfolding slot_node
  node_root e = rw (eq-eqb k 0 e)

  pub node_other : (k ≡ 0 → ⊥) → (s q : ℕ) → s ≡ replica_in k → q ≡ sequence_in k → 256 * s + q ≡ slot_node k
  unfolding slot_node
  node_other h s q hs hq = rw (ne_eqb k 0 h, hs, hq)

-- s and q are the replica and the sequence of slot k
module _ (w : ℕ) (f : List ℕ) (k s q : ℕ) (hs : s ≡ replica_in k) (hq : q ≡ sequence_in k) where
  pub slot_in_file : InSlot w f k → InFile w f s q
  slot_in_file x = rw (hs, hq) x.in_file

---- what the code of slots needs: search slotting
pub ruleset slotting = (rules, slot_low, slot_high, slot_inside, slot_outside, node_root, node_other, slot_in_file)
