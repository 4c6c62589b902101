-- Slots and their nodes.
use Prim.Native.Nat.{◌%◌, ◌*◌, ◌+◌, ◌-◌, ◌/◌, ◌<◌, ℕ, ◌≤◌}
use borrow.Author.Tests.{lt-ltb, ltb-true, ne_eqb}
use lib.Dec.{lit≤, ltb}
use mathlib.Core.Bool.{Bool, cond, false, true}
use mathlib.Core.Logic.{inl, inr}
use mathlib.Core.Path.{refl, ◌∙◌, ◌≡◌}
use native.Mathlib.Omega.{arith}
use Rattle.rules.proofs.SlotLaws.{Valid, slot_below, slot_injective, slot_root}
use Rattle.rules.specs.Tree.{slot, slot_of, slots}
use Rattle.tree.specs.Slots.{slot_node, slot_in}

pub slot_in_valid : (n : ℕ) → Valid n → slot_in n ≡ slot_of n
unfolding slot_in
slot_in_valid n v = rw (lt-ltb (slot_of n) slots (slot_below n v))

pub slot_in_below : (n : ℕ) → slot_in n < slots
unfolding slot_in
slot_in_below n = go (ltb (slot_of n) slots) refl
  where
    go : (b : Bool) → ltb (slot_of n) slots ≡ b → cond b (slot_of n) 0 < slots
    go true e = ltb-true _ _ e
    go false e = lit≤ tt

pub node_valid : (k : ℕ) → 0 < k → k < slots → Valid (slot_node k)
unfolding slot_node
node_valid k l u = rw (ne_eqb k 0 (λ e. omega arith)) (inr (omega arith, omega arith, omega arith))

pub slot_node_law : (k : ℕ) → 0 < k → k < slots → slot_of (slot_node k) ≡ k
unfolding slot_node slot_of slot
slot_node_law k l u =
    let z : 256 * ((k - 1) / 255 + 1) + ((k - 1) % 255 + 1) ≡ 0 → ⊥ = λ e. omega arith in
    rw (ne_eqb k 0 (λ e. omega arith), ne_eqb _ 0 z) (omega arith)

pub slot_in_node : (k : ℕ) → 0 < k → k < slots → slot_in (slot_node k) ≡ k
slot_in_node k l u = slot_in_valid (slot_node k) (node_valid k l u) ∙ slot_node_law k l u

pub node_nonzero : (k : ℕ) → 0 < k → slot_node k ≡ 0 → ⊥
unfolding slot_node
node_nonzero k l e = let z : 256 * ((k - 1) / 255 + 1) + ((k - 1) % 255 + 1) ≡ 0 = rw (ne_eqb k 0 (λ e. omega arith)) at e in omega arith

pub slot_positive : (n : ℕ) → (1 ≤ n / 256) × (n / 256 ≤ 8) × (1 ≤ n % 256) → 0 < slot_of n
unfolding slot_of slot
slot_positive n v = rw (ne_eqb n 0 (λ e. omega arith)) (omega arith)

node_root : slot_node 0 ≡ 0
unfolding slot_node
node_root = refl

pub node_slot : (n : ℕ) → Valid n → slot_node (slot_of n) ≡ n
node_slot n (inl e) = rw (e, slot_root 0 refl) node_root
node_slot n (inr v) =
    let p : 0 < slot_of n = slot_positive n v in
    let b : slot_of n < slots = slot_below n (inr v) in
    slot_injective (slot_node (slot_of n)) n (node_valid (slot_of n) p b) (inr v) (slot_node_law (slot_of n) p b)

pub seat_node : (s i : ℕ) → 1 ≤ s → i < 255 → slot_node (255 * (s - 1) + 1 + i) ≡ 256 * s + (i + 1)
unfolding slot_node
seat_node s i l u = rw (ne_eqb (255 * (s - 1) + 1 + i) 0 (λ e. omega arith)) (omega arith)
