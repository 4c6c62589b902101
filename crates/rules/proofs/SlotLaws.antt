-- Laws of the slots of nodes.
use Rattle.rules.specs.Tree.{slot, slot_of, slots}
use Prim.Native.Nat.{◌%◌, ◌*◌, ◌+◌, ◌-◌, ◌/◌, ◌<◌, ◌≤◌, ℕ}
use mathlib.Core.Path.{◌∙◌, ◌≡◌, sym}
use mathlib.Core.Logic.{◌⊎◌, inl, inr}
use native.Mathlib.Omega.{arith}
use lib.Dec.{lit≤}
use borrow.Author.Tests.{ne_eqb}

-- the root, or a number that an add can make
abbrev pub Valid : ℕ → Type 0
Valid n = (n ≡ 0) ⊎ ((1 ≤ n / 256) × (n / 256 ≤ 8) × (1 ≤ n % 256))

slot_node_law : (n : ℕ) → (1 ≤ n / 256) × (n / 256 ≤ 8) × (1 ≤ n % 256) → slot_of n ≡ 255 * (n / 256 - 1) + n % 256
unfolding slot_of slot
slot_node_law n h = rw (ne_eqb n 0 (λ e. omega arith))

pub slot_root : (n : ℕ) → n ≡ 0 → slot_of n ≡ 0
unfolding slot_of
slot_root n e = rw e

pub slot_below : (n : ℕ) → Valid n → slot_of n < slots
unfolding slot_of slot
slot_below n (inl e) = rw e (lit≤ tt)
slot_below n (inr h) = omega (arith, slot_node_law n h)

pub slot_injective : (n m : ℕ) → Valid n → Valid m → slot_of n ≡ slot_of m → n ≡ m
slot_injective n m (inl a) (inl b) e = a ∙ sym b
slot_injective n m (inl a) (inr b) e = absurd (omega (arith, slot_root n a, slot_node_law m b))
slot_injective n m (inr a) (inl b) e = absurd (omega (arith, slot_root m b, slot_node_law n a))
slot_injective n m (inr a) (inr b) e = omega (arith, slot_node_law n a, slot_node_law m b)
