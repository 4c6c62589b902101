-- Laws of climbs: steps up, ways to the root, paths, depths.
use Rattle.rules.proofs.SlotLaws.{Valid, slot_below, slot_injective}
use Rattle.lists.specs.Lists.{any, is_in}
use Rattle.rules.specs.Tree.{climb, parent_in, slot_of, slots}
use Rattle.lists.proofs.NumberLaws.{least, pigeonhole}
use Rattle.lists.proofs.BoolLaws.{never}
use mathlib.Core.List.{List, [], ◌∷◌}
use Prim.Native.Nat.{◌+◌, ◌-◌, ◌<◌, ◌≤◌, suc, zero, ℕ}
use mathlib.Core.Path.{◌∙◌, ◌≡◌, ap, refl, sym}
use native.Mathlib.Omega.{arith}
use mathlib.Core.Bool.{cond, or-true, true}
use native.Mathlib.Decide.{dec_le, ℕ_discrete}
use borrow.Author.Tests.{eq-eqb, ne_eqb}
use lib.Dec.{eqb}
use native.Mathlib.Nat.{le_of_suc-le-suc, not-suc-le-zero, suc-add, zero-add}
use lib.ListN.{length}

---- steps up

-- i steps up
unfoldable pub up : List ℕ → ℕ → ℕ → ℕ
up parents zero n = n
up parents (suc i) n = up parents i (parent_in parents n)

pub up_last : (parents : List ℕ) (i n : ℕ) → up parents (suc i) n ≡ parent_in parents (up parents i n)
unfolding up
up_last parents zero n = refl
up_last parents (suc i) n = up_last parents i (parent_in parents n)

pub up_add : (parents : List ℕ) (i j n : ℕ) → up parents (i + j) n ≡ up parents j (up parents i n)
unfolding up
up_add parents zero j n = rw zero-add
up_add parents (suc i) j n = rw suc-add (up_add parents i j (parent_in parents n))

-- i steps lead to the root, over numbers with the property P
pub record Reaches (P : ℕ → Type 0) (parents : List ℕ) (i n : ℕ) : Type 0 where
  pub root : up parents i n ≡ 0
  pub on : (j : ℕ) → j ≤ i → P (up parents j n)

-- whoever reaches the root does so in at most 2040 steps
pub short : (P : ℕ → Type 0) → ((x : ℕ) → P x → Valid x) → (parents : List ℕ) (i n : ℕ) → Reaches P parents i n
    → (j : ℕ) × (j ≤ 2040) × Reaches P parents j n × ((k : ℕ) → k < j → up parents k n ≡ 0 → ⊥)
short P pv parents i n r =
    let (j, u, z, o) = least (λ k. up parents k n) i r.root in
    let slot : ℕ → ℕ = λ k. slot_of (up parents k n) in
    let bound = pigeonhole slots (suc j) slot (λ k h. slot_below _ (pv _ (r.on k (omega arith)))) (differ j u z o) in
    (j, omega arith, record { root = z; on = λ k h. r.on k (omega arith) }, o)
  where
    differ : (j : ℕ) → j ≤ i → up parents j n ≡ 0 → ((k : ℕ) → k < j → up parents k n ≡ 0 → ⊥) → (a b : ℕ) → a < b → b < suc j
        → slot_of (up parents a n) ≡ slot_of (up parents b n) → ⊥
    differ j u z o a b h l e =
        let same : up parents a n ≡ up parents b n = slot_injective _ _ (pv _ (r.on a (omega arith))) (pv _ (r.on b (omega arith))) e in
        let d : ℕ = j - b in
        let k : b + d ≡ j = omega arith in
        o (a + d) (omega arith) (up_add parents a d n ∙ ap (up parents d) same ∙ sym (up_add parents b d n) ∙ ap (λ (t : ℕ). up parents t n)
        k ∙ z)

-- from any node but the root a climb goes on from its parent
pub climb_up : (parents : List ℕ) (k n : ℕ) → (n ≡ 0 → ⊥) → climb (suc k) parents n ≡ n ∷ climb k parents (parent_in parents n)
unfolding climb
climb_up parents k n nz = rw (ne_eqb n 0 nz)

-- what is met on the way to the first root is in the list of the climb
pub in_climb : (parents : List ℕ) (k j n : ℕ) → j < k → ((i : ℕ) → i < j → up parents i n ≡ 0 → ⊥)
    → is_in (up parents j n) (climb k parents n) ≡ true
unfolding is_in any climb up
in_climb parents zero j n h o = absurd (not-suc-le-zero h)
in_climb parents (suc k) zero n h o = rw (eq-eqb n n refl)
in_climb parents (suc k) (suc j) n h o =
    rw (
      ne_eqb n 0 (o 0 (omega arith)),
      in_climb parents k j (parent_in parents n) (le_of_suc-le-suc h) (λ i l. o (suc i) (omega arith)),
      or-true,
    )

-- and what is in that list is met before any root
pub climb_in : (parents : List ℕ) (k n m : ℕ) → is_in m (climb k parents n) ≡ true → (i : ℕ) × (i < k) × (up parents i n ≡ m) × ((j : ℕ)
    → j < i → up parents j n ≡ 0 → ⊥)
unfolding is_in any climb up
climb_in parents zero n m e = never e
climb_in parents (suc k) n m e = elim (ℕ_discrete m n) [
  | yes z ↦ (0, omega arith, sym z, λ j h q. omega arith)
  | no nz ↦ elim (ℕ_discrete n 0) [
    | yes r ↦ never (rw (ne_eqb m n nz, eq-eqb n 0 r) at e)
    | no nr ↦
        let (i, l, w, o) = climb_in parents k (parent_in parents n) m (rw (ne_eqb m n nz, ne_eqb n 0 nr) at e) in
        (suc i, omega arith, w, first i o nr)
  ]
]
  where
    first : (i : ℕ) → ((j : ℕ) → j < i → up parents j (parent_in parents n) ≡ 0 → ⊥) → (n ≡ 0 → ⊥) → (j : ℕ) → j < suc i → up parents j n ≡ 0
        → ⊥
    first i o nr zero h q = nr q
    first i o nr (suc j) h q = o j (le_of_suc-le-suc h) q

---- depths

-- n is j steps below the root
pub record Depth (parents : List ℕ) (j n : ℕ) : Type 0 where
  pub root : up parents j n ≡ 0
  pub first : (k : ℕ) → k < j → up parents k n ≡ 0 → ⊥

pub depth_unique : (parents : List ℕ) (i j n : ℕ) → Depth parents i n → Depth parents j n → i ≡ j
depth_unique parents i j n a b = elim (dec_le i j) [
  | yes h ↦ elim (dec_le j i) [
    | yes h' ↦ omega arith
    | no h' ↦ absurd (b.first i (omega arith) a.root)
  ]
  | no h ↦ absurd (a.first j (omega arith) b.root)
]

pub depth_child : (parents : List ℕ) (j n m : ℕ) → parent_in parents m ≡ n → (m ≡ 0 → ⊥) → Depth parents j n → Depth parents (suc j) m
unfolding up
depth_child parents j n m e nz d = record { root = rw e d.root; first = go }
  where
    go : (k : ℕ) → k < suc j → up parents k m ≡ 0 → ⊥
    go zero h z = nz z
    go (suc k) h z = d.first k (omega arith) (rw e at z)

-- a climb with more steps than the depth
pub climb_enough : (parents : List ℕ) (j k i n : ℕ) → Depth parents j n → j < k → j < i → climb k parents n ≡ climb i parents n
unfolding climb up
climb_enough parents j zero i n d h l = absurd (not-suc-le-zero h)
climb_enough parents j (suc k) zero n d h l = absurd (not-suc-le-zero l)
climb_enough parents zero (suc k) (suc i) n d h l = rw (eq-eqb n 0 d.root)
climb_enough parents (suc j) (suc k) (suc i) n d h l =
    ap (λ t. n ∷ cond (eqb n 0) [] t) (climb_enough parents j k i (parent_in parents n)
    (record { root = d.root; first = λ m w. d.first (suc m) (omega arith) }) (omega arith) (omega arith))

pub climb_length : (parents : List ℕ) (k j n : ℕ) → j < k → up parents j n ≡ 0 → ((i : ℕ) → i < j → up parents i n ≡ 0 → ⊥)
    → length (climb k parents n) ≡ suc j
unfolding climb up
climb_length parents zero j n h r o = absurd (not-suc-le-zero h)
climb_length parents (suc k) zero n h r o = rw (eq-eqb n 0 r)
climb_length parents (suc k) (suc j) n h r o =
    rw (ne_eqb n 0 (o 0 (omega arith)))
    (ap suc (climb_length parents k j (parent_in parents n) (le_of_suc-le-suc h) r (λ i l. o (suc i) (omega arith))))
