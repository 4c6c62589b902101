-- A climb that ends at a node: what its answer and its steps say, and that it rests on nothing above the node.
use Rattle.lists.specs.Lists.{any, index_of, is_in}
use Rattle.lists.proofs.BoolLaws.{never}
use Rattle.lists.proofs.MemberLaws.{index_at, index_within}
use Rattle.rules.proofs.ClimbLaws.{climb_enough, climb_in, climb_up}
use Rattle.rules.specs.ClimbClaim.{AlikeAlong, ClimbStops, Climbs}
use Rattle.rules.specs.Tree.{Climbed, at_or_below, climb, climb_to, depth, parent_in, path, slots}
use mathlib.Core.Bool.{Bool, cond, false, true}
use mathlib.Core.List.{List, ◌∷◌}
use Prim.Native.Nat.{◌+◌, ◌-◌, ◌≤◌, suc, zero, ℕ}
use mathlib.Core.Path.{◌∙◌, ◌≡◌, ap, refl, sym}
use native.Mathlib.Omega.{arith}
use native.Mathlib.Decide.{ℕ_discrete}
use borrow.Author.Tests.{eq-eqb, ne_eqb}
use lib.ListN.{get_or, length}

---- along a path to n, or to its end

unfoldable along : ℕ → List ℕ → Climbed
along n l = record { met = is_in n l; steps = cond (is_in n l) (index_of n l) (length l - 1) }

-- a step, and what is left
abbrev further : Climbed → Climbed
further c = record { met = c.met; steps = suc c.steps }

module _ (n m : ℕ) where
  along_met : (l : List ℕ) → n ≡ m → along n (m ∷ l) ≡ record { met = true; steps = 0 }
  unfolding along is_in any index_of
  along_met l e = rw (eq-eqb n m e)

  along_step : (n ≡ m → ⊥) → (x : ℕ) (l : List ℕ) → along n (m ∷ x ∷ l) ≡ further (along n (x ∷ l))
  unfolding along is_in any index_of
  along_step ne x l = rw (ne_eqb n m ne) (go (is_in n (x ∷ l)))
    where
      go : (b : Bool) → ◌≡◌ {A = Climbed} (record { met = b; steps = cond b (suc (index_of n (x ∷ l))) (suc (suc (length l)) - 1) })
          (record { met = b; steps = suc (cond b (index_of n (x ∷ l)) (suc (length l) - 1)) })
      go true = refl
      go false = ap (λ (k : ℕ). record { met = false; steps = k }) (omega arith)

---- it rests on the parents along its steps

climb_step : (t : List ℕ) (n k p : ℕ) → (n ≡ p → ⊥) → (p ≡ 0 → ⊥)
    → along n (climb (suc (suc k)) t p) ≡ further (along n (climb (suc k) t (parent_in t p)))
unfolding climb
climb_step t n k p ne nz = rw (ne_eqb p 0 nz) (along_step n p ne (parent_in t p) _)

module _ (t u : List ℕ) (n : ℕ) where
  abbrev Alike : ℕ → ℕ → Type 0
  Alike k p = AlikeAlong t u (climb k t p) (along n (climb k t p)).steps

  module _ (k p : ℕ) (h : Alike (suc (suc k)) p) (ne : n ≡ p → ⊥) (nz : p ≡ 0 → ⊥) where
    steps_on : (along n (climb (suc (suc k)) t p)).steps ≡ suc (along n (climb (suc k) t (parent_in t p))).steps
    steps_on = ap (λ (c : Climbed). c.steps) (climb_step t n k p ne nz)

    parent_alike : parent_in u p ≡ parent_in t p
    parent_alike = rw (climb_up t (suc k) p nz) at (h 0 (omega (arith, steps_on)))

    alike_on : Alike (suc k) (parent_in t p)
    alike_on i l = rw (climb_up t (suc k) p nz) at (h (suc i) (omega (arith, steps_on)))

  stops_in : (k p : ℕ) → Alike k p → along n (climb k u p) ≡ along n (climb k t p)
  unfolding climb
  stops_in zero p h = refl
  stops_in (suc zero) p h = refl
  stops_in (suc (suc k)) p h = elim (ℕ_discrete n p) [
    | yes e ↦ along_met n p _ e ∙ sym (along_met n p _ e)
    | no ne ↦ elim (ℕ_discrete p 0) [
      | yes z ↦ rw (eq-eqb p 0 z)
      | no nz ↦
          let rest = stops_in (suc k) (parent_in t p) (alike_on k p h ne nz) in
          climb_step u n k p ne nz ∙ (rw (parent_alike k p h ne nz, rest) (sym (climb_step t n k p ne nz)))
    ]
  ]

pub climb_stops : ClimbStops
unfolding climb_to at_or_below path depth along
climb_stops t u p n h = stops_in t u n slots p h

---- its answer and its steps

module _ (t : List ℕ) where
  -- what is in a climb and is not its first entry is in the climb from there
  in_rest : (m k p : ℕ) → (m ≡ p → ⊥) → is_in m (climb (suc k) t p) ≡ true → (p ≡ 0 → ⊥) × (is_in m (climb k t (parent_in t p)) ≡ true)
  unfolding climb is_in any
  in_rest m k p ne e = elim (ℕ_discrete p 0) [
    | yes z ↦ never (rw (ne_eqb m p ne, eq-eqb p 0 z) at e)
    | no nz ↦ (nz, rw (ne_eqb m p ne, ne_eqb p 0 nz) at e)
  ]

  -- a climb that comes to the root has no more entries with a larger bound
  root_enough : (k p : ℕ) → is_in 0 (climb k t p) ≡ true → climb (suc k) t p ≡ climb k t p
  root_enough k p r =
      let (i, l, w, o) = climb_in t k p 0 r in
      climb_enough t i (suc k) k p (record { root = w; first = o }) (omega arith) l

  index_here : (k p : ℕ) → index_of p (climb (suc k) t p) ≡ 0
  unfolding climb index_of
  index_here k p = rw (eq-eqb p p refl)

  index_on : (n k p : ℕ) → (n ≡ p → ⊥) → (p ≡ 0 → ⊥) → index_of n (climb (suc k) t p) ≡ suc (index_of n (climb k t (parent_in t p)))
  unfolding index_of
  index_on n k p ne nz = rw (climb_up t k p nz, ne_eqb n p ne)

  none_in : {A : Type 0} (m p : ℕ) → is_in m (climb 0 t p) ≡ true → A
  unfolding climb is_in any
  none_in m p e = never e

  -- where the climb from p comes to the root and meets n, so does the climb from n, and the first is longer by the steps between
  met_root : (n k p : ℕ) → is_in 0 (climb k t p) ≡ true → is_in n (climb k t p) ≡ true
      → (is_in 0 (climb k t n) ≡ true) × (index_of n (climb k t p) + length (climb k t n) ≡ length (climb k t p))
  met_root n zero p r m = none_in n p m
  met_root n (suc k) p r m = elim (ℕ_discrete n p) [
    | yes e ↦ (rw e r, rw (e, index_here k p) (omega arith))
    | no ne ↦
        let (nz, m') = in_rest n k p ne m in
        let (_, r') = in_rest 0 k p (λ z. nz (sym z)) r in
        let (ih, l) = met_root n k (parent_in t p) r' m' in
        let same = root_enough k n ih in
        (rw same ih, rw (same, index_on n k p ne nz, climb_up t k p nz) (omega (arith, l)))
  ]

  climb_some : (k p : ℕ) → 1 ≤ length (climb (suc k) t p)
  unfolding climb
  climb_some k p = omega arith

  path_some : (p : ℕ) → 1 ≤ length (path t p)
  unfolding path
  path_some p = climb_some 2040 p

  depth_root : depth t 0 ≡ 0
  unfolding depth path climb
  depth_root = refl

module _ (t : List ℕ) (p n : ℕ) where
  steps_lead : at_or_below t p n ≡ true → get_or (path t p) (index_of n (path t p)) 0 ≡ n
  unfolding at_or_below
  steps_lead e = index_at n (path t p) e

  longer : at_or_below t p 0 ≡ true → at_or_below t p n ≡ true → index_of n (path t p) + length (path t n) ≡ length (path t p)
  unfolding at_or_below path
  longer r e = (met_root t n slots p r e).1

  depths_differ : at_or_below t p 0 ≡ true → at_or_below t p n ≡ true → index_of n (path t p) + depth t n ≡ depth t p
  unfolding at_or_below depth
  depths_differ r e = omega (arith, longer r e, path_some t n)

  steps_most : (b : Bool) → at_or_below t p n ≡ b → cond b (index_of n (path t p)) (depth t p) ≤ depth t p
  unfolding at_or_below depth
  steps_most true e = omega (arith, index_within n (path t p) e)
  steps_most false e = omega arith

pub climbs : Climbs
unfolding climb_to
climbs t p n r = record {
  answer = refl;
  leads = λ e. rw e (steps_lead t p n e);
  differ = λ e. rw e (depths_differ t p n r e);
  missed = λ e. rw e;
  most = steps_most t p n (at_or_below t p n) refl;
}

-- the climb to the root has the depth's steps, in any table
pub depth_climbed : (t : List ℕ) (p : ℕ) → (climb_to t p 0).steps ≡ depth t p
unfolding climb_to
depth_climbed t p = go (at_or_below t p 0) refl
  where
    go : (b : Bool) → at_or_below t p 0 ≡ b → cond b (index_of 0 (path t p)) (depth t p) ≡ depth t p
    go true e = omega (arith, depths_differ t p 0 e e, depth_root t)
    go false e = refl
