-- Climbs to the root and the kind of a move, as the code has them.
use mathlib.Core.Path.{◌≡◌, refl, sym, ap, ◌∙◌}
use mathlib.Core.Bool.{Bool, true, false, cond}
use mathlib.Core.List.{List, [], ◌∷◌, ◌++◌, append_assoc}
use Prim.Native.Nat.{ℕ, zero, suc, ◌+◌, ◌-◌, ◌≤◌, ◌<◌}
use native.Mathlib.Omega.{arith}
use lib.ListN.{length, length-append, get_or, get_or-eq_default}
use lib.Dec.{eqb, lit≤}
use borrow.Author.Tests.{eq-eqb, ne_eqb, lt-ltb, le-ltb}
use borrow.Author.Rules.{rules}
use Rattle.rules.specs.Tree.{Climbed, at_or_below, parent_in, slot_of, climb, climb_to, depth, path, slot, slots, no_parent, move_kind}
use Rattle.lists.specs.Lists.{is_in, any, index_of}
use Rattle.lists.proofs.AllLaws.{any_append}
use Rattle.lists.proofs.MemberLaws.{index_behind}
use Rattle.std.specs.Prelude.{Some, None}
use Rattle.tree.specs.Climb.{move_or_cycle}

---- parents

-- a parent as the code reads it
pub parent_read : (t : List ℕ) (at k : ℕ) → k ≡ slot_of at → length t ≡ slots → slot_of at < slots → parent_in t at ≡ get_or t k 0
unfolding parent_in
parent_read t at k e l h = rw e (get_d_any t (slot_of at) no_parent 0 (omega arith))
  where
    get_d_any : (l : List ℕ) (i a b : ℕ) → i < length l → get_or l i a ≡ get_or l i b
    get_d_any [] i a b h = absurd (omega arith)
    get_d_any (x ∷ l) zero a b h = refl
    get_d_any (x ∷ l) (suc i) a b h = get_d_any l i a b (omega arith)

-- outside of the table there is no parent, and the slot of "no parent" lies outside again
module _ (t : List ℕ) (size : length t ≡ slots) where
  outside : (at : ℕ) → slots ≤ slot_of at → parent_in t at ≡ no_parent
  unfolding parent_in
  outside at o = let s : length t ≤ slot_of at = omega arith in get_or-eq_default t no_parent s

  no_parent_law : parent_in t no_parent ≡ no_parent
  unfolding slot_of slot
  no_parent_law = outside no_parent (lit≤ tt)

  -- a climb from there meets no node, and does not end
  lost : (n k : ℕ) → n < no_parent → is_in n (climb k t no_parent) ≡ false
  unfolding climb is_in any
  lost n zero h = refl
  lost n (suc k) h = rw (ne_eqb n no_parent (λ e. omega arith), no_parent_law) (lost n k h)

  endless : (k : ℕ) → length (climb k t no_parent) ≡ k
  unfolding climb
  endless zero = refl
  endless (suc k) = rw no_parent_law (ap suc (endless k))

---- a climb from m to n that stands at `at` after i steps: the path is what lies behind, without n, and what is left from here

pub record Climbing (t : List ℕ) (m n i at : ℕ) : Type 0 where
  pub bound : i ≤ slots
  pub behind : List ℕ
  pub steps : length behind ≡ i
  pub free : is_in n behind ≡ false
  pub way : path t m ≡ behind ++ climb (slots - i) t at

abbrev met : ℕ → Climbed
met k = record { met = true; steps = k }

abbrev missed : ℕ → Climbed
missed k = record { met = false; steps = k }

pub climb_starts : (t : List ℕ) (m n : ℕ) → Climbing t m n 0 m
unfolding path is_in any
climb_starts t m n = record { bound = omega arith; behind = []; steps = refl; free = refl; way = refl }

module _ (t : List ℕ) (m n i at : ℕ) (c : Climbing t m n i at) where
  abbrev left : List ℕ
  left = climb (slots - i) t at

  met_left : at_or_below t m n ≡ is_in n left
  unfolding at_or_below is_in
  met_left = rw (c.way, any_append (eqb n) c.behind left, c.free)

  index_left : index_of n (path t m) ≡ i + index_of n left
  index_left = rw (c.way, index_behind n c.behind left c.free, c.steps)

  depth_left : depth t m ≡ i + length left - 1
  unfolding depth
  depth_left = rw (c.way, length-append, c.steps)

  -- what is handed back from here
  met_here : is_in n left ≡ true → index_of n left ≡ 0 → met i ≡ climb_to t m n
  unfolding climb_to
  met_here e z = let k : i + 0 ≡ i = omega arith in rw (met_left, e, index_left, z, k)

  missed_here : is_in n left ≡ false → (k : ℕ) → k ≡ i + length left - 1 → missed k ≡ climb_to t m n
  unfolding climb_to
  missed_here e k so = rw (met_left, e, depth_left, so)

  pub climb_ends : slots ≤ i → missed (slots - 1) ≡ climb_to t m n
  unfolding climb is_in any
  climb_ends h =
      let e : left ≡ [] = let z : slots - i ≡ 0 = omega arith in rw z in
      missed_here (rw e) (slots - 1) (let b = c.bound in rw e (omega arith))

  module _ (h : i < slots) where
    here : left ≡ at ∷ cond (eqb at 0) [] (climb (slots - (i + 1)) t (parent_in t at))
    unfolding climb
    here = let e : slots - i ≡ suc (slots - (i + 1)) = omega arith in rw e

    pub climb_found : at ≡ n → met i ≡ climb_to t m n
    unfolding is_in any index_of
    climb_found e = met_here (rw (here, eq-eqb n at (sym e))) (rw (here, eq-eqb n at (sym e)))

    -- so far there are no more steps than in all: the one to come leaves fewer
    within : i ≤ (climb_to t m n).steps
    unfolding climb_to
    within = rw (index_left, depth_left, here) (go (at_or_below t m n) _ _)
      where
        go : (b : Bool) (j k : ℕ) → i ≤ cond b (i + j) (i + suc k - 1)
        go true j k = omega arith
        go false j k = omega arith

    pub climb_less : (climb_to t m n).steps + 1 - (i + 1) < (climb_to t m n).steps + 1 - i
    climb_less = omega (arith, within)

    module _ (ne : at ≡ n → ⊥) where
      pub climb_root : at ≡ 0 → missed i ≡ climb_to t m n
      unfolding is_in any
      climb_root z =
          let e : left ≡ at ∷ [] = rw (here, eq-eqb at 0 z) in
          missed_here (rw (e, ne_eqb n at (λ e. ne (sym e)))) i (rw e (omega arith))

      module _ (nz : at ≡ 0 → ⊥) (size : length t ≡ slots) (k : ℕ) (is : k ≡ slot_of at) where
        onward : left ≡ at ∷ climb (slots - (i + 1)) t (parent_in t at)
        onward = rw (here, ne_eqb at 0 nz)

        pub climb_out : n < no_parent → slots ≤ k → missed (slots - 1) ≡ climb_to t m n
        unfolding is_in any
        climb_out s o =
            let e : left ≡ at ∷ climb (slots - (i + 1)) t no_parent = rw (onward, outside t size at (omega arith)) in
            missed_here (rw (e, ne_eqb n at (λ e. ne (sym e))) (lost t size n (slots - (i + 1)) s)) (slots - 1)
            (rw (e, endless t size (slots - (i + 1))) (omega arith))

        pub climb_on : k < slots → Climbing t m n (i + 1) (get_or t k 0)
        unfolding is_in any
        climb_on b = record {
          bound = omega arith;
          behind = c.behind ++ (at ∷ []);
          steps = rw (length-append, c.steps);
          free = rw (any_append (eqb n) c.behind (at ∷ []), c.free, ne_eqb n at (λ e. ne (sym e)));
          way = c.way ∙ rw (onward, parent_read t at k is size (omega arith), append_assoc);
        }

---- the kind of a move: what the climb to a node has handed back

module _ (t : List ℕ) (n p k : ℕ) where
  pub move_cycle : met k ≡ climb_to t p n → None ≡ move_or_cycle t n p
  unfolding climb_to move_or_cycle
  move_cycle is = rw (← ap (λ (r : Climbed). r.met) is)

  module _ (is : missed k ≡ climb_to t p n) where
    misses : at_or_below t p n ≡ false
    unfolding climb_to
    misses = sym (ap (λ (r : Climbed). r.met) is)

    steps_are : k ≡ depth t p
    unfolding climb_to
    steps_are = ap (λ (r : Climbed). r.steps) is ∙ rw misses

    module _ (y : ℕ) (hy : y ≡ depth t n) where
      pub move_up : k < y → Some 3 ≡ move_or_cycle t n p
      unfolding move_or_cycle move_kind
      move_up h = rw (misses, ← steps_are, ← hy, lt-ltb k y h)

      pub move_down : y ≤ k → Some 4 ≡ move_or_cycle t n p
      unfolding move_or_cycle move_kind
      move_down h = rw (misses, ← steps_are, ← hy, le-ltb k y h)

---- what the code of the tree needs: search climbing

pub ruleset climbs = (climb_starts, climb_found, climb_root, climb_out, climb_on, climb_less, climb_ends)

pub ruleset climbing = (rules, climbs)
