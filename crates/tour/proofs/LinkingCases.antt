-- The returns and turns of linking, as the code meets them.
use Rattle.std.proofs.Common.{◌≡◌, ℕ, ◌+◌, ◌-◌, ◌<◌, ◌≤◌, List, length, get_or, set, sym, refl, ◌∙◌, arith, rules, eq-eqb, ne_eqb}
use mathlib.Core.List.{foldl}
use Rattle.lists.specs.Lists.{down_from}
use Rattle.lists.proofs.RangeLaws.{down_end, down_turn}
use Rattle.rules.specs.Tree.{no_parent, slots}
use Rattle.tour.specs.Asked.{LinkableAt, TourSized}
use Rattle.tour.specs.Tables.{link_slot, links}
use Rattle.tree.specs.Slots.{slot_node, slot_in}

---- one slot

module _ (p h f n : List ℕ) (k : ℕ) where
  pub link_bare : get_or p k 0 ≡ no_parent → links f n ≡ link_slot p h (links f n) k
  unfolding link_slot
  link_bare e = rw (eq-eqb (get_or p k 0) no_parent e)

  module _ (e : get_or p k 0 ≡ no_parent → ⊥) where
    pub link_hidden : (get_or h k 0 ≡ 0 → ⊥) → links f n ≡ link_slot p h (links f n) k
    unfolding link_slot
    link_hidden nz = rw (ne_eqb (get_or p k 0) no_parent e, ne_eqb (get_or h k 0) 0 nz)

    -- j is the slot of the parent, x the node
    pub link_shown : get_or h k 0 ≡ 0 → (j : ℕ) → j ≡ slot_in (get_or p k 0) → (x : ℕ) → x ≡ slot_node k
        → links (set f j x) (set n k (get_or f j 0)) ≡ link_slot p h (links f n) k
    unfolding link_slot
    link_shown z j is x node = rw (is, node, ne_eqb (get_or p k 0) no_parent e, eq-eqb (get_or h k 0) 0 z)

---- all slots; the i highest are done

pub record LinkingFrom (p h f₀ n₀ f n : List ℕ) (i : ℕ) : Type 0 where
  pub sized : TourSized p h f n
  pub left : let step = link_slot p h in
      foldl step (links f₀ n₀) (down_from (slots - 1)) ≡ foldl step (links f n) (down_from (slots - 1 - i))

pub linking_starts : (p h f n : List ℕ) → TourSized p h f n → LinkingFrom p h f n f n 0
linking_starts p h f n s = record { sized = s; left = refl }

module _ (p h f₀ n₀ f n : List ℕ) (i : ℕ) (r : LinkingFrom p h f₀ n₀ f n i) where
  pub linking_asks : i < slots - 1 → LinkableAt p h f n (slots - 1 - i)
  linking_asks u = record { sized = r.sized; inside = omega arith }

  pub linking_on : i < slots - 1 → (f' n' : List ℕ) → length f' ≡ length f → length n' ≡ length n
      → links f' n' ≡ link_slot p h (links f n) (slots - 1 - i) → LinkingFrom p h f₀ n₀ f' n' (i + 1)
  linking_on u f' n' lf ln e = record {
    sized = record {
      parents_size = r.sized.parents_size;
      marks_size = r.sized.marks_size;
      first_size = lf ∙ r.sized.first_size;
      next_size = ln ∙ r.sized.next_size;
    };
    left = r.left ∙ down_turn (link_slot p h) (links f n) (slots - 1) i u ∙ rw (← e);
  }

  pub linking_ends : slots - 1 ≤ i → links f n ≡ foldl (link_slot p h) (links f₀ n₀) (down_from (slots - 1))
  linking_ends u = sym (r.left ∙ down_end (link_slot p h) (links f n) (slots - 1) i u)

---- what the code of linking needs: search linking
pub ruleset linking =
    (rules, link_bare, link_hidden, link_shown, linking_starts, linking_asks, linking_on, linking_ends)
