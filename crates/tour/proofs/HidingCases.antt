-- The returns and turns of hiding, as the code meets them.
use Rattle.std.proofs.Common.{◌≡◌, ℕ, suc, ◌+◌, ◌-◌, ◌<◌, ◌≤◌, List, length, get_or, set, sym, refl, ◌∙◌, arith, length-set, rules, eq-eqb, ne_eqb}
use mathlib.Core.List.{foldl}
use Rattle.lists.specs.Lists.{up_from}
use Rattle.lists.proofs.RangeLaws.{up_end, up_turn}
use Rattle.rules.specs.Tree.{no_parent, slots}
use Rattle.tour.specs.Asked.{HidingSized, RevealSized}
use Rattle.tree.specs.Slots.{slot_node, slot_in}
use Rattle.tour.specs.Tables.{reveal, reveal_slot}

---- a climb from n that stands at `at` after i steps: what it shows of h₀ is what it shows of h from here

pub record Revealing (p h₀ : List ℕ) (n : ℕ) (h : List ℕ) (at i : ℕ) : Type 0 where
  pub sized : RevealSized p h
  pub steps : i ≤ slots
  pub left : reveal slots p h₀ n ≡ reveal (slots - i) p h at

pub reveal_starts : (p h : List ℕ) (n : ℕ) → RevealSized p h → Revealing p h n h n 0
reveal_starts p h n s = record { sized = s; steps = omega arith; left = refl }

module _ (p h₀ : List ℕ) (n : ℕ) (h : List ℕ) (at i : ℕ) (r : Revealing p h₀ n h at i) where
  pub reveal_ends : slots ≤ i → h ≡ reveal slots p h₀ n
  unfolding reveal
  reveal_ends u = let e : slots - i ≡ 0 = omega arith in sym (r.left ∙ rw e)

  -- k is the slot of the node
  module _ (k : ℕ) (is : k ≡ slot_in at) (u : i < slots) where
    pub reveal_stops : get_or h k 0 ≡ 0 → h ≡ reveal slots p h₀ n
    unfolding reveal
    reveal_stops z =
        let e : slots - i ≡ suc (slots - (i + 1)) = omega arith in
        sym (r.left ∙ rw (e, ← is, eq-eqb (get_or h k 0) 0 z))

    pub reveal_on : (get_or h k 0 ≡ 0 → ⊥) → Revealing p h₀ n (set h k 0) (get_or p k 0) (i + 1)
    unfolding reveal
    reveal_on nz =
        let e : slots - i ≡ suc (slots - (i + 1)) = omega arith in
        record {
          sized = record { parents_size = r.sized.parents_size; hidden_size = length-set h k 0 ∙ r.sized.hidden_size };
          steps = omega arith;
          left = r.left ∙ rw (e, ← is, ne_eqb (get_or h k 0) 0 nz);
        }

---- one slot

module _ (p m h : List ℕ) (k : ℕ) where
  pub slot_bare : get_or p k 0 ≡ no_parent → h ≡ reveal_slot p m h k
  unfolding reveal_slot
  slot_bare e = rw (eq-eqb (get_or p k 0) no_parent e)

  module _ (e : get_or p k 0 ≡ no_parent → ⊥) where
    pub slot_marked : (get_or m k 0 ≡ 0 → ⊥) → h ≡ reveal_slot p m h k
    unfolding reveal_slot
    slot_marked nz = rw (ne_eqb (get_or p k 0) no_parent e, ne_eqb (get_or m k 0) 0 nz)

    pub slot_shown : get_or m k 0 ≡ 0 → (n : ℕ) → n ≡ slot_node k → (x : List ℕ) → x ≡ reveal slots p h n → x ≡ reveal_slot p m h k
    unfolding reveal_slot
    slot_shown z n is x r = r ∙ rw (is, ne_eqb (get_or p k 0) no_parent e, eq-eqb (get_or m k 0) 0 z)

---- all slots; those before k are done

pub record HidingFrom (p m h₀ h : List ℕ) (k : ℕ) : Type 0 where
  pub sized : HidingSized p m h
  pub left : foldl (reveal_slot p m) h₀ (up_from 1 (slots - 1)) ≡ foldl (reveal_slot p m) h (up_from k (slots - k))

pub hiding_starts : (p m h : List ℕ) → HidingSized p m h → HidingFrom p m h h 1
hiding_starts p m h s = record { sized = s; left = refl }

module _ (p m h₀ h : List ℕ) (k : ℕ) (r : HidingFrom p m h₀ h k) where
  pub hiding_on : k < slots → (h' : List ℕ) → length h' ≡ length h → h' ≡ reveal_slot p m h k → HidingFrom p m h₀ h' (k + 1)
  hiding_on u h' l e = record {
    sized = record {
      marks_size = r.sized.marks_size;
      others = record { parents_size = r.sized.others.parents_size; hidden_size = l ∙ r.sized.others.hidden_size };
    };
    left = r.left ∙ up_turn (reveal_slot p m) h slots k u ∙ rw (← e);
  }

  pub hiding_ends : slots ≤ k → h ≡ foldl (reveal_slot p m) h₀ (up_from 1 (slots - 1))
  hiding_ends u = sym (r.left ∙ up_end (reveal_slot p m) h slots k u)

---- what the code of hiding needs: search hiding
pub ruleset hiding =
    (rules, reveal_starts, reveal_ends, reveal_stops, reveal_on, slot_bare, slot_marked, slot_shown, hiding_starts, hiding_on, hiding_ends)
