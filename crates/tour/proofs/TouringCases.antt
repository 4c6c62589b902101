-- The returns and turns of the tour, as the code meets them.
use Rattle.std.proofs.Common.{◌≡◌, ℕ, zero, suc, ◌+◌, ◌-◌, ◌*◌, ◌/◌, ◌%◌, ◌<◌, ◌≤◌, List, [], ◌∷◌, ◌++◌, length, get_or, take, drop, set, replicate, sym, refl, ap, ◌∙◌, append-nil, add-one, arith, length-set, take-append-drop, drop_of_length-le, length-take-le, drop-cons, get_or-set_same, take-suc-set, drop-set-lt, rules, eq-eqb, ne_eqb}
use lib.Seq.{append_snoc, drop-drop}
use Rattle.std.proofs.lemmas.List.{drop-replicate}
use Rattle.rules.specs.Tree.{slots}
use Rattle.tour.specs.Asked.{Pushable, Tourable, Visitable}
use Rattle.tour.specs.Tables.{Links, links, push, tour, tour_of, visit, visited}
use Rattle.tour.specs.declared.touring.Visit.{Visit}
use Rattle.tree.specs.Slots.{slot_in}

---- a node on the stack

module _ (stack : List Visit) (top n d : ℕ) where
  pub push_none : n ≡ 0 → drop top stack ≡ push n d (drop top stack)
  unfolding push
  push_none e = rw (eq-eqb n 0 e)

  pub push_one : (n ≡ 0 → ⊥) → Pushable stack top → drop (top - 1) (set stack (top - 1) (visit n d)) ≡ push n d (drop top stack)
  unfolding push
  push_one nz a =
      let x = visit n d in
      let e : top ≡ suc (top - 1) = omega (arith, a.room) in
      let h : top - 1 < length stack = omega (arith, a.room, a.within) in
      let b : drop (top - 1) (set stack (top - 1) x) ≡ x ∷ drop (suc (top - 1)) stack =
      drop-cons (set stack (top - 1) x) (top - 1) x (rw (length-set stack (top - 1) x) h)
      ∙ rw (get_or-set_same stack (top - 1) x x h, drop-set-lt (suc (top - 1)) stack (top - 1) x (omega arith)) in
      rw (ne_eqb n 0 nz) (b ∙ ap (λ (k : ℕ). x ∷ drop k stack) (sym e))

---- a visit: k is the slot of the entry's node

module _ (f n : List ℕ) (stack : List Visit) (e : Visit) (top : ℕ) (a : Visitable f n stack top) where
  pub sibling_asks : Pushable stack (top + 1)
  sibling_asks = record { room = omega arith; within = omega (arith, a.within) }

  module _ (mid : List Visit) (same : length mid ≡ length stack) (rest : ℕ) (lo : rest ≤ top + 1) (hi : top + 1 ≤ rest + 1) where
    pub child_asks : Pushable mid rest
    child_asks = record { room = omega (arith, a.room); within = omega (arith, a.within) }

    module _ (k : ℕ) (ek : k ≡ slot_in e.node)
        (first : drop rest mid ≡ push (get_or n k 0) e.depth (drop (top + 1) stack)) where
      pub visit_made : (below : ℕ) → below ≡ (e.depth + 1) % 65536
          → (after : List Visit) (r : ℕ) → drop r after ≡ push (get_or f k 0) below (drop rest mid)
          → drop r after ≡ visited (links f n) e (drop (top + 1) stack)
      unfolding visited
      visit_made below eb after r s = s ∙ rw (first, eb, ek)

---- the tour; i nodes are out, and the stack has what is left

pub record Touring (f n : List ℕ) (o₀ o stack : List Visit) (top i : ℕ) : Type 0 where
  pub asked : Tourable f n o₀
  pub order_size : length o ≡ slots
  pub stack_size : length stack ≡ slots + 1
  pub few : i ≤ slots
  pub low : slots ≤ top + i
  pub high : top ≤ slots + 1
  pub left : tour_of (links f n) ≡ take i o ++ tour (slots - i) (links f n) (drop top stack)
  pub kept : drop i o ≡ drop i o₀

pub tour_starts : (f n : List ℕ) (o : List Visit) → Tourable f n o → Touring f n o o (replicate (slots + 1) (visit 0 0)) slots 0
unfolding tour_of
tour_starts f n o a = record {
  asked = a;
  order_size = a.order_size;
  stack_size = refl;
  few = omega arith;
  low = omega arith;
  high = omega arith;
  left = rw (drop-replicate slots (suc slots) (visit 0 0));
  kept = refl;
}

tour_none : (k : ℕ) (l : Links) → tour k l [] ≡ []
unfolding tour
tour_none zero l = refl
tour_none (suc k) l = refl

module _ (f n : List ℕ) (o₀ o stack : List Visit) (top i : ℕ) (t : Touring f n o₀ o stack top i) where
  -- all nodes are out
  whole : tour_of (links f n) ≡ take i o → (i ≡ length (tour_of (links f n))) × (o ≡ tour_of (links f n) ++ drop i o₀)
  whole e =
      let l : i ≤ length o = omega (arith, t.few, t.order_size) in
      (sym (ap length e ∙ length-take-le i o l), rw (e, ← t.kept) (sym (take-append-drop i o)))

  stopped : top ≡ slots + 1 → tour_of (links f n) ≡ take i o
  stopped e =
      let h : length stack ≤ top = omega (arith, t.stack_size) in
      t.left ∙ rw (drop_of_length-le stack h, tour_none (slots - i) (links f n)) (append-nil (take i o))

  ended : slots ≤ i → tour_of (links f n) ≡ take i o
  unfolding tour
  ended h = let z : slots - i ≡ 0 = omega arith in t.left ∙ rw z (append-nil (take i o))

  pub tour_stops_count : top ≡ slots + 1 → i ≡ length (tour_of (links f n))
  tour_stops_count e = (whole (stopped e)).0

  pub tour_stops : top ≡ slots + 1 → o ≡ tour_of (links f n) ++ drop i o₀
  tour_stops e = (whole (stopped e)).1

  pub tour_ends_count : slots ≤ i → slots ≡ length (tour_of (links f n))
  tour_ends_count h = let e : slots ≡ i = omega (arith, t.few) in e ∙ (whole (ended h)).0

  pub tour_ends : slots ≤ i → o ≡ tour_of (links f n) ++ drop slots o₀
  tour_ends h = let e : slots ≡ i = omega (arith, t.few) in (whole (ended h)).1 ∙ rw (← e)

  module _ (h : i < slots) (ne : top ≡ slots + 1 → ⊥) where
    pub visit_asks : Visitable f n stack top
    visit_asks = record {
      links_size = t.asked.links_size;
      room = omega (arith, t.low);
      within = omega (arith, t.high, t.stack_size);
    }

    pub tour_on : (stack' : List Visit) → length stack' ≡ length stack
        → (top' : ℕ) → drop top' stack' ≡ visited (links f n) (get_or stack top (visit 0 0)) (drop (top + 1) stack) → top' ≤ top + 1 → top ≤ top' + 1
        → Touring f n o₀ (set o i (get_or stack top (visit 0 0))) stack' top' (i + 1)
    unfolding tour
    tour_on stack' same top' v lo hi =
        let k : slots - i ≡ suc (slots - (i + 1)) = omega arith in
        let b : top < length stack = omega (arith, t.high, t.stack_size) in
        let u : i < length o = omega (arith, t.order_size) in
        record {
          asked = t.asked;
          order_size = length-set o i _ ∙ t.order_size;
          stack_size = same ∙ t.stack_size;
          few = omega arith;
          low = omega (arith, t.low);
          high = omega (arith, t.high);
          left = t.left ∙ rw (v, k, drop-cons stack top (visit 0 0) b, add-one i, add-one top, take-suc-set o i (get_or stack top (visit 0 0)) u)
              (sym (append_snoc (take i o) (get_or stack top (visit 0 0)) _));
          kept = drop-set-lt (i + 1) o i _ (omega arith) ∙ sym (drop-drop 1 i o) ∙ ap (drop 1) t.kept ∙ drop-drop 1 i o₀;
        }

---- what the code of the tour needs: search touring
pub ruleset visits = (push_none, push_one, sibling_asks, child_asks, visit_made, visit_asks)

pub ruleset touring = (rules, visits, tour_starts, tour_stops_count, tour_stops, tour_ends_count, tour_ends, tour_on)
