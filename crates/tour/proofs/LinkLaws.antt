-- The first children and next siblings that linking leaves: chains of the children that are not hidden.
use Rattle.std.proofs.Common.{◌≡◌, ℕ, zero, suc, ◌+◌, ◌-◌, ◌<◌, ◌≤◌, Bool, true, false, cond, ◌&&◌, eqb, ◌⊎◌, List, [], ◌∷◌, map, length, get_or, set, replicate, sym, refl, ◌∙◌, ⊎_elim, arith, lit≤, length-set, get_or-set_other, get_or-set_same, eq-eqb, ne_eqb}
use lib.ListN.{get_or-replicate, length-replicate}
use mathlib.Core.List.{foldl}
use native.Mathlib.Decide.{ℕ_discrete}
use Rattle.lists.proofs.BoolLaws.{and_false}
use Rattle.rules.proofs.SlotLaws.{Valid, slot_injective}
use Rattle.lists.specs.Lists.{down_from, filter, up_from}
use Rattle.rules.specs.Tree.{no_parent, slots}
use Rattle.tour.proofs.NodesLaws.{valid_parent}
use Rattle.tree.proofs.SlotLaws.{node_nonzero, slot_in_below, slot_in_node, slot_in_valid}
use Rattle.tour.specs.Tables.{Links, link_slot, links, links_of, no_links}
use Rattle.tree.specs.Slots.{at_node, slot_node, slot_in}

-- from x on, next passes these nodes and ends
abbrev pub Chain : List ℕ → ℕ → List ℕ → Type 0
Chain next x [] = x ≡ 0
Chain next x (y ∷ ys) = (x ≡ y) × (y ≡ 0 → ⊥) × Chain next (at_node next y) ys

module _ (parents hidden : List ℕ) (entries : (k : ℕ) → 0 < k → k < slots → (get_or parents k 0 ≡ no_parent) ⊎ Valid (get_or parents k 0)) where
  abbrev under : ℕ → ℕ → Bool
  under n k = eqb (get_or parents k 0) n && eqb (get_or hidden k 0) 0

  -- the children of n that are not hidden, from slot i on
  abbrev pub kids : ℕ → ℕ → List ℕ
  kids i n = map slot_node (filter (under n) (up_from i (slots - i)))

  pub record Linked (i : ℕ) (l : Links) : Type 0 where
    pub first_size : length l.first ≡ slots
    pub next_size : length l.next ≡ slots
    pub root_last : get_or l.next 0 0 ≡ 0
    pub chains : (n : ℕ) → Valid n → Chain l.next (at_node l.first n) (kids i n)

  -- a slot below those of a chain may change
  chain_kept : (next : List ℕ) (k v : ℕ) (q : ℕ → Bool) (m i x : ℕ) → k < i → i + m ≤ slots
      → Chain next x (map slot_node (filter q (up_from i m))) → Chain (set next k v) x (map slot_node (filter q (up_from i m)))
  unfolding filter up_from
  chain_kept next k v q zero i x h b c = c
  chain_kept next k v q (suc m) i x h b c = go (q i) x c (λ y. chain_kept next k v q m (suc i) y (omega arith) (omega arith))
    where
      same : at_node (set next k v) (slot_node i) ≡ at_node next (slot_node i)
      same = rw (slot_in_node i (omega arith) (omega arith)) (get_or-set_other next k i v 0 (λ e. omega arith))

      go : (t : Bool) (x : ℕ) → Chain next x (map slot_node (cond t (i ∷ filter q (up_from (suc i) m)) (filter q (up_from (suc i) m))))
          → ((y : ℕ) → Chain next y (map slot_node (filter q (up_from (suc i) m)))
          → Chain (set next k v) y (map slot_node (filter q (up_from (suc i) m))))
          → Chain (set next k v) x (map slot_node (cond t (i ∷ filter q (up_from (suc i) m)) (filter q (up_from (suc i) m))))
      go true x (a, b, c) ih = (a, b, rw same (ih _ c))
      go false x c ih = ih x c

  kids_turn : (k n : ℕ) → k < slots → kids k n ≡ cond (under n k) (slot_node k ∷ kids (suc k) n) (kids (suc k) n)
  unfolding filter up_from
  kids_turn k n h = let e : slots - k ≡ suc (slots - suc k) = omega arith in rw e (go (under n k))
    where
      go : (b : Bool) → map slot_node (cond b (k ∷ filter (under n) (up_from (suc k) (slots - suc k)))
          (filter (under n) (up_from (suc k) (slots - suc k)))) ≡ cond b (slot_node k ∷ kids (suc k) n) (kids (suc k) n)
      go true = refl
      go false = refl

  not_under : (k n : ℕ) → k < slots → under n k ≡ false → kids k n ≡ kids (suc k) n
  not_under k n h e = kids_turn k n h ∙ rw e

  module _ (k : ℕ) (p : 0 < k) (u : k < slots) (l : Links) (d : Linked (suc k) l) (vp : Valid (get_or parents k 0))
      (shown : eqb (get_or hidden k 0) 0 ≡ true) where
    abbrev q : ℕ
    q = get_or parents k 0

    abbrev after : Links
    after = links (set l.first (slot_in q) (slot_node k)) (set l.next k (get_or l.first (slot_in q) 0))

    rest : (n : ℕ) → Valid n → Chain after.next (at_node l.first n) (kids (suc k) n)
    rest n v = chain_kept l.next k (get_or l.first (slot_in q) 0) (under n) (slots - suc k) (suc k) (at_node l.first n) (omega arith)
        (omega arith) (d.chains n v)

    linked_here : (n : ℕ) → Valid n → q ≡ n → Chain after.next (at_node after.first n) (kids k n)
    linked_here n v z =
        let a : at_node after.first n ≡ slot_node k = rw (← z) (get_or-set_same l.first (slot_in q) (slot_node k) 0
        (omega (arith, d.first_size, slot_in_below q))) in
        let b : at_node after.next (slot_node k) ≡ at_node l.first n = rw (slot_in_node k p u, ← z)
        (get_or-set_same l.next k (get_or l.first (slot_in q) 0) 0 (omega (arith, d.next_size))) in
        rw (kids_turn k n u, eq-eqb q n z, shown) (a, node_nonzero k p, rw b (rest n v))

    linked_else : (n : ℕ) → Valid n → (q ≡ n → ⊥) → Chain after.next (at_node after.first n) (kids k n)
    linked_else n v nz =
        let a : at_node after.first n ≡ at_node l.first n = get_or-set_other l.first (slot_in q) (slot_in n) (slot_node k) 0
        (λ e. nz (sym (slot_injective n q v vp (sym (slot_in_valid n v) ∙ e ∙ slot_in_valid q vp)))) in
        rw (not_under k n u (rw (ne_eqb q n nz)), a) (rest n v)

    linked_after : Linked k after
    linked_after = record {
      first_size = length-set l.first (slot_in q) (slot_node k) ∙ d.first_size;
      next_size = length-set l.next k (get_or l.first (slot_in q) 0) ∙ d.next_size;
      root_last = get_or-set_other l.next k 0 (get_or l.first (slot_in q) 0) 0 (λ e. omega arith) ∙ d.root_last;
      chains = λ n v. elim (ℕ_discrete q n) [ yes z ↦ linked_here n v z | no nz ↦ linked_else n v nz ];
    }

  link_step : (k : ℕ) → 0 < k → k < slots → (l : Links) → Linked (suc k) l → Linked k (link_slot parents hidden l k)
  unfolding link_slot
  link_step k p u l d = ⊎_elim bare hangs (entries k p u)
    where
      same : ((n : ℕ) → Valid n → under n k ≡ false) → Linked k l
      same h = record {
        first_size = d.first_size;
        next_size = d.next_size;
        root_last = d.root_last;
        chains = λ n v. rw (not_under k n u (h n v)) (d.chains n v);
      }

      bare : get_or parents k 0 ≡ no_parent → Linked k (link_slot parents hidden l k)
      bare e = rw (eq-eqb _ _ e) (same (λ n v. rw (e, ne_eqb 65535 n (λ q. valid_parent n v (sym q)))))

      go : Valid (get_or parents k 0) → (b : Bool) → eqb (get_or hidden k 0) 0 ≡ b
          → Linked k (cond b (links (set l.first (slot_in (get_or parents k 0)) (slot_node k))
          (set l.next k (get_or l.first (slot_in (get_or parents k 0)) 0))) l)
      go vp false e = same (λ n v. rw (e, and_false (eqb (get_or parents k 0) n)))
      go vp true e = linked_after k p u l d vp e

      hangs : Valid (get_or parents k 0) → Linked k (link_slot parents hidden l k)
      hangs vp = rw (ne_eqb _ _ (valid_parent (get_or parents k 0) vp)) (go vp (eqb (get_or hidden k 0) 0) refl)

  link_all : (k : ℕ) → k < slots → (l : Links) → Linked (suc k) l → Linked 1 (foldl (link_slot parents hidden) l (down_from k))
  unfolding down_from
  link_all zero u l d = d
  link_all (suc k) u l d = link_all k (omega arith) (link_slot parents hidden l (suc k)) (link_step (suc k) (omega arith) u l d)

  no_kids : (n : ℕ) → kids slots n ≡ []
  unfolding filter up_from
  no_kids n = refl

  pub links_right : Linked 1 (links_of parents hidden)
  unfolding links_of no_links
  links_right =
      link_all 2040 (lit≤ tt) (links (replicate slots 0) (replicate slots 0)) (record {
        first_size = length-replicate {A = ℕ} slots 0;
        next_size = length-replicate {A = ℕ} slots 0;
        root_last = get_or-replicate {A = ℕ} slots 0 0 0 (lit≤ tt);
        chains = λ n v. rw (no_kids n) (get_or-replicate slots (slot_in n) 0 0 (slot_in_below n));
      })
