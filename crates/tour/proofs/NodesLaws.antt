-- The added nodes are those of the slots in rising order; each slot has an added node with a parent, or no parent.
use Rattle.lists.proofs.RangeLaws.{blocks, map_up_from}
use Rattle.std.proofs.Common.{◌≡◌, ℕ, zero, suc, ◌+◌, ◌-◌, ◌*◌, ◌/◌, ◌%◌, ◌<◌, ◌≤◌, Bool, true, false, cond, ◌&&◌, eqb, ◌⊎◌, List, [], ◌∷◌, map, length, get_or, take, sym, refl, ap, ◌∙◌, inl, inr, le_of_suc-le-suc, not-suc-le-zero, add-zero, arith, take_all, ne_eqb, eqb-true}
use Rattle.rules.proofs.KnownLaws.{Known, Named, known_of, known_reads, named_valid, names_add}
use Rattle.order.proofs.NodeLaws.{added_is}
use Rattle.order.proofs.TreeTheorem.{is_tree}
use Rattle.tree.proofs.ClimbLaws.{parent_read}
use Rattle.lists.proofs.BoolLaws.{both_ways, fails, never}
use Rattle.rules.proofs.StructureLaws.{GoodLog, count_held, good_ops}
use Rattle.rules.proofs.SlotLaws.{Valid}
use Rattle.lists.specs.Lists.{concat, filter, up_from}
use Rattle.rules.specs.Listing.{children}
use Rattle.rules.specs.File.{Log, counts_of, op_at, ops_of}
use Rattle.rules.specs.Marks.{is_known, knowledge}
use Rattle.rules.specs.Op.{Op, count_in, is_add, node_number, node_of, replicas}
use Rattle.rules.specs.Replay.{added_in, ops_within, parents_of}
use Rattle.rules.specs.Tree.{no_parent, parent_in, slots}
use Rattle.rules.specs.Views.{nodes}
use Rattle.lists.proofs.FilterLaws.{filter_map_filter, map_filter_concat, none_from}
use Rattle.tree.proofs.SlotLaws.{node_nonzero, node_slot, seat_node, slot_node_law}
use Rattle.order.proofs.LevelLaws.{whole_cut}
use Rattle.order.proofs.TreePathLaws.{named_parent, table_size}
use Rattle.tree.specs.Slots.{slot_node}

ops_nodes : (p : ℕ → Bool) (g : ℕ → ℕ) (rs : List Op) (n a : ℕ) → length rs ≤ n
    → ((i : ℕ) → i < length rs → (is_add (get_or rs i []) ≡ p (a + i)) × (is_add (get_or rs i []) ≡ true → node_of (get_or rs i []) ≡ g (a + i)))
    → ((i : ℕ) → length rs ≤ i → i < n → p (a + i) ≡ false)
    → map node_of (filter is_add rs) ≡ map g (filter p (up_from a n))
unfolding filter up_from
ops_nodes p g [] n a l h o = rw (none_from p n a (λ i b. o i (omega arith) b))
ops_nodes p g (r ∷ rs) zero a l h o = absurd (not-suc-le-zero l)
ops_nodes p g (r ∷ rs) (suc n) a l h o =
    let z = add-zero a in
    let (e, g₀) = h 0 (omega arith) in
    let ih = ops_nodes p g rs n (suc a) (le_of_suc-le-suc l)
    (λ i b. let q : suc a + i ≡ a + suc i = omega arith in rw q (h (suc i) (omega arith)))
    (λ i b c. let q : suc a + i ≡ a + suc i = omega arith in rw q (o (suc i) (omega arith) (omega arith))) in
    go (is_add r) refl (rw z at e) (rw z at g₀) ih
  where
    go : (b : Bool) → is_add r ≡ b → is_add r ≡ p a → (is_add r ≡ true → node_of r ≡ g a)
        → map node_of (filter is_add rs) ≡ map g (filter p (up_from (suc a) n)) → map node_of (cond b (r ∷ filter is_add rs) (filter is_add rs))
        ≡ map g (cond (p a) (a ∷ filter p (up_from (suc a) n)) (filter p (up_from (suc a) n)))
    go true q e m ih = rw (← e, q, m q, ih)
    go false q e m ih = rw (← e, q, ih)

pub valid_parent : (n : ℕ) → Valid n → n ≡ 65535 → ⊥
valid_parent n (inl e) q = omega arith
valid_parent n (inr v) q = omega arith

module _ (log : Log) (good : GoodLog log) where
  abbrev held : ℕ → Bool
  held k = is_known (knowledge log (counts_of log) (slot_node k))

  module _ (s i : ℕ) (l : 1 ≤ s) (u : s ≤ 8) (b : i < 255) where
    high : slot_node (255 * (s - 1) + 1 + i) / 256 ≡ s
    high = rw (seat_node s i l b) (omega arith)

    low : slot_node (255 * (s - 1) + 1 + i) % 256 ≡ i + 1
    low = rw (seat_node s i l b) (omega arith)

    held_add : i < count_in (counts_of log) s → is_add (op_at log s (i + 1)) ≡ held (255 * (s - 1) + 1 + i)
    held_add h =
        both_ways (is_add (op_at log s (i + 1))) (held (255 * (s - 1) + 1 + i))
        (λ e. known_of log (counts_of log) _ (record {
          low = rw high l;
          high = rw high u;
          first = rw low (omega arith);
          last = rw (low, high)
              (omega arith);
        }) (rw (low, high) e))
        (λ e. rw (low, high) at (known_reads log (counts_of log) _ e).1)

    unheld : count_in (counts_of log) s ≤ i → held (255 * (s - 1) + 1 + i) ≡ false
    unheld h = fails _ (λ e. let w = (known_reads log (counts_of log) _ e).0.last in let w' : i + 1 ≤ count_in (counts_of log) s =
        rw (low, high) at w in omega arith)

    add_node : i < count_in (counts_of log) s → is_add (op_at log s (i + 1)) ≡ true
        → node_of (op_at log s (i + 1)) ≡ slot_node (255 * (s - 1) + 1 + i)
    unfolding is_add node_number
    add_node h e =
        let x = good_ops good s (i + 1) l u (omega arith) (omega arith) in
        (names_add log (op_at log s (i + 1)) x.names (eqb-true _ _ e)).1 ∙ rw (x.origin, x.number, seat_node s i l b)

  op_at_law : (s i : ℕ) → get_or (ops_of log s) i [] ≡ op_at log s (i + 1)
  unfolding op_at
  op_at_law s i = let e : i + 1 - 1 ≡ i = omega arith in rw e

  seat_nodes : (s : ℕ) → 1 ≤ s → s ≤ 8 → map node_of (filter is_add (take (count_in (counts_of log) s) (ops_of log s))) ≡ map slot_node
      (filter held (up_from (255 * (s - 1) + 1) 255))
  seat_nodes s l u =
      let c = count_held log s in
      let few = good.counts s l u in
      let t : take (count_in (counts_of log) s) (ops_of log s) ≡ ops_of log s = take_all (count_in (counts_of log) s) (ops_of log s)
      (omega arith) in
      rw t (ops_nodes held slot_node (ops_of log s) 255 (255 * (s - 1) + 1) (omega arith)
      (λ i h. rw (op_at_law s i) (held_add s i l u (omega arith) (omega arith), add_node s i l u (omega arith) (omega arith)))
      (λ i h b. unheld s i l u b (omega arith)))

  pub nodes_slots : nodes log ≡ map slot_node (filter held (up_from 1 2040))
  unfolding nodes added_in ops_within replicas
  nodes_slots =
      map_filter_concat node_of is_add (λ s. take (count_in (counts_of log) s) (ops_of log s)) (up_from 1 8)
      ∙ ap concat (map_up_from _ (λ s. map slot_node (filter held (up_from (255 * (s - 1) + 1) 255))) 8 1
      (λ s l u. seat_nodes s l (omega arith)))
      ∙ sym (map_filter_concat slot_node held (λ s. up_from (255 * (s - 1) + 1) 255) (up_from 1 8))
      ∙ ap (λ ks. map slot_node (filter held ks)) (blocks 255 8 1 (omega arith))

  -- a slot's parent entry
  slot_parent : (k : ℕ) → 0 < k → k < slots → parent_in (parents_of log) (slot_node k) ≡ get_or (parents_of log) k 0
  slot_parent k l u = parent_read (parents_of log) (slot_node k) k (sym (slot_node_law k l u)) (table_size log good) (rw (slot_node_law k l u) u)

  pub held_parent : (k : ℕ) → 0 < k → k < slots → held k ≡ true → Named log (counts_of log) (get_or (parents_of log) k 0)
  held_parent k l u h = rw (← slot_parent k l u) (named_parent log good (slot_node k) (inr h) (node_nonzero k l))

  pub unheld_parent : (k : ℕ) → 0 < k → k < slots → held k ≡ false → get_or (parents_of log) k 0 ≡ no_parent
  unfolding parents_of
  unheld_parent k l u h = (is_tree log good (counts_of log) (whole_cut log good)).bare k l u (λ n e q.
      let w : Known log (counts_of log) n = sym (added_is log good (counts_of log) (whole_cut log good) n) ∙ e in
      let m : slot_node k ≡ n = rw (← q) (node_slot n (named_valid log (counts_of log) n (inr w))) in
      never (sym (rw m at h) ∙ w))

  -- the table has a known node, the root, or no parent
  pub slot_entry : (k : ℕ) → 0 < k → k < slots → (get_or (parents_of log) k 0 ≡ no_parent) ⊎ Valid (get_or (parents_of log) k 0)
  slot_entry k l u = go (held k) refl
    where
      go : (b : Bool) → held k ≡ b → (get_or (parents_of log) k 0 ≡ no_parent) ⊎ Valid (get_or (parents_of log) k 0)
      go true e = inr (named_valid log (counts_of log) _ (held_parent k l u e))
      go false e = inl (unheld_parent k l u e)

  -- children, by slots
  pub children_slots : (n : ℕ) → Valid n
      → children log (parents_of log) n ≡ map slot_node (filter (λ k. eqb (get_or (parents_of log) k 0) n) (up_from 1 2040))
  unfolding children
  children_slots n v = rw nodes_slots (filter_map_filter (λ m. eqb (parent_in (parents_of log) m) n) slot_node held
      (λ k. eqb (get_or (parents_of log) k 0) n) 2040 1 (λ k l u. same k (omega arith) (omega arith)))
    where
      same : (k : ℕ) → 0 < k → k < slots → (held k && eqb (parent_in (parents_of log) (slot_node k)) n) ≡ eqb (get_or (parents_of log) k 0) n
      same k l u = rw (slot_parent k l u) (go (held k) refl)
        where
          go : (b : Bool) → held k ≡ b → (b && eqb (get_or (parents_of log) k 0) n) ≡ eqb (get_or (parents_of log) k 0) n
          go true e = refl
          go false e = rw (unheld_parent k l u e) (sym (ne_eqb 65535 n (λ q. valid_parent n v (sym q))))
