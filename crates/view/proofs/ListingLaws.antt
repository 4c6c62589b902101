-- The tables of a log give its listing.
use Prim.Native.Nat.{◌-◌, suc, ℕ, ◌≤◌}
use lib.Dec.{eqb}
use lib.ListN.{get_or, length, length-map}
use mathlib.Core.Bool.{◌&&◌, Bool, not}
use mathlib.Core.List.{List, map, ◌∷◌}
use mathlib.Core.Logic.{inl}
use mathlib.Core.Path.{ap, refl, sym, ◌∙◌, ◌≡◌}
use native.Mathlib.Nat.{le_trans}
use native.Mathlib.Omega.{arith}
use Rattle.rules.proofs.ClimbLaws.{climb_length, Depth, depth_child, depth_unique, up}
use Rattle.order.proofs.FuelLaws.{has_depth}
use Rattle.rules.proofs.KnownLaws.{Named, named_valid}
use Rattle.order.proofs.TourLaws.{preorder_length}
use Rattle.lists.proofs.FilterLaws.{filter_length, filter_map_filter}
use Rattle.rules.proofs.StructureLaws.{GoodLog}
use Rattle.rules.proofs.SlotLaws.{Valid, slot_root}
use Rattle.lists.specs.Lists.{concat, filter}
use Rattle.rules.specs.Listing.{children, line, listing_in, listing_of, preorder}
use Rattle.rules.specs.File.{Log, counts_of}
use Rattle.rules.specs.Replay.{parents_of}
use Rattle.rules.specs.Tree.{climb, depth, path, slots}
use Rattle.rules.specs.Views.{View, keeping, shown, skipping}
use Rattle.rules.specs.Marks.{marked}
use Rattle.lists.proofs.EachLaws.{Each, each_filter, each_map, map_each}
use Rattle.tour.proofs.LinkLaws.{Chain, Linked, kids, links_right}
use Rattle.marks.proofs.MarkLaws.{marks_say}
use Rattle.tour.proofs.NodesLaws.{children_slots, slot_entry}
use Rattle.tour.proofs.OrderLaws.{pre_nodes}
use Rattle.tour.proofs.PruneLaws.{pruned}
use Rattle.tour.proofs.RevealLaws.{keeping_hidden}
use Rattle.lists.proofs.ListLaws.{map_concat, map_map}
use Rattle.lists.proofs.BoolLaws.{not_not, under_and}
use Rattle.tree.proofs.SlotLaws.{slot_in_node, slot_in_valid}
use Rattle.tour.proofs.TourLaws.{pre, tour_root}
use Rattle.order.proofs.TreePathLaws.{Under, children_under}
use Rattle.order.proofs.ViewLaws.{keeping_child, root_shown, skipping_child}
use Rattle.tour.specs.Tables.{Links, hidden_of, links_of, order_by, tour_of, visit}
use Rattle.tour.specs.declared.touring.Visit.{Visit}
use Rattle.tree.specs.Slots.{at_node, slot_node}
use Rattle.view.specs.Tables.{line_for, lines_of, order_of}
use Rattle.marks.specs.Marking.{marks_of}

pre_turn : (kids : ℕ → List ℕ) (k n : ℕ) → pre kids (suc k) n ≡ n ∷ concat (map (pre kids k) (kids n))
unfolding pre
pre_turn kids k n = refl

module _ (log : Log) (good : GoodLog log) where
  abbrev P : List ℕ
  P = parents_of log

  abbrev marks : List ℕ
  marks = marks_of log

  abbrev Node : ℕ → Type 0
  Node n = Named log (counts_of log) n

  node_is_valid : (n : ℕ) → Node n → Valid n
  node_is_valid n w = named_valid log (counts_of log) n w

  unmarked_node : (n : ℕ) → Valid n → eqb (at_node marks n) 0 ≡ not (marked log (counts_of log) n)
  unmarked_node n v = rw (← marks_say log good n v) (sym (not_not (eqb (at_node marks n) 0)))

  -- a node is shown if its parent is and it is not hidden itself
  shown_child : (view : View) (n c : ℕ) → Node n → Under log good n c
      → shown view log P c ≡ (shown view log P n && eqb (at_node (hidden_of P marks view) c) 0)
  unfolding hidden_of
  shown_child keeping n c w u = rw (keeping_hidden log good c (node_is_valid c u.node))
      (under_and (shown keeping log P n) (shown keeping log P c) (keeping_child log good n c u))
  shown_child skipping n c w u = rw (unmarked_node c (node_is_valid c u.node)) (skipping_child log good n c w u)

  module _ (view : View) where
    abbrev hidden : List ℕ
    hidden = hidden_of P marks view

    abbrev unhidden : ℕ → Bool
    unhidden m = eqb (at_node hidden m) 0

    abbrev kids_of : ℕ → List ℕ
    kids_of n = filter unhidden (children log P n)

    abbrev l : Links
    l = links_of P hidden

    shown_order : filter (shown view log P) (preorder slots log P 0) ≡ pre kids_of slots 0
    shown_order =
        pruned log P (shown view log P) unhidden Node (λ n w. each_map _ _ (children log P n) (λ c u. (u.node, shown_child view n c w u))
        (children_under log good n)) slots 0 (inl refl)
        ∙ rw (root_shown log good view)

    is_linked : Linked P hidden (slot_entry log good) 1 l
    is_linked = links_right P hidden (slot_entry log good)

    kids_same : (n : ℕ) → Valid n → kids_of n ≡ kids P hidden (slot_entry log good) 1 n
    kids_same n v = rw (children_slots log good n v) (filter_map_filter unhidden slot_node (λ k. eqb (get_or P k 0) n) _ 2040 1
        (λ k a b. rw (slot_in_node k a (omega arith))))

    kids_under : (n : ℕ) → Each (Under log good n) (kids_of n)
    kids_under n = each_filter _ unhidden (children log P n) (children_under log good n)

    order_short : length (pre kids_of slots 0) ≤ slots
    order_short = rw (← shown_order) (le_trans (filter_length (shown view log P) (preorder slots log P 0)) (preorder_length log good slots))

    order_nodes : Each Node (pre kids_of slots 0)
    order_nodes = pre_nodes kids_of Node (λ n w. each_map _ _ (kids_of n) (λ c u. u.node) (kids_under n)) slots 0 (inl refl)

    ---- the tour

    abbrev with_depth : ℕ → Visit
    with_depth n = visit n (depth P n)

    abbrev tree : ℕ → ℕ → List Visit
    tree d n = map with_depth (pre kids_of (slots - d) n)

    record Good (d n : ℕ) : Type 0 where
      node : Named log (counts_of log) n
      deep : Depth P d n
      low : d ≤ 2040

    depth_is : (d n : ℕ) → Good d n → depth P n ≡ d
    unfolding depth path
    depth_is d n g = let e : length (climb slots P n) ≡ suc d = climb_length P slots d n (omega (arith, g.low)) g.deep.root
        g.deep.first in omega arith

    opens : (d n : ℕ) → Good d n → tree d n ≡ visit n d ∷ concat (map (tree (suc d)) (kids_of n))
    opens d n g =
        let e : slots - d ≡ suc (slots - suc d) = omega (arith, g.low) in
        rw (e, pre_turn kids_of (slots - suc d) n, depth_is d n g, map_concat with_depth (pre kids_of (slots - suc d)) (kids_of n))

    below : (d n : ℕ) → Good d n → Each (Good (suc d)) (kids_of n)
    below d n g = each_map _ _ (kids_of n) (λ c u.
        let (j, b, dc) = has_depth log good c u.node in
        let d' = depth_child P d n c u.parent u.below_root g.deep in
        let z : suc d ≡ j = depth_unique P (suc d) j c d' dc in
        record { node = u.node; deep = d'; low = omega arith }) (kids_under n)

    chain : (d n : ℕ) → Good d n → Chain l.next (at_node l.first n) (kids_of n)
    chain d n g = let v = node_is_valid n g.node in rw (kids_same n v) (is_linked.chains n v)

    root_good : Good 0 0
    unfolding up
    root_good = record { node = inl refl; deep = record { root = refl; first = λ k h z. omega arith }; low = omega arith }

    tour_is : tour_of l ≡ map with_depth (pre kids_of slots 0)
    tour_is = tour_root l kids_of tree Good chain opens below (λ d n g. omega (arith, g.low)) root_good
        (rw (slot_in_valid 0 (inl refl), slot_root 0 refl) is_linked.root_last) (rw length-map order_short)

    ---- the lines

    line_is : (n : ℕ) → Node n → line_for marks (with_depth n) ≡ line log P n
    unfolding line_for line
    line_is n w =
        rw (marks_say log good n (node_is_valid n w))

    pub listing_is : lines_of marks (order_of log view) ≡ listing_of view log
    unfolding order_by lines_of listing_of listing_in
    listing_is = rw (tour_is, shown_order) (ap concat (map_map (line_for marks) with_depth (pre kids_of slots 0) ∙ map_each Node
        (λ n. line_for marks (with_depth n)) (line log P) (pre kids_of slots 0) line_is order_nodes))
