-- The tables from which a tour of a tree is made, as the code fills them.
use Rattle.std.specs.Prelude.{ℕ, zero, suc, ◌+◌, ◌-◌, ◌%◌, cond, List, [], ◌∷◌, replicate, ◌==◌, slice_index, slice_set}
use mathlib.Core.List.{foldl}
use Rattle.lists.specs.Lists.{up_from, down_from}
use Rattle.rules.specs.Tree.{slots, no_parent}
use Rattle.rules.specs.Views.{View, keeping, skipping}
use Rattle.tree.specs.Slots.{slot_in, slot_node, at_node}
use Rattle.tour.specs.declared.touring.Visit.{Visit}

---- what is hidden from the keeping view: not 0

-- shows a node and what is above it, up to the first that is shown already
unfoldable pub reveal : ℕ → (parents hidden : List ℕ) → ℕ → List ℕ
reveal zero parents hidden n = hidden
reveal (suc k) parents hidden n =
    let above = reveal k parents (slice_set hidden (slot_in n) 0) (at_node parents n) in
    cond (at_node hidden n == 0) hidden above

unfoldable pub reveal_slot : (parents marks hidden : List ℕ) → ℕ → List ℕ
reveal_slot parents marks hidden k =
    let shown = reveal slots parents hidden (slot_node k) in
    cond (slice_index parents k == no_parent) hidden (cond (slice_index marks k == 0) shown hidden)

-- all but the root
unfoldable pub all_hidden : List ℕ
all_hidden = slice_set (replicate slots 1) 0 0

unfoldable pub hidden_of : (parents marks : List ℕ) → View → List ℕ
hidden_of parents marks keeping = foldl (reveal_slot parents marks) all_hidden (up_from 1 (slots - 1))
hidden_of parents marks skipping = marks

---- the first child and the next sibling of each node, 0 where there is none

pub record Links : Type 0 where
  pub first : List ℕ
  pub next : List ℕ

abbrev pub links : List ℕ → List ℕ → Links
links f n = record { first = f; next = n }

-- a node before its siblings
unfoldable pub link_slot : (parents hidden : List ℕ) → Links → ℕ → Links
link_slot parents hidden l k =
    let p = slot_in (slice_index parents k) in
    let linked = links (slice_set l.first p (slot_node k)) (slice_set l.next k (slice_index l.first p)) in
    cond (slice_index parents k == no_parent) l (cond (slice_index hidden k == 0) linked l)

unfoldable pub no_links : Links
no_links = links (replicate slots 0) (replicate slots 0)

unfoldable pub links_of : (parents hidden : List ℕ) → Links
links_of parents hidden = foldl (link_slot parents hidden) no_links (down_from (slots - 1))

---- the tour: nodes with their depths

abbrev pub visit : ℕ → ℕ → Visit
visit n d = record { node = n; depth = d }

unfoldable pub push : ℕ → ℕ → List Visit → List Visit
push n d stack = cond (n == 0) stack (visit n d ∷ stack)

-- after a node come its first child and what is below it, then its next sibling
unfoldable pub visited : Links → Visit → List Visit → List Visit
visited l e stack = push (at_node l.first e.node) ((e.depth + 1) % 65536) (push (at_node l.next e.node) e.depth stack)

-- each visit of the stack is the first of some siblings that are left
unfoldable pub tour : ℕ → Links → List Visit → List Visit
tour zero l stack = []
tour (suc k) l [] = []
tour (suc k) l (e ∷ stack) = e ∷ tour k l (visited l e stack)

unfoldable pub tour_of : Links → List Visit
tour_of l = tour slots l (visit 0 0 ∷ [])

-- what a view shows of a tree with marks, in preorder
unfoldable pub order_by : (parents marks : List ℕ) → View → List Visit
order_by parents marks view = tour_of (links_of parents (hidden_of parents marks view))
