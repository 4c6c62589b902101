-- The tree that a parent table holds: slots, paths to the root, depth, what lies below.
use Rattle.std.specs.Prelude.{ℕ, zero, suc, ◌+◌, ◌*◌, ◌-◌, ◌/◌, ◌%◌, Bool, cond, List, [], ◌∷◌, length, get_or, eqb, ltb}
use Rattle.lists.specs.Lists.{is_in, index_of}

-- "seat s, sequence q has slot 255 x (s - 1) + q"; slot 0 is the root
unfoldable pub slot : ℕ → ℕ → ℕ
slot s q = 255 * (s - 1) + q

unfoldable pub slot_of : ℕ → ℕ
slot_of n = cond (eqb n 0) 0 (slot (n / 256) (n % 256))

-- the most ops that a log has: 255 of each of the eight replicas
abbrev pub most_ops : ℕ
most_ops = 2040

-- how many slots a table has, and the parent entry of a slot without an added node
abbrev pub slots : ℕ
slots = 2041

abbrev pub no_parent : ℕ
no_parent = 65535

unfoldable pub parent_in : List ℕ → ℕ → ℕ
parent_in parents n = get_or parents (slot_of n) no_parent

-- n, its parent, and so on to the root, in at most k entries
unfoldable pub climb : ℕ → List ℕ → ℕ → List ℕ
climb zero parents n = []
climb (suc k) parents n = let above = climb k parents (parent_in parents n) in n ∷ cond (eqb n 0) [] above

-- a table has 2,041 slots, so no path in a tree has more entries
unfoldable pub path : List ℕ → ℕ → List ℕ
path parents n = climb slots parents n

-- "the number of steps to the root"
unfoldable pub depth : List ℕ → ℕ → ℕ
depth parents n = length (path parents n) - 1

-- m is n or lies below it
unfoldable pub at_or_below : List ℕ → ℕ → ℕ → Bool
at_or_below parents m n = is_in n (path parents m)

-- what a climb that ends at a node hands back: whether the node is met, and "its number of steps"
pub record Climbed : Type 0 where
  pub met : Bool
  pub steps : ℕ

-- "does this parent lie below that node": the steps are "those from the parent up to the node if the node is met, otherwise the parent's
-- depth"
unfoldable pub climb_to : List ℕ → ℕ → ℕ → Climbed
climb_to parents p n =
    let met : Bool = at_or_below parents p n in
    record { met = met; steps = cond met (index_of n (path parents p)) (depth parents p) }

-- "a move is upward if the node's depth is greater than the new parent's, else downward", in the tree before it
unfoldable pub move_kind : List ℕ → ℕ → ℕ → ℕ
move_kind parents n p = cond (ltb (depth parents p) (depth parents n)) 3 4
