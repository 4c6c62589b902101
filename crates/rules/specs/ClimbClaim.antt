-- What a climb that ends at the node says ("stop climbing when the node is met").
use Rattle.std.specs.Prelude.{ℕ, ◌+◌, ◌≤◌, ◌<◌, ◌≡◌, true, false, List, get_or}
use Rattle.rules.specs.Tree.{parent_in, path, depth, at_or_below, climb_to}

pub record ClimbSays (parents : List ℕ) (p n : ℕ) : Type 0 where
  -- "the same answer"
  pub answer : (climb_to parents p n).met ≡ at_or_below parents p n
  -- the steps are "those from the parent up to the node if the node is met": they lead to it, and the depths differ by them
  pub leads : (climb_to parents p n).met ≡ true → get_or (path parents p) (climb_to parents p n).steps 0 ≡ n
  pub differ : (climb_to parents p n).met ≡ true → (climb_to parents p n).steps + depth parents n ≡ depth parents p
  -- "otherwise the parent's depth"
  pub missed : (climb_to parents p n).met ≡ false → (climb_to parents p n).steps ≡ depth parents p
  -- never more than that
  pub most : (climb_to parents p n).steps ≤ depth parents p

-- wherever the parent's path comes to the root
abbrev pub Climbs : Type 0
Climbs = (parents : List ℕ) (p n : ℕ) → at_or_below parents p 0 ≡ true → ClimbSays parents p n

-- two tables have the same parents for the first k nodes of a path
abbrev pub AlikeAlong : (parents other way : List ℕ) (k : ℕ) → Type 0
AlikeAlong parents other way k = (i : ℕ) → i < k → parent_in other (get_or way i 0) ≡ parent_in parents (get_or way i 0)

-- "must not climb past the node": the parents of as many nodes as there are steps settle the climb, and no other entry of the table
abbrev pub ClimbStops : Type 0
ClimbStops =
    (parents other : List ℕ) (p n : ℕ) → AlikeAlong parents other (path parents p) (climb_to parents p n).steps
    → climb_to other p n ≡ climb_to parents p n
