-- Marks (tombstones in the field) of a cut, and what a vector knows of a node.
use Rattle.std.specs.Prelude.{ℕ, ◌/◌, ◌%◌, Bool, true, false, cond, ◌&&◌, leb}
use Rattle.lists.specs.Lists.{is_in}
use Rattle.rules.specs.Op.{Vector, is_replica, count_in, is_add}
use Rattle.rules.specs.File.{Log, op_at}
use Rattle.rules.specs.Replay.{removed_in}

---- marks

-- "remove marks it; the mark stays": some remove within the cut names the node
unfoldable pub marked : Log → Vector → ℕ → Bool
marked log cut n = is_in n (removed_in log cut)

---- what a vector knows of a node

-- "the question whether a node is known gets three outcomes"
pub data Knowledge : Type 0 where
  unknown : Knowledge
  known_unmarked : Knowledge
  known_marked : Knowledge

-- marked or not: all that delivering and soundness ask
unfoldable pub is_known : Knowledge → Bool
is_known unknown = false
is_known known_unmarked = true
is_known known_marked = true

unfoldable pub is_marked : Knowledge → Bool
is_marked unknown = false
is_marked known_unmarked = false
is_marked known_marked = true

-- the op of a node's replica and sequence is within the vector
unfoldable pub node_within : Vector → ℕ → Bool
node_within v n = is_replica (n / 256) && leb 1 (n % 256) && leb (n % 256) (count_in v (n / 256))

-- known: "the record of its seat and sequence is within the context and is an add"; and marked "if a remove of it is within the context"
unfoldable pub knowledge : Log → Vector → ℕ → Knowledge
knowledge log v n =
    cond (node_within v n && is_add (op_at log (n / 256) (n % 256))) (cond (marked log v n) known_marked known_unmarked) unknown
