-- What climbs in a tree answer.
use Rattle.std.specs.Prelude.{ℕ, cond, true, false, List, Option, Some, None}
use Rattle.rules.specs.Tree.{at_or_below, move_kind}
use Rattle.rules.specs.Tree as rules
use Rattle.tree.specs.declared.climb.Climbed as code
use Rattle.tree.specs.declared.climb.Climbed.TheVariants.{Met, Missed}

-- what the code's climb hands back, in the rules' terms
abbrev pub climbed_of : code.Climbed → rules.Climbed
climbed_of (Met k) = record { met = true; steps = k }
climbed_of (Missed k) = record { met = false; steps = k }

-- the number of the kind of a move in a tree, none of one that number 10 refuses
unfoldable pub move_or_cycle : List ℕ → ℕ → ℕ → Option ℕ
move_or_cycle parents n p = cond (at_or_below parents p n) None (Some (move_kind parents n p))
