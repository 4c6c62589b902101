-- The two views: which nodes are shown.
use Rattle.std.specs.Prelude.{ℕ, Bool, ◌&&◌, ◌||◌, not, List, eqb}
use Rattle.lists.specs.Lists.{all, any}
use Rattle.rules.specs.File.{Log, counts_of}
use Rattle.rules.specs.Tree.{path, at_or_below}
use Rattle.rules.specs.Replay.{added_in}
use Rattle.rules.specs.Marks.{marked}

-- "the added nodes are those made by the adds among the held records", in rising order
unfoldable pub nodes : Log → List ℕ
nodes log = added_in log (counts_of log)

pub data View : Type 0 where
  keeping : View
  skipping : View

-- keeping: "it or some node below it is unmarked"; skipping: "neither it nor any node above it is marked". The root is always shown
unfoldable pub shown : View → Log → List ℕ → ℕ → Bool
shown keeping log parents n = eqb n 0 || any (λ m. at_or_below parents m n && not (marked log (counts_of log) m)) (nodes log)
shown skipping log parents n = eqb n 0 || all (λ m. not (marked log (counts_of log) m)) (path parents n)
