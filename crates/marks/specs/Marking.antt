-- The table of marks, as the code fills it: not 0 where a node is marked.
use Rattle.std.specs.Prelude.{ℕ, ◌≡◌, true, cond, set, replicate}
use mathlib.Core.List.{List, foldl}
use Rattle.lists.specs.Lists.{concat}
use Rattle.rules.specs.Op.{Op, node_of, is_remove}
use Rattle.rules.specs.File.{Log, width}
use Rattle.rules.specs.Sound.{sound}
use Rattle.rules.specs.Tree.{slots}
use Rattle.tree.specs.Slots.{slot_in}

unfoldable pub mark : List ℕ → Op → List ℕ
mark marks r = cond (is_remove r) (set marks (slot_in (node_of r)) 1) marks

-- no node is marked
unfoldable pub no_marks : List ℕ
no_marks = replicate slots 0

unfoldable pub marks_of : Log → List ℕ
marks_of log = foldl mark no_marks (concat log)

-- a sound buffer, and a table without marks
pub record Markable (f marks : List ℕ) : Type 0 where
  pub is_sound_so : sound width f ≡ true
  pub unmarked : marks ≡ no_marks
