-- What a listing is made from, as the code has it.
use Rattle.std.specs.Prelude.{ℕ, not, List, ◌++◌, map, length, drop, eqb}
use Rattle.lists.specs.Lists.{concat}
use Rattle.rules.specs.File.{Log}
use Rattle.rules.specs.Replay.{parents_of}
use Rattle.rules.specs.Views.{View}
use Rattle.rules.specs.Listing.{line_of}
use Rattle.tree.specs.Slots.{at_node}
use Rattle.marks.specs.Marking.{marks_of}
use Rattle.tour.specs.Tables.{order_by}
use Rattle.tour.specs.declared.touring.Visit.{Visit}

-- what a view shows of a log, in preorder
abbrev pub order_of : Log → View → List Visit
order_of log view = order_by (parents_of log) (marks_of log) view

---- the lines

unfoldable pub line_for : List ℕ → Visit → List ℕ
line_for marks e = line_of e.depth e.node (not (eqb (at_node marks e.node) 0))

unfoldable pub lines_of : List ℕ → List Visit → List ℕ
lines_of marks es = concat (map (line_for marks) es)

---- lent memory with a text, or the entries of a path, in front

unfoldable pub put_front : (content out : List ℕ) → List ℕ
put_front content out = content ++ drop (length content) out
