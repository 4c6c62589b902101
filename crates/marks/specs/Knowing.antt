-- What the held counts know of a node, as the code tells it.
use Rattle.std.specs.Prelude.{◌≡◌, List, ℕ}
use Rattle.rules.specs.Op.{Vector}
use Rattle.rules.specs.File.{log_of, width}
use Rattle.rules.specs.Marks.{Knowledge, unknown, known_unmarked, known_marked}
use Rattle.soundness.specs.Asked.{Tallied}
use Rattle.marks.specs.Marking.{marks_of}
use Rattle.marks.specs.declared.knowing.Knowledge.TheVariants.{Unknown, KnownUnmarked, KnownMarked}
use Rattle.marks.specs.declared.knowing.Knowledge as code

-- the outcome, in the rules' terms
abbrev pub knowledge_of : code.Knowledge → Knowledge
knowledge_of Unknown = unknown
knowledge_of KnownUnmarked = known_unmarked
knowledge_of KnownMarked = known_marked

-- a sound buffer, its counts and its marks
pub record MarkedLog (f : List ℕ) (u : Vector) (marks : List ℕ) : Type 0 where
  pub tallied : Tallied f u
  pub marks_are : marks ≡ marks_of (log_of width f)
