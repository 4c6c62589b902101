-- What the views answer.
use Rattle.std.specs.Prelude.{ℕ, List, ◌++◌, length, drop, leb}
use Rattle.rules.specs.Answer.{Answer, accepted, require, if_accepted}
use Rattle.rules.specs.Path.{Written}
use Rattle.rules.specs.Views.{View, keeping, skipping}
use Rattle.view.specs.declared.answer.View as code
use Rattle.view.specs.declared.answer.View.TheVariants as view

abbrev pub view_of : code.View → View
view_of view.Keeping = keeping
view_of view.Skipping = skipping

-- a text, or the entries of a path, put into lent memory; number 8 if it does not fit
unfoldable pub put_answer : (content : List ℕ) (room : ℕ) → Answer
put_answer content room = require (leb (length content) room) 8 (accepted (length content))

unfoldable pub put_in : (content out : List ℕ) → Written
put_in content out =
    let a = put_answer content (length out) in
    record { answer = a; out = if_accepted a (content ++ drop (length content) out) out }
