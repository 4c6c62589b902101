-- What a call answers, in the document's terms (its table "Numbers handed back").
use Rattle.std.specs.Prelude.{ℕ, Result, Ok, Err}
use Rattle.rules.specs.Answer.{Answer, refused, had_it, waiting, done, accepted}
use Rattle.codec.specs.declared.answer.Delivered.{Delivered}
use Rattle.codec.specs.declared.answer.Delivered.TheVariants.{HadIt, Waiting, Accepted}
use Rattle.codec.specs.declared.answer.Refusal.{Refusal}
use Rattle.codec.specs.declared.answer.Refusal.TheVariants.{Unsound, Length, Malformed, Conflict, Early, NotClosed, Unknown, NoRoom, Exhausted, Cycle, Marked, BadBundle, HoldbackFull, BadHoldback}

-- the document's number of each refusal
abbrev pub number_of : Refusal → ℕ
number_of Unsound = 1
number_of Length = 2
number_of Malformed = 3
number_of Conflict = 4
number_of Early = 5
number_of NotClosed = 6
number_of Unknown = 7
number_of NoRoom = 8
number_of Exhausted = 9
number_of Cycle = 10
number_of Marked = 11
number_of BadBundle = 12
number_of HoldbackFull = 13
number_of BadHoldback = 14

-- what a delivery that is not refused says
abbrev pub delivered : Delivered → Answer
delivered HadIt = had_it
delivered Waiting = waiting
delivered (Accepted n) = accepted n

-- what a call says: a refusal by its number, else what it hands back
abbrev pub answer_by : {T : Type 0} → (T → Answer) → Result T Refusal → Answer
answer_by f (Ok x) = f x
answer_by f (Err why) = refused (number_of why)

-- of a call that hands back a number, of a delivery, and of a call that hands back nothing
abbrev pub answer_of : Result ℕ Refusal → Answer
answer_of r = answer_by accepted r

abbrev pub delivery_of : Result Delivered Refusal → Answer
delivery_of r = answer_by delivered r

abbrev pub done_of : Result Unit Refusal → Answer
done_of r = answer_by (λ _. done) r
