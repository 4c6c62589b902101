-- What the functions that deliver with a holdback answer.
use Rattle.std.specs.Prelude.{ℕ, Bool, false, List, eqb}
use Rattle.rules.specs.Answer.{Answer, refused, had_it, waiting, done, accepted, if_waiting}
use Rattle.rules.specs.File.{file_end, width}
use Rattle.rules.specs.Holdback.{HoldbackResult, early_answer, holdback_of, holdback_ops, put_back, search}
use Rattle.rules.specs.Op.{Op}

abbrev pub is_early : Answer → Bool
is_early (refused n) = eqb n 5
is_early had_it = false
is_early waiting = false
is_early done = false
is_early (accepted n) = false

-- the answer to an early op, and the holdback afterwards
pub record EarlyResult : Type 0 where
  pub answer : Answer
  pub holdback : List ℕ

unfoldable pub early_call : (op : Op) (holdback : List ℕ) → EarlyResult
early_call r h = record { answer = early_answer width r h; holdback = if_waiting (early_answer width r h) (put_back width r h) h }

-- what the search after an acceptance leaves, and the last file end
unfoldable pub after_search : (buffer holdback : List ℕ) → HoldbackResult
after_search f h =
    let s = search width f (holdback_ops width h) in
    record { answer = accepted (file_end width s.buffer); buffer = s.buffer; holdback = holdback_of width s.left }
