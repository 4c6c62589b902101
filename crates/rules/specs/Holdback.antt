-- Delivery with a holdback (the document's tray): an op that comes before those it rests on waits in lent bytes until they are held.
-- Tests 1, 14, 2, 3, then whether the sequence is held already, then 13 in the place of 5, then 6, 7, 8.
use Rattle.std.specs.Prelude.{ℕ, zero, suc, ◌+◌, ◌*◌, ◌-◌, Bool, false, cond, ◌&&◌, ◌||◌, List, [], ◌∷◌, ◌++◌, length, drop, replicate, leb, ltb, eqb}
use Rattle.lists.specs.Lists.{same, concat, all, any}
use Rattle.rules.specs.Answer.{Answer, refused, had_it, waiting, done, accepted, require, if_accepted, if_waiting}
use Rattle.rules.specs.Bytes.{byte}
use Rattle.rules.specs.Op.{Op}
use Rattle.rules.specs.File.{chunks, file_end}
use Rattle.rules.specs.Sound.{sound}
use Rattle.rules.specs.Deliver.{deliver_answer, deliver_buffer}

---- the holdback: "a tray of 449 bytes, one count byte and places for 32 records in order of arrival"

abbrev pub places : ℕ
places = 32

-- the ops that wait in it, and the holdback in which these wait: the places behind them are zero bytes
unfoldable pub holdback_ops : ℕ → (holdback : List ℕ) → List Op
holdback_ops w h = chunks w (byte h 0) (drop 1 h)

unfoldable pub holdback_of : ℕ → List Op → List ℕ
holdback_of w ops = length ops ∷ (concat ops ++ replicate (w * (places - length ops)) 0)

-- number 14: "a tray not of 449 bytes, with a count above 32 or with a byte past its records that isn't zero"
unfoldable pub sound_holdback : ℕ → (holdback : List ℕ) → Bool
sound_holdback w h =
    eqb (length h) (1 + w * places) && leb (byte h 0) places && all (eqb 0) (drop (w * byte h 0) (drop 1 h))

---- the search after an acceptance

-- an op that is answered so stays: "refused with 5 or 8"
unfoldable pub stays : Answer → Bool
stays (refused n) = eqb n 5 || eqb n 8
stays had_it = false
stays waiting = false
stays done = false
stays (accepted n) = false

-- a look through the ops that wait, from the front: the first that is accepted or none, and the ops that are left
pub data Look : Type 0 where
  found : (op : Op) (left : List Op) → Look
  none : (left : List Op) → Look

-- kept are the ops met so far that stay. The next one is taken out if it is accepted; else it stays, or it is dropped: "already held,
-- or refused for a cause other than 5 or 8"
unfoldable pub look : ℕ → (buffer : List ℕ) → (kept rest : List Op) → Look
look w f kept [] = none kept
look w f kept (x ∷ rest) =
    let a = deliver_answer w f x in
    if_accepted a (found x (kept ++ rest)) (look w f (cond (stays a) (kept ++ (x ∷ [])) kept) rest)

-- the buffer after a search, the ops left in the holdback, and those that were accepted, in this order
pub record Search : Type 0 where
  pub buffer : List ℕ
  pub left : List Op
  pub taken : List Op

-- what follows a look: "the search starts again from the front as soon as one is accepted"
unfoldable pub search_on : ℕ → (buffer : List ℕ) → (again : (buffer : List ℕ) → List Op → Search) → Look → Search
search_on w f again (found x left) =
    let s = again (deliver_buffer w f x) left in
    record { buffer = s.buffer; left = s.left; taken = x ∷ s.taken }
search_on w f again (none left) = record { buffer = f; left = left; taken = [] }

-- a search of at most k looks
unfoldable pub looks : ℕ → ℕ → (buffer : List ℕ) → List Op → Search
looks zero w f ops = record { buffer = f; left = ops; taken = [] }
looks (suc k) w f ops = search_on w f (looks k w) (look w f [] ops)

-- each look but the last takes an op out, so one look more than there are ops is enough
unfoldable pub search : ℕ → (buffer : List ℕ) → List Op → Search
search w f ops = looks (suc (length ops)) w f ops

---- the call

-- a buffer, and the holdback beside it
pub record Desk : Type 0 where
  pub buffer : List ℕ
  pub holdback : List ℕ

-- a call's answer, and the lent buffer and holdback after it
pub record HoldbackResult : Type 0 where
  pub answer : Answer
  pub buffer : List ℕ
  pub holdback : List ℕ

-- the same bytes wait already
unfoldable pub waits : ℕ → (op holdback : List ℕ) → Bool
waits w r h = any (same r) (holdback_ops w h)

-- "an early record goes to the back of the tray"; "the same bytes twice are held once"
unfoldable pub put_back : ℕ → (op holdback : List ℕ) → List ℕ
put_back w r h = cond (waits w r h) h (holdback_of w (holdback_ops w h ++ (r ∷ [])))

-- "early record not in the tray and the tray full, in the place of 5"
unfoldable pub early_answer : ℕ → (op holdback : List ℕ) → Answer
early_answer w r h = require (waits w r h || ltb (byte h 0) places) 13 waiting

-- the search after the op r was accepted
unfoldable pub released : ℕ → (buffer op holdback : List ℕ) → Search
released w f r h = search w (deliver_buffer w f r) (holdback_ops w h)

-- by the answer of the plain delivery: an early op may wait, and after an acceptance "the answer is then the last file end"
unfoldable pub answer_on : Answer → ℕ → (buffer op holdback : List ℕ) → Answer
answer_on (refused n) w f r h = cond (eqb n 5) (early_answer w r h) (refused n)
answer_on had_it w f r h = had_it
answer_on waiting w f r h = waiting
answer_on done w f r h = done
answer_on (accepted n) w f r h = accepted (file_end w (released w f r h).buffer)

unfoldable pub holdback_answer : ℕ → (buffer op holdback : List ℕ) → Answer
holdback_answer w f r h =
    require (sound w f) 1 (require (sound_holdback w h) 14 (answer_on (deliver_answer w f r) w f r h))

unfoldable pub holdback_buffer : ℕ → (buffer op holdback : List ℕ) → List ℕ
holdback_buffer w f r h = if_accepted (holdback_answer w f r h) (released w f r h).buffer f

unfoldable pub holdback_after : ℕ → (buffer op holdback : List ℕ) → List ℕ
holdback_after w f r h =
    let a = holdback_answer w f r h in
    if_accepted a (holdback_of w (released w f r h).left) (if_waiting a (put_back w r h) h)

abbrev pub deliver_holdback : ℕ → (buffer op holdback : List ℕ) → HoldbackResult
deliver_holdback w f r h = record {
  answer = holdback_answer w f r h;
  buffer = holdback_buffer w f r h;
  holdback = holdback_after w f r h;
}

-- the ops that an accepted call adds, in the order in which they are accepted
unfoldable pub holdback_taken : ℕ → (buffer op holdback : List ℕ) → List Op
holdback_taken w f r h = r ∷ (released w f r h).taken
