-- What a call hands back (the table "Numbers handed back"): one type for all calls.
use Rattle.std.specs.Prelude.{ℕ, Bool, true, false}

-- refused with the document's number; "had it"; "waiting", of an early op that is held back; judging is done; or accepted, with the
-- number handed back: the new file end, the entries of a path, the bytes of a listing or of a bundle
pub data Answer : Type 0 where
  refused : ℕ → Answer
  had_it : Answer
  waiting : Answer
  done : Answer
  accepted : ℕ → Answer

-- go on if the test passes, else refuse with the number
unfoldable pub require : Bool → ℕ → Answer → Answer
require true n next = next
require false n next = refused n

-- the answer to a step of a call, and what follows it: a refusal ends the call
unfoldable pub unless_refused : Answer → Answer → Answer
unless_refused (refused n) next = refused n
unless_refused had_it next = next
unless_refused waiting next = next
unless_refused done next = next
unless_refused (accepted n) next = next

-- what a call leaves behind: the new content if it was accepted, else the old
abbrev pub if_accepted {ℓ} : {A : Type ℓ} → Answer → A → A → A
if_accepted (refused n) new old = old
if_accepted had_it new old = old
if_accepted waiting new old = old
if_accepted done new old = old
if_accepted (accepted n) new old = new

-- what judging leaves behind
abbrev pub if_done {ℓ} : {A : Type ℓ} → Answer → A → A → A
if_done (refused n) new old = old
if_done had_it new old = old
if_done waiting new old = old
if_done done new old = new
if_done (accepted n) new old = old

-- what an op that waits leaves behind
abbrev pub if_waiting {ℓ} : {A : Type ℓ} → Answer → A → A → A
if_waiting (refused n) new old = old
if_waiting had_it new old = old
if_waiting waiting new old = new
if_waiting done new old = old
if_waiting (accepted n) new old = old
