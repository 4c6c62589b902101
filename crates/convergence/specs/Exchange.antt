-- "Two collections that meet": lists of calls and what is held after them; rounds of offers, their answers,
-- and what is missing (the document's lacking).
use Rattle.std.specs.Prelude.{ℕ, ◌≡◌, Bool, true, false, cond, ◌&&◌, not, length, take, drop, eqb}
use mathlib.Core.List.{List, [], ◌∷◌, ◌++◌, map, foldl}
use Rattle.rules.specs.Answer.{Answer, accepted, if_accepted}
use Rattle.lists.specs.Lists.{up_from, same, concat, any, filter}
use Rattle.rules.specs.Op.{Op, replicas, replica_of, seq_of}
use Rattle.rules.specs.File.{Log, width, file_end, file_of, chunks}
use Rattle.rules.specs.Deliver.{make_answer, make_buffer, deliver_answer, deliver_buffer}
use Rattle.rules.specs.Issue.{Request, issue_answer, issue_buffer, issue_out}
use Rattle.rules.specs.Bundle.{bodies_in, turns_taken, open_answer, open_buffer}
use Rattle.rules.specs.Holdback.{holdback_answer, holdback_buffer, holdback_after, holdback_taken}
use Rattle.page_rules.specs.Page.{Page, page}
use Rattle.page_rules.specs.Page as pages
use Rattle.batch_rules.specs.Batch as batches

---- a list of calls

-- a call that is lent the log's buffer to write in; judging, path, listing and making a bundle only read it, so any of them may stand
-- between
pub data Call : Type 0 where
  make : Call
  issue : (out : List ℕ) (replica : ℕ) → Request → Call
  deliver : (op : List ℕ) → Call
  open_bundle : (bundle : List ℕ) → Call
  deliver_holdback : (op holdback : List ℕ) → Call
  deliver_page : (op : List ℕ) (lent : Page) → Call
  issue_page : (out : List ℕ) (replica : ℕ) → Request → (lent : Page) → Call
  issue_moves : (out : List ℕ) (replica : ℕ) (nodes : List ℕ) (parent : ℕ) → Call

-- a buffer, and the ops held there, in the order in which they were accepted
pub record Site : Type 0 where
  pub buffer : List ℕ
  pub held : List Op

unfoldable pub answer : List ℕ → Call → Answer
answer f make = make_answer f
answer f (issue out s q) = issue_answer width f (length out) s q
answer f (deliver r) = deliver_answer width f r
answer f (open_bundle b) = open_answer width f b
answer f (deliver_holdback r h) = holdback_answer width f r h
answer f (deliver_page r p) = (pages.deliver_page width f r p).answer
answer f (issue_page out s q p) = (pages.issue_page width f out s q p).answer
answer f (issue_moves out s ns p) = (batches.issue_moves width f out s ns p).answer

unfoldable pub buffer_after : List ℕ → Call → List ℕ
buffer_after f make = make_buffer width f
buffer_after f (issue out s q) = issue_buffer width f (length out) s q
buffer_after f (deliver r) = deliver_buffer width f r
buffer_after f (open_bundle b) = open_buffer width f b
buffer_after f (deliver_holdback r h) = holdback_buffer width f r h
buffer_after f (deliver_page r p) = (pages.deliver_page width f r p).buffer
buffer_after f (issue_page out s q p) = (pages.issue_page width f out s q p).buffer
buffer_after f (issue_moves out s ns p) = (batches.issue_moves width f out s ns p).buffer

-- what an accepted call adds to: making begins with nothing held, every other call with what there was
unfoldable pub begun : Site → Call → Site
begun x make = record { buffer = make_buffer width x.buffer; held = [] }
begun x (issue out s q) = x
begun x (deliver r) = x
begun x (open_bundle b) = x
begun x (deliver_holdback r h) = x
begun x (deliver_page r p) = x
begun x (issue_page out s q p) = x
begun x (issue_moves out s ns p) = x

-- the ops that an accepted call adds, in this order: the one that issuing put in the first lent bytes; the one that was delivered; the
-- bodies of a bundle but those that are passed by; the one that was delivered with a holdback, and those that the search finds there,
-- whatever the holdback has; with a page the same as without, whatever the page has; those that a batch put in the lent bytes, one behind
-- the other
unfoldable pub added : List ℕ → Call → List Op
added f make = []
added f (issue out s q) = take width (issue_out width f out s q) ∷ []
added f (deliver r) = r ∷ []
added f (open_bundle b) = turns_taken width f (bodies_in width b)
added f (deliver_holdback r h) = holdback_taken width f r h
added f (deliver_page r p) = r ∷ []
added f (issue_page out s q p) = take width (pages.issue_page width f out s q p).out ∷ []
added f (issue_moves out s ns p) = chunks width (length ns) (batches.issue_moves width f out s ns p).out

unfoldable pub perform : Site → Call → Site
perform x c = record {
  buffer = buffer_after x.buffer c;
  held = if_accepted (answer x.buffer c) ((begun x c).held ++ added x.buffer c) x.held;
}

-- delivering these ops in turn to the buffer f, each being accepted, leaves the buffer g
abbrev pub Adds : List ℕ → List Op → List ℕ → Type 0
Adds f [] g = g ≡ f
Adds f (r ∷ rs) g = (n : ℕ) × (deliver_answer width f r ≡ accepted n) × Adds (deliver_buffer width f r) rs g

-- a buffer that holds f, before the first call
abbrev pub lent : List ℕ → Site
lent f = record { buffer = f; held = [] }

-- a list starts with making
unfoldable pub run : List ℕ → List Call → Site
run f calls = foldl perform (lent f) (make ∷ calls)

-- what a call hands back: its answer, how many ops it took back, and what it leaves in the bytes that it was lent for ops, or in the
-- holdback, and in the page
pub record Reply : Type 0 where
  pub answer : Answer
  pub taken : ℕ
  pub out : List ℕ
  pub page : Page

unfoldable pub out_after : List ℕ → Call → List ℕ
out_after f make = []
out_after f (issue out s q) = issue_out width f out s q
out_after f (deliver r) = []
out_after f (open_bundle b) = []
out_after f (deliver_holdback r h) = holdback_after width f r h
out_after f (deliver_page r p) = []
out_after f (issue_page out s q p) = (pages.issue_page width f out s q p).out
out_after f (issue_moves out s ns p) = (batches.issue_moves width f out s ns p).out

unfoldable pub taken_back : List ℕ → Call → ℕ
taken_back f make = 0
taken_back f (issue out s q) = 0
taken_back f (deliver r) = 0
taken_back f (open_bundle b) = 0
taken_back f (deliver_holdback r h) = 0
taken_back f (deliver_page r p) = (pages.deliver_page width f r p).taken
taken_back f (issue_page out s q p) = (pages.issue_page width f out s q p).taken
taken_back f (issue_moves out s ns p) = 0

-- no page was lent
abbrev no_page : Page
no_page = page [] [] []

unfoldable pub page_after : List ℕ → Call → Page
page_after f make = no_page
page_after f (issue out s q) = no_page
page_after f (deliver r) = no_page
page_after f (open_bundle b) = no_page
page_after f (deliver_holdback r h) = no_page
page_after f (deliver_page r p) = (pages.deliver_page width f r p).page
page_after f (issue_page out s q p) = (pages.issue_page width f out s q p).page
page_after f (issue_moves out s ns p) = no_page

unfoldable pub reply : List ℕ → Call → Reply
reply f c = record { answer = answer f c; taken = taken_back f c; out = out_after f c; page = page_after f c }

unfoldable pub replies : Site → List Call → List Reply
replies x [] = []
replies x (c ∷ calls) = reply x.buffer c ∷ replies (perform x c) calls

-- the file at the front of a buffer
unfoldable pub file_in : Site → List ℕ
file_in x = take (file_end width x.buffer) x.buffer

-- the file with rest after it: where it was, or copied into another buffer
unfoldable pub standing : Site → List ℕ → Site
standing x rest = record { buffer = file_in x ++ rest; held = x.held }

---- ops in a list of ops

unfoldable pub has : List Op → Op → Bool
has ops r = any (same r) ops

unfoldable pub times : List Op → Op → ℕ
times ops r = length (filter (same r) ops)

-- an op of a replica and sequence that stand in both lists is the same in both
abbrev pub Agreed : List Op → List Op → Type 0
Agreed a b =
    (r x : Op) → has a r ≡ true → has b x ≡ true → replica_of r ≡ replica_of x → seq_of r ≡ seq_of x → r ≡ x

-- ops as a log: for each replica, op 1, op 2 and so on, each once, in whatever order they come
unfoldable pub op_numbered : List Op → ℕ → ℕ → List Op
op_numbered ops s q = take 1 (filter (λ r. eqb (replica_of r) s && eqb (seq_of r) q) ops)

unfoldable pub in_order : List Op → ℕ → List Op
in_order ops s = concat (map (op_numbered ops s) (up_from 1 255))

unfoldable pub arrange : List Op → Log
arrange ops = map (in_order ops) replicas

-- a buffer with the file of these ops at its front; what lies past it is that of the buffer f
unfoldable pub filed : List Op → List ℕ → List ℕ
filed ops f = file_of width (arrange ops) ++ drop (length (file_of width (arrange ops))) f

---- two logs

pub data Side : Type 0 where
  left : Side
  right : Side

unfoldable pub other : Side → Side
other left = right
other right = left

unfoldable pub is_side : Side → Side → Bool
is_side left left = true
is_side left right = false
is_side right left = false
is_side right right = true

abbrev pub Pair : Type 0
Pair = Side → Site

-- the ops of one list that are not in another
unfoldable pub only_in : List Op → List Op → List Op
only_in a b = filter (λ r. not (has b r)) a

-- "a record is lacking while only one collection holds it"
unfoldable pub missing : Pair → List Op
missing p = only_in (p left).held (p right).held ++ only_in (p right).held (p left).held

unfoldable pub everything : Pair → List Op
everything p = (p left).held ++ (p right).held

---- offers

pub record Offer : Type 0 where
  pub to : Side
  pub op : Op

abbrev pub Round : Type 0
Round = List Offer

-- an offer is a delivery at one side
unfoldable pub answer_to : Pair → Offer → Answer
answer_to p o = answer (p o.to).buffer (deliver o.op)

unfoldable pub offered : Pair → Offer → Pair
offered p o d = cond (is_side d o.to) (perform (p d) (deliver o.op)) (p d)

unfoldable pub after : Pair → List Offer → Pair
after p os = foldl offered p os

pub record Answered : Type 0 where
  pub offer : Offer
  pub answered : Answer

unfoldable pub answers : Pair → List Offer → List Answered
answers p [] = []
answers p (o ∷ os) = record { offer = o; answered = answer_to p o } ∷ answers (offered p o) os

unfoldable pub acceptances : List Answered → List Answered
acceptances xs = filter (λ x. if_accepted x.answered true false) xs

-- the ops that a side accepted
unfoldable pub accepted_by : Side → List Answered → List Op
accepted_by d xs = map (λ x. x.offer.op) (filter (λ x. is_side d x.offer.to) (acceptances xs))

---- rounds

-- a round offers this op to this side
unfoldable pub offers : Round → Side → Op → Bool
offers os d r = any (λ o. is_side d o.to && same r o.op) os

-- to each side are offered exactly the ops that the other held when the round began; in any order, each once or more
abbrev pub ValidRound : Pair → Round → Type 0
ValidRound p os = (d : Side) (r : Op) → offers os d r ≡ has (p (other d)).held r

-- a fact of each round and of the two as they are when it begins
abbrev pub EachRound : (Pair → Round → Type 0) → Pair → List Round → Type 0
EachRound P p [] = Unit {0}
EachRound P p (os ∷ rest) = P p os × EachRound P (after p os) rest
