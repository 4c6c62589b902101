-- The page (the document's live page): the judging order, the parents and the outcomes of a log, kept in three lent tables beside it. A
-- delivery or the issue of one op that is lent a page: what is answered, what it leaves, and how many ops it takes back.
use Rattle.std.specs.Prelude.{ℕ, suc, ◌-◌, Bool, cond, ◌&&◌, List, ◌++◌, length, take, drop, replicate, leb}
use Rattle.lists.specs.Lists.{sum, same, index_of}
use Rattle.rules.specs.Answer.{Answer, require, if_accepted}
use Rattle.rules.specs.Op.{Op, Vector}
use Rattle.rules.specs.File.{Log, counts_of, append, log_of, appended}
use Rattle.rules.specs.Sound.{sound}
use Rattle.rules.specs.Deliver.{deliver_answer}
use Rattle.rules.specs.Issue.{Request, issued, issue_answer}
use Rattle.rules.specs.Tree.{slots, most_ops}
use Rattle.rules.specs.Replay.{order_of, outcome_slot, replay}

pub record Page : Type 0 where
  pub order : List ℕ
  pub parents : List ℕ
  pub outcomes : List ℕ

abbrev pub page : (order parents outcomes : List ℕ) → Page
page s p o = record { order = s; parents = p; outcomes = o }

-- "the order has 2,040 two-byte entries, the slots of the held records in judging order and then 0"
unfoldable pub padded : List ℕ → List ℕ
padded xs = xs ++ replicate (most_ops - length xs) 0

-- the page of a cut: "the others are as judging fills them"
unfoldable pub page_at : Log → Vector → Page
page_at log cut = page (padded (order_of log cut)) (replay log cut).parents (replay log cut).outcomes

-- "a fresh judgement" of the log
unfoldable pub page_of : Log → Page
page_of log = page_at log (counts_of log)

---- lent tables

-- "one too short for 2,040 records is answered 2"
unfoldable pub long_enough : Page → Bool
long_enough lent = leb most_ops (length lent.order) && leb slots (length lent.parents) && leb slots (length lent.outcomes)

-- the first entries of lent tables equal a page
unfoldable pub shows : (lent page : Page) → Bool
shows lent x =
    same (take most_ops lent.order) x.order
    && same (take slots lent.parents) x.parents
    && same (take slots lent.outcomes) x.outcomes

-- lent tables with a page in their first entries; what is lent beyond stays
unfoldable pub page_filled : (lent page : Page) → Page
page_filled lent x =
    page (x.order ++ drop most_ops lent.order) (x.parents ++ drop slots lent.parents) (x.outcomes ++ drop slots lent.outcomes)

---- the report

-- "the number of held records sorting after the new one": what stands behind it in the order of the log that has it
unfoldable pub sort_after : Log → Op → ℕ
sort_after log r =
    let more = append log r in
    let xs = order_of more (counts_of more) in
    length (drop (suc (index_of (outcome_slot r) xs)) xs)

-- "how many it took back"; where the page "didn't equal the judgement of the collection before", "all records held before"
unfoldable pub took_back : Log → (lent : Page) → Op → ℕ
took_back log lent r = cond (shows lent (page_of log)) (sort_after log r) (sum (counts_of log))

---- the calls

-- a call's answer, how many ops it took back, and what is lent after it; the bytes lent for an issued op are part of it
pub record PageResult : Type 0 where
  pub answer : Answer
  pub taken : ℕ
  pub buffer : List ℕ
  pub page : Page

pub record PageIssued : Type 0 where
  pub answer : Answer
  pub taken : ℕ
  pub buffer : List ℕ
  pub out : List ℕ
  pub page : Page

-- a page that is too short is one more case of 2: tests 1, 2, then those of the plain call
unfoldable pub with_page : ℕ → (buffer : List ℕ) → (lent : Page) → Answer → Answer
with_page w f lent a = require (sound w f) 1 (require (long_enough lent) 2 a)

-- how many ops a call that adds r takes back, and the page after it. "A refusal or had it leaves the page unchanged", and takes none back
unfoldable pub taken_with : ℕ → (buffer : List ℕ) → (lent : Page) → Op → Answer → ℕ
taken_with w f lent r a = if_accepted a (took_back (log_of w f) lent r) 0

unfoldable pub page_with : ℕ → (buffer : List ℕ) → (lent : Page) → Op → Answer → Page
page_with w f lent r a = if_accepted a (page_filled lent (page_of (append (log_of w f) r))) lent

unfoldable pub deliver_page_answer : ℕ → (buffer op : List ℕ) → (lent : Page) → Answer
deliver_page_answer w f r lent = with_page w f lent (deliver_answer w f r)

abbrev pub deliver_page : ℕ → (buffer op : List ℕ) → (lent : Page) → PageResult
deliver_page w f r lent =
    let a = deliver_page_answer w f r lent in
    record {
      answer = a;
      taken = taken_with w f lent r a;
      buffer = if_accepted a (appended w f r) f;
      page = page_with w f lent r a;
    }

unfoldable pub issue_page_answer : ℕ → (buffer : List ℕ) (room replica : ℕ) → Request → (lent : Page) → Answer
issue_page_answer w f room s q lent = with_page w f lent (issue_answer w f room s q)

abbrev pub issue_page : ℕ → (buffer out : List ℕ) (replica : ℕ) → Request → (lent : Page) → PageIssued
issue_page w f out s q lent =
    let a = issue_page_answer w f (length out) s q lent in
    let r = issued (log_of w f) s q in
    record {
      answer = a;
      taken = taken_with w f lent r a;
      buffer = if_accepted a (appended w f r) f;
      out = if_accepted a (r ++ drop w out) out;
      page = page_with w f lent r a;
    }
