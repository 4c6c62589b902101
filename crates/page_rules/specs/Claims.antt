-- What a call with a page promises, in the document's words.
use Rattle.std.specs.Prelude.{ℕ, Bool, true, false, List, ◌∷◌, ◌++◌, ◌≡◌, length, take, drop}
use Rattle.lists.specs.Lists.{sum}
use Rattle.rules.specs.Answer.{accepted, done, if_accepted, refused}
use Rattle.rules.specs.Op.{Op}
use Rattle.rules.specs.File.{Log, append, counts_of, log_of, width}
use Rattle.rules.specs.Tree.{most_ops}
use Rattle.rules.specs.Replay.{order_of, outcome_slot}
use Rattle.rules.specs.Sound.{sound}
use Rattle.rules.specs.Judge.{judge}
use Rattle.rules.specs.Deliver.{deliver}
use Rattle.rules.specs.Issue.{Request, issue, issued}
use Rattle.page_rules.specs.Page.{Page, deliver_page, issue_page, long_enough, padded, page_of, shows}

-- the lent tables equal the judgement of the log in a buffer
unfoldable pub is_true : (buffer : List ℕ) → Page → Bool
is_true f lent = shows lent (page_of (log_of width f))

-- a held op keeps its place before or after the new one, and so many sort after it
pub record SortsIn (log : Log) (r : Op) (behind : ℕ) : Type 0 where
  pub place : ℕ
  pub order : order_of (append log r) (counts_of (append log r))
      ≡ take place (order_of log (counts_of log)) ++ (outcome_slot r ∷ drop place (order_of log (counts_of log)))
  pub after : behind ≡ length (drop place (order_of log (counts_of log)))

-- "the page equals a fresh judgement": the order of the log, and what judging puts into the lent tables; entries behind are as before
pub record FreshPage (f : List ℕ) (lent page : Page) : Type 0 where
  pub order : page.order ≡ padded (order_of (log_of width f) (counts_of (log_of width f))) ++ drop most_ops lent.order
  pub judged : judge width f lent.parents lent.outcomes
      ≡ record { answer = done; parents = page.parents; outcomes = page.outcomes }

-- what a call that accepts, and so adds r to the log in f, leaves and reports
pub record PageKept (f : List ℕ) (r : Op) (lent : Page) (after : List ℕ) (page : Page) (taken : ℕ) : Type 0 where
  pub fresh : FreshPage after lent page
  pub is_true_so : is_true after page ≡ true
  -- "the number of held records sorting after the new one"
  pub behind : is_true f lent ≡ true → SortsIn (log_of width f) r taken
  -- "a page that didn't equal the judgement of the collection before is rebuilt first, and then the report is all records held before"
  pub rebuilt : is_true f lent ≡ false → taken ≡ sum (counts_of (log_of width f))

-- "after every such call that accepts"
pub record PagesKept : Type 0 where
  pub delivering : (f r : List ℕ) (lent : Page) (n : ℕ) → (deliver_page width f r lent).answer ≡ accepted n
      → let c = deliver_page width f r lent in PageKept f r lent c.buffer c.page c.taken
  pub issuing : (f out : List ℕ) (s : ℕ) (q : Request) (lent : Page) (n : ℕ) → (issue_page width f out s q lent).answer ≡ accepted n
      → let c = issue_page width f out s q lent in PageKept f (issued (log_of width f) s q) lent c.buffer c.page c.taken

-- "a refusal or had it leaves the page unchanged", and takes no op back
pub record PagesLeft : Type 0 where
  pub delivering : (f r : List ℕ) (lent : Page) → let c = deliver_page width f r lent in
      if_accepted c.answer true false ≡ false → (c.page ≡ lent) × (c.taken ≡ 0)
  pub issuing : (f out : List ℕ) (s : ℕ) (q : Request) (lent : Page) → let c = issue_page width f out s q lent in
      if_accepted c.answer true false ≡ false → (c.page ≡ lent) × (c.taken ≡ 0)

-- "a page goes with a plain delivery or the issue of one record": where it is long enough, all else is as without it
pub record GoesWith : Type 0 where
  pub delivering : (f r : List ℕ) (lent : Page) → long_enough lent ≡ true → let c = deliver_page width f r lent in
      record { answer = c.answer; buffer = c.buffer } ≡ deliver width f r
  pub issuing : (f out : List ℕ) (s : ℕ) (q : Request) (lent : Page) → long_enough lent ≡ true
      → let c = issue_page width f out s q lent in
      record { answer = c.answer; buffer = c.buffer; out = c.out } ≡ issue width f out s q

-- "one too short for 2,040 records is answered 2"
pub record TooShort : Type 0 where
  pub delivering : (f r : List ℕ) (lent : Page) → sound width f ≡ true → long_enough lent ≡ false
      → (deliver_page width f r lent).answer ≡ refused 2
  pub issuing : (f out : List ℕ) (s : ℕ) (q : Request) (lent : Page) → sound width f ≡ true → long_enough lent ≡ false
      → (issue_page width f out s q lent).answer ≡ refused 2

-- an issued op sorts last: at a page that is true no op is taken back
abbrev pub IssuedLast : Type 0
IssuedLast =
    (f out : List ℕ) (s : ℕ) (q : Request) (lent : Page) → is_true f lent ≡ true → (issue_page width f out s q lent).taken ≡ 0
