-- The numbers of calls with a page, as the code meets them.
use Prim.Native.Nat.{ℕ, ◌≤◌, ◌<◌}
use borrow.Author.Rules.{rules}
use mathlib.Core.List.{List}
use mathlib.Core.Path.{◌≡◌, refl, ap, sym, ◌∙◌}
use native.Mathlib.Omega.{arith}
use Rattle.std.specs.Prelude.{Result, Ok, Err}
use Rattle.codec.specs.Answers.{answer_by, delivered, number_of}
use Rattle.codec.specs.declared.answer.Delivered.{Delivered}
use Rattle.codec.specs.declared.answer.Delivered.TheVariants.{HadIt, Waiting, Accepted}
use Rattle.codec.specs.declared.answer.Refusal.{Refusal}
use Rattle.codec.specs.declared.answer.Refusal.TheVariants.{Unsound, Length, Malformed, Conflict, Early, NotClosed, Unknown, NoRoom, Exhausted, Cycle, Marked, BadBundle, HoldbackFull, BadHoldback}
use Rattle.rules.specs.Answer.{accepted, refused}
use Rattle.rules.specs.File.{largest, width}
use Rattle.rules.specs.Issue.{Request}
use Rattle.page_rules.specs.Page.{Page, PageIssued, PageResult, deliver_page, issue_page}
use Rattle.page_rules.proofs.FewLaws.{deliver_end, deliver_few, issue_end, issue_few}
use Rattle.page.specs.Answers.{issued_of, result_of, taken_by}
use Rattle.page.specs.declared.answer.Paged.{Paged}
use Rattle.numbers.specs.Fits.{PageFits}
use Rattle.numbers.specs.Number.{number, page_number}
use Rattle.outline_c.specs.Number.{of_page, of_page_issued}

---- both parts are small

few_refusals : (why : Refusal) → number_of why ≤ 14
few_refusals Unsound = omega arith
few_refusals Length = omega arith
few_refusals Malformed = omega arith
few_refusals Conflict = omega arith
few_refusals Early = omega arith
few_refusals NotClosed = omega arith
few_refusals Unknown = omega arith
few_refusals NoRoom = omega arith
few_refusals Exhausted = omega arith
few_refusals Cycle = omega arith
few_refusals Marked = omega arith
few_refusals BadBundle = omega arith
few_refusals HoldbackFull = omega arith
few_refusals BadHoldback = omega arith

low_delivered : (d : Delivered) → ((n : ℕ) → delivered d ≡ accepted n → n ≤ largest width) → number (delivered d) < 65536
unfolding number
low_delivered HadIt h = omega arith
low_delivered Waiting h = omega arith
low_delivered (Accepted n) h = omega (arith, h n refl)

low_refused : (why : Refusal) → number (refused (number_of why)) < 65536
unfolding number
low_refused why = omega (arith, few_refusals why)

low_accepted : (n : ℕ) → n ≤ largest width → number (accepted n) < 65536
unfolding number
low_accepted n h = omega arith

module _ (f : List ℕ) (lent after : Page) (b : List ℕ) where
  pub delivered_pages : (op : List ℕ) (r : Result (Paged Delivered) Refusal) → result_of r b after ≡ deliver_page width f op lent
      → PageFits (answer_by (λ x. delivered x.answer) r) (taken_by r)
  delivered_pages op r e = record { low = low r e; few = rw (ap (λ (x : PageResult). x.taken) e) (deliver_few f op lent) }
    where
      low : (r : Result (Paged Delivered) Refusal) → result_of r b after ≡ deliver_page width f op lent
          → number (answer_by (λ x. delivered x.answer) r) < 65536
      low (Err why) e = low_refused why
      low (Ok x) e = low_delivered x.answer (λ n z. deliver_end f op lent n (sym (ap (λ (x : PageResult). x.answer) e) ∙ z))

  pub issued_pages : (out o : List ℕ) (s : ℕ) (q : Request) (r : Result (Paged ℕ) Refusal)
      → issued_of r b o after ≡ issue_page width f out s q lent → PageFits (answer_by (λ x. accepted x.answer) r) (taken_by r)
  issued_pages out o s q r e = record { low = low r e; few = rw (ap (λ (x : PageIssued). x.taken) e) (issue_few f out s q lent) }
    where
      low : (r : Result (Paged ℕ) Refusal) → issued_of r b o after ≡ issue_page width f out s q lent
          → number (answer_by (λ x. accepted x.answer) r) < 65536
      low (Err why) e = low_refused why
      low (Ok x) e = low_accepted x.answer (issue_end f out s q lent x.answer (sym (ap (λ (x : PageIssued). x.answer) e)))

---- what is handed over

pub page_over : (r : Result (Paged Delivered) Refusal) (n : ℕ)
    → n ≡ page_number (answer_by (λ x. delivered x.answer) r) (taken_by r) → (b : List ℕ) (p : Page) (x : PageResult) → result_of r b p ≡ x
    → (n, b, p) ≡ of_page x
page_over r n is b p x e = rw is (ap of_page e)

pub page_issued_over : (r : Result (Paged ℕ) Refusal) (n : ℕ)
    → n ≡ page_number (answer_by (λ x. accepted x.answer) r) (taken_by r) → (b o : List ℕ) (p : Page) (x : PageIssued)
    → issued_of r b o p ≡ x → (n, b, o, p) ≡ of_page_issued x
page_issued_over r n is b o p x e = rw is (ap of_page_issued e)

---- what the code of pages needs: search paging

pub ruleset paging = (rules, delivered_pages, issued_pages, page_over, page_issued_over)
