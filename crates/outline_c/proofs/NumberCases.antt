-- The cases of numbers handed over, as the code meets them.
use Prim.Native.Nat.{ℕ, ◌≤◌}
use borrow.Author.Rules.{rules}
use lib.ListN.{length}
use mathlib.Core.List.{List}
use mathlib.Core.Path.{◌≡◌, ap}
use Rattle.rules.specs.Answer.{Answer}
use Rattle.rules.specs.Bundle.{bundle_call, open_bundle}
use Rattle.rules.specs.Deliver.{Result, make, deliver}
use Rattle.rules.specs.Holdback.{HoldbackResult, deliver_holdback}
use Rattle.rules.specs.Op.{Vector}
use Rattle.rules.specs.Issue.{Issued, Request, issue}
use Rattle.rules.specs.Judge.{Judgement, judge}
use Rattle.rules.specs.Listing.{listing, listing_size}
use Rattle.rules.specs.File.{width}
use Rattle.rules.specs.Measure.{counts_call, end_answer}
use Rattle.rules.specs.Path.{Written, path_call}
use Rattle.rules.specs.Views.{View}
use Rattle.batch_rules.specs.Batch.{issue_moves}
use Rattle.numbers.specs.Number.{number}
use Rattle.outline_c.specs.Number.{of_result, of_holdback, of_issued, of_judgement, of_written}
use Rattle.numbers.specs.Fits.{fits}
use Rattle.outline_c.proofs.FitLaws.{make_fits, deliver_fits, issue_fits, judge_fits, path_fits, listing_fits}
use Rattle.outline_c.proofs.FitLaws.{holdback_fits, size_fits, end_fits, counts_fits, bundle_fits, open_fits, batch_fits}

---- what a call hands over; a is its answer and n the number of it

module _ (a : Answer) (n : ℕ) (is : n ≡ number a) where
  pub result_over : (b : List ℕ) (x : Result) → record { answer = a; buffer = b } ≡ x → (n, b) ≡ of_result x
  result_over b x e = rw is (ap of_result e)

  pub holdback_over : (b h : List ℕ) (x : HoldbackResult) → record { answer = a; buffer = b; holdback = h } ≡ x → (n, b, h) ≡ of_holdback x
  holdback_over b h x e = rw is (ap of_holdback e)

  pub issued_over : (b o : List ℕ) (x : Issued) → record { answer = a; buffer = b; out = o } ≡ x → (n, b, o) ≡ of_issued x
  issued_over b o x e = rw is (ap of_issued e)

  pub judgement_over : (p o : List ℕ) (x : Judgement) → record { answer = a; parents = p; outcomes = o } ≡ x → (n, p, o) ≡ of_judgement x
  judgement_over p o x e = rw is (ap of_judgement e)

  pub written_over : (o : List ℕ) (x : Written) → record { answer = a; out = o } ≡ x → (n, o) ≡ of_written x
  written_over o x e = rw is (ap of_written e)

  pub listing_over :
      (f out o : List ℕ) (v w : View) → v ≡ w → record { answer = a; out = o } ≡ listing width f v out →
      (n, o) ≡ of_written (listing width f w out)
  listing_over f out o v w h e = rw (← h) (written_over o (listing width f v out) e)

  pub answer_over : (x : Answer) → a ≡ x → n ≡ number x
  answer_over x e = rw is (ap number e)

  pub size_over : (f : List ℕ) (v w : View) → v ≡ w → a ≡ listing_size width f v → n ≡ number (listing_size width f w)
  size_over f v w h e = rw (← h) (answer_over (listing_size width f v) e)

---- and its answer fits

module _ (a : Answer) where
  pub made_fits : (f b : List ℕ) → record { answer = a; buffer = b } ≡ make width f → fits a
  made_fits f b e = rw (ap (λ (x : Result). x.answer) e) (make_fits f)

  pub delivered_fits :
      (f op b : List ℕ) → record { answer = a; buffer = b } ≡ deliver width f op → length f ≤ 9223372036854775807 → fits a
  delivered_fits f op b e h = rw (ap (λ (x : Result). x.answer) e) (deliver_fits f op h)

  pub issued_fits :
      (f out b o : List ℕ) (s : ℕ) (q : Request) → record { answer = a; buffer = b; out = o } ≡ issue width f out s q →
      length f ≤ 9223372036854775807 → fits a
  issued_fits f out b o s q e h = rw (ap (λ (x : Issued). x.answer) e) (issue_fits f (length out) s q h)

  pub judged_fits : (f p o x y : List ℕ) → record { answer = a; parents = x; outcomes = y } ≡ judge width f p o → fits a
  judged_fits f p o x y e = rw (ap (λ (x : Judgement). x.answer) e) (judge_fits f p o)

  pub path_written :
      (f : List ℕ) (n : ℕ) (out o : List ℕ) → record { answer = a; out = o } ≡ path_call width f n out →
      length out ≤ 9223372036854775807 → fits a
  path_written f n out o e h = rw (ap (λ (x : Written). x.answer) e) (path_fits f n out h)

  pub listing_written :
      (f : List ℕ) (v : View) (out o : List ℕ) → record { answer = a; out = o } ≡ listing width f v out →
      length out ≤ 9223372036854775807 → fits a
  listing_written f v out o e h = rw (ap (λ (x : Written). x.answer) e) (listing_fits f v out h)

  pub sized_fits : (f : List ℕ) (v : View) → a ≡ listing_size width f v → fits a
  sized_fits f v e = rw e (size_fits f v)

  pub ended_fits : (f : List ℕ) → a ≡ end_answer width f → length f ≤ 9223372036854775807 → fits a
  ended_fits f e h = rw e (end_fits f h)

  pub counted_fits : (f out o : List ℕ) → record { answer = a; out = o } ≡ counts_call width f out → fits a
  counted_fits f out o e = rw (ap (λ (x : Written). x.answer) e) (counts_fits f out)

  pub bundled_fits :
      (f : List ℕ) (v : Vector) (out o : List ℕ) → record { answer = a; out = o } ≡ bundle_call width f v out →
      length out ≤ 9223372036854775807 → fits a
  bundled_fits f v out o e h = rw (ap (λ (x : Written). x.answer) e) (bundle_fits f v out h)

  pub opened_fits :
      (f bundle b : List ℕ) → record { answer = a; buffer = b } ≡ open_bundle width f bundle → length f ≤ 9223372036854775807 → fits a
  opened_fits f bundle b e h = rw (ap (λ (x : Result). x.answer) e) (open_fits f bundle h)

  pub held_fits :
      (f op h b k : List ℕ) → record { answer = a; buffer = b; holdback = k } ≡ deliver_holdback width f op h → fits a
  held_fits f op h b k e = rw (ap (λ (x : HoldbackResult). x.answer) e) (holdback_fits f op h)

  pub batched_fits :
      (f out b o : List ℕ) (s : ℕ) (ns : List ℕ) (p : ℕ) → record { answer = a; buffer = b; out = o } ≡ issue_moves width f out s ns p →
      length f ≤ 9223372036854775807 → fits a
  batched_fits f out b o s ns p e h = rw (ap (λ (x : Issued). x.answer) e) (batch_fits f out s ns p h)

---- what the code of numbers needs: search numbering
pub ruleset handing = (result_over, holdback_over, issued_over, judgement_over, written_over, listing_over, answer_over, size_over)

pub ruleset delivering = (made_fits, delivered_fits, held_fits, issued_fits)

pub ruleset fitting = (delivering, judged_fits, path_written, listing_written, sized_fits, counted_fits)

pub ruleset numbering = (rules, handing, fitting)
