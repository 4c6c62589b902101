-- What each call hands over to a caller in another language, a bool for each view, and the version.
use Rattle.std.specs.Prelude.{ℕ, Bool, true, false, List}
use Rattle.rules.specs.Deliver.{Result}
use Rattle.rules.specs.Holdback.{HoldbackResult}
use Rattle.rules.specs.Issue.{Issued}
use Rattle.rules.specs.Judge.{Judgement}
use Rattle.rules.specs.Path.{Written}
use Rattle.rules.specs.Views.{View, keeping, skipping}
use Rattle.page_rules.specs.Page.{Page, PageIssued, PageResult}
use Rattle.numbers.specs.Number.{number, page_number}

-- what each call hands over: the number of its answer, and what it leaves in lent memory
abbrev pub of_result : Result → ℕ × List ℕ
of_result x = (number x.answer, x.buffer)

abbrev pub of_holdback : HoldbackResult → ℕ × List ℕ × List ℕ
of_holdback x = (number x.answer, x.buffer, x.holdback)

abbrev pub of_issued : Issued → ℕ × List ℕ × List ℕ
of_issued x = (number x.answer, x.buffer, x.out)

abbrev pub of_judgement : Judgement → ℕ × List ℕ × List ℕ
of_judgement x = (number x.answer, x.parents, x.outcomes)

abbrev pub of_written : Written → ℕ × List ℕ
of_written x = (number x.answer, x.out)

abbrev pub of_page : PageResult → ℕ × List ℕ × Page
of_page x = (page_number x.answer x.taken, x.buffer, x.page)

abbrev pub of_page_issued : PageIssued → ℕ × List ℕ × List ℕ × Page
of_page_issued x = (page_number x.answer x.taken, x.buffer, x.out, x.page)

-- 0.6.0, as 10000 * major + 100 * minor + patch
abbrev pub version : ℕ
version = 600

-- the view that a caller asks for
unfoldable pub view_for : Bool → View
view_for true = skipping
view_for false = keeping
