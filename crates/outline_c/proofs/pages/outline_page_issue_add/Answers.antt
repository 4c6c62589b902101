-- `outline_c::pages::outline_page_issue_add` meets its contract.
use Rattle.outline_c.proofs.PageCases.{paging}
use Rattle.outline_c.proofs.pages.outline_page_issue_add.Goals as goal

pub number_of-requires : goal.number_of-requires
number_of-requires c = search paging
