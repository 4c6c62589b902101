-- `outline_c::pages::outline_page_deliver` meets its contract.
use Rattle.outline_c.proofs.PageCases.{paging}
use Rattle.outline_c.proofs.pages.outline_page_deliver.Goals as goal

pub number_of-requires : goal.number_of-requires
number_of-requires c = search paging
