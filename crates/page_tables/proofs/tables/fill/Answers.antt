-- `page_tables::tables::fill` meets its contract.
use Rattle.page_rules.specs.Page.{page_filled}
use Rattle.page_tables.proofs.tables.fill.Goals as goal

pub returns : goal.returns
unfolding page_filled
returns c =
    let judged = c.requires.judged in
    rw (
      c.copy_from_slice.ensures.after,
      c.copy_from_slice-2.ensures.after,
      c.copy_from_slice-3.ensures.after,
      judged.order,
      judged.parents,
      judged.outcomes,
    )
