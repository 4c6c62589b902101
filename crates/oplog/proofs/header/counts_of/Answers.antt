-- `oplog::header::counts_of` meets its contract.
use Rattle.std.proofs.Common.{rules, ◌*◌, ◌+◌, get_or, ◌∙◌}
use Rattle.lists.proofs.LibraryLaws.{from_fn_gives}
use Rattle.oplog.proofs.HeaderLaws.{counts_bytes}
use Rattle.oplog.proofs.header.counts_of.Goals as goal

pub returns : goal.returns
returns c =
    from_fn_gives (λ i. get_or c.args.file.now (4 * i + 1) 0) _ c.from_fn.ensures.items (λ i x q k. search rules)
    ∙ counts_bytes _ _ c.requires.1
