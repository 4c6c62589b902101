-- `vector::counts::read_vector` meets its contract.
use Rattle.std.proofs.Common.{rules, ◌+◌, get_or, ◌∙◌}
use Rattle.lists.proofs.LibraryLaws.{from_fn_gives}
use Rattle.vector.proofs.VectorLaws.{bytes_read}
use Rattle.vector.proofs.counts.read_vector.Goals as goal

pub returns : goal.returns
returns c =
    let a = c.args in
    from_fn_gives (λ i. get_or a.bytes.now (a.at + i) 0) _ c.from_fn.ensures.items (λ i x q k. search rules)
    ∙ bytes_read a.bytes.now a.at c.requires
