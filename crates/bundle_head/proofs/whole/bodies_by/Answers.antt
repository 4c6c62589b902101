-- `bundle_head::whole::bodies_by` meets its contract.
use Rattle.std.proofs.Common.{rules, tests, Bool, ◌*◌, take, length, eqb, ap, sym, ◌∙◌, arith, length-take-le}
use Rattle.std.proofs.lemmas.Iterator.Consumers.{YieldsList-at, YieldsList-from_filter, count_from_yields_List}
use Rattle.lists.specs.Lists.{filter}
use Rattle.lists.proofs.LibraryLaws.{filter_is}
use Rattle.rules.specs.Bundle.{ops_by}
use Rattle.rules.specs.File.{width}
use Rattle.rules.specs.Op.{Op, replica_of}
use Rattle.rules.proofs.BodyLaws.{YieldsList-from_bodies}
use Rattle.rules.proofs.FrontLaws.{chunks_take}
use Rattle.bundle_head.proofs.whole.bodies_by.Goals as goal

pub returns : goal.returns
unfolding ops_by replica_of
returns c =
    let n = c.args.n in
    let bs = c.args.bodies.now in
    let test : Op → Bool = λ r. eqb (replica_of r) c.args.s in
    let given = YieldsList-from_bodies n (take (14 * n) bs) c.chunks_exact.ensures.size c.chunks_exact.ensures.rest
    (length-take-le (14 * n) bs c.requires) in
    count_from_yields_List c.filter.result c.count.result c.count.ensures.ran
    (YieldsList-from_filter _ test (YieldsList-at c.filter.ensures.source given) c.filter.ensures.closure
    (λ x b q k. search (rules, tests)))
    ∙ ap length (sym (filter_is test _)) ∙ ap (λ ops. length (filter test ops)) (chunks_take width n (14 * n) bs (omega arith))
