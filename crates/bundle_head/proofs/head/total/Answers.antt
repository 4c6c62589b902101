-- `bundle_head::head::total` meets its contract.
use Rattle.std.proofs.Common.{rules, arith, sym, ◌≡◌, ◌∙◌}
use Rattle.std.proofs.iter.runs.Sources.{sums, bytes_small}
use Rattle.std.proofs.lemmas.Iterator.{YieldsList-from_map, YieldsList-from_slice}
use Rattle.std.proofs.lemmas.Iterator.Consumers.{sum_by_from_yields_List}
use Rattle.std.specs.List.{sum_by}
use Rattle.lists.proofs.LibraryLaws.{sum_is}
use Rattle.bundle_head.proofs.head.total.Goals as goal

pub sum-requires-clause-fits : goal.sum-requires-clause-fits
sum-requires-clause-fits c = search (rules, sums)

pub returns : goal.returns
returns c =
    let v = c.args.counts in
    let is : c.sum.result ≡ sum_by (λ n. n) v =
    sum_by_from_yields_List (λ n. n) v _ _ c.sum.ensures.ran
    (YieldsList-from_map _ (λ n. n) (YieldsList-from_slice v (search rules)) c.map.ensures.closure (λ x r q k. search rules)) in
    (is ∙ sym (sum_is v), omega (arith, is, bytes_small v (search rules)))
