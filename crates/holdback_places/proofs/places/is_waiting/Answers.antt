-- `holdback_places::places::is_waiting` meets its contract.
use Rattle.std.proofs.Common.{rules, tests, ◌≡◌, ◌+◌, ◌-◌, ◌*◌, ◌≤◌, length, arith, drop, take, length-drop, length-take-le, ap, ◌∙◌}
use Rattle.lists.specs.Lists.{any, same}
use Rattle.lists.proofs.LibraryLaws.{any_gives, same_is}
use Rattle.lists.proofs.ListLaws.{same_sym}
use Rattle.rules.specs.File.{width}
use Rattle.rules.specs.Holdback.{holdback_ops, waits}
use Rattle.rules.proofs.BodyLaws.{YieldsList-from_bodies}
use Rattle.rules.proofs.FrontLaws.{chunks_take}
use Rattle.rules.proofs.HoldbackLaws.{sound_reads}
use Rattle.holdback_places.proofs.places.is_waiting.Goals as goal

pub slice_bounds-ops-end : goal.slice_bounds-ops-end
slice_bounds-ops-end c =
    let s = sound_reads width _ c.requires.is_holdback in
    let small = s.few in
    let size = s.size in
    let is = c.count.ensures in
    omega arith

pub returns : goal.returns
unfolding waits holdback_ops
returns c =
    let s = sound_reads width _ c.requires.is_holdback in
    let n = c.count.result in
    let h = c.args.holdback.now in
    let fits : 14 * n ≤ length (drop 1 h) = omega (arith, s.few, s.size, c.count.ensures, length-drop 1 h) in
    let end : 1 + 14 * n - 1 ≡ 14 * n = omega arith in
    let part = take (14 * n) (drop 1 h) in
    let gives = any_gives (same c.args.op.now) _ _ c.any.result c.any.ensures.ran
    (YieldsList-from_bodies n part c.chunks_exact.ensures.size (c.chunks_exact.ensures.rest ∙ rw end) (length-take-le (14 * n) (drop 1 h) fits))
    (λ x b q k. search (rules, tests, same_is, same_sym)) in
    gives ∙ ap (any (same c.args.op.now)) (chunks_take width n (14 * n) (drop 1 h) (omega arith) ∙ rw c.count.ensures)
