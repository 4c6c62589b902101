-- `batch::planning::plan_all` meets its contract.
use Rattle.std.proofs.lemmas.Result.{err_from_is_err_and}
use mathlib.Core.Path.{refl}
use borrow.Author.Rules.{rules}
use Rattle.batch.proofs.PlanCases.{plan_on, planning}
use Rattle.batch.proofs.planning.plan_all.Goals as goal

pub with_more-counts-requires : goal.with_more-counts-requires
with_more-counts-requires c = search planning

pub overflow_add-start : goal.overflow_add-start
overflow_add-start c = search planning

pub plan_next-requires : goal.plan_next-requires
plan_next-requires c = search planning

pub returns-in_err-plan_next : goal.returns-in_err-plan_next
returns-in_err-plan_next c =
    let p = err_from_is_err_and c.from_residual.result c.from_residual.ensures.1 in
    rw (p.1, p.2) (search (planning, c.in_err-plan_next.ensures))

pub loop-i-preserved : goal.loop-i-preserved
loop-i-preserved c =
    plan_on _ _ _ _ _ _ _ _ _ _ _ _ _ c.loop-i.invariant c.loop-i-test.true _ _ refl refl _ c.with_more-counts.ensures _ _ _
    c.in_ok-plan_next.ensures refl (search rules)

pub overflow_add-result : goal.overflow_add-result
overflow_add-result c = search planning

pub returns : goal.returns
returns c = search planning
