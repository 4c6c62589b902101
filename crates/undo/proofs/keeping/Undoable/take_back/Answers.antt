-- `undo::along::take_back` meets its contract.
use Rattle.std.proofs.Common.{rules, ◌∙◌, sym, ◌+◌, ◌^◌, ◌<◌, ◌≤◌, length}
use Rattle.undo.proofs.WalkLaws.{behind_counted, behind_ends, behind_fits, behind_passed, behind_starts}
use Rattle.undo.proofs.keeping.Undoable.take_back.Goals as goal

pub loop-entry-init : goal.loop-entry-init
loop-entry-init c =
    record { can_next = tt; is_finite = tt; behind = behind_starts _ _ _ _ c.requires _ _ (cc) }

pub overflow_add-taken : goal.overflow_add-taken
overflow_add-taken c =
    let fits : c.loop-entry.taken + 1 ≤ length c.args.entries.now =
    behind_fits _ _ _ _ _ _ _ _ c.loop-entry.invariant.behind _ _ c.in-Some.ensures.steps in
    let short : length c.args.entries.now < 2 ^ 64 = rw c.iter.ensures.rest at c.iter.ensures.bound in
    search rules

pub loop-entry-preserved-then-counts : goal.loop-entry-preserved-then-counts
loop-entry-preserved-then-counts c = record {
  can_next = tt;
  is_finite = tt;
  behind = behind_counted _ _ _ _ _ _ _ _ c.loop-entry.invariant.behind _ _ c.in-Some.ensures.steps
      (sym c.counts.ensures ∙ c.if-counts.true) _ c.undo.ensures;
}

pub loop-entry-preserved : goal.loop-entry-preserved
loop-entry-preserved c = record {
  can_next = tt;
  is_finite = tt;
  behind = behind_passed _ _ _ _ _ _ _ _ c.loop-entry.invariant.behind _ _ c.in-Some.ensures.steps
      (sym c.counts.ensures ∙ c.if-counts.false);
}

pub returns : goal.returns
returns c = behind_ends _ _ _ _ _ _ _ _ c.loop-entry.invariant.behind c.in-None.ensures.steps.0
