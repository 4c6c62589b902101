-- `tree::climb::climb_to` meets its contract.
use Rattle.tree.proofs.ClimbLaws.{climb_out, climbing}
use Rattle.tree.proofs.climb.climb_to.Goals as goal

pub returns-then-at-node : goal.returns-then-at-node
returns-then-at-node c = search climbing

pub returns-then-at-eq0 : goal.returns-then-at-eq0
returns-then-at-eq0 c = search climbing

pub returns-in-None : goal.returns-in-None
returns-in-None c =
    let l = c.loop-steps in
    let size = c.requires.0 in
    let out = c.in-None.ensures.lookup.3 in
    climb_out _ _ _ l.steps l.at l.invariant c.loop-steps-test.true c.if-at-node.false c.if-at-eq0.false size _ c.slot_of.ensures c.requires.1
    (rw size at out)

pub loop-steps-smaller : goal.loop-steps-smaller
loop-steps-smaller c = search climbing

pub returns : goal.returns
returns c = search climbing
