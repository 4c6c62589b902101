-- `delivery::delivering::is_held` meets its contract.
use native.Mathlib.Omega.{arith}
use Rattle.rules.specs.Op.{count_in}
use Rattle.rules.proofs.ReplicaLaws.{replica_low, replica_high}
use Rattle.delivery.proofs.delivering.is_held.Goals as goal

pub returns : goal.returns
unfolding count_in
returns c = rw c.from.ensures

pub overflow_sub-result : goal.overflow_sub-result
overflow_sub-result c = omega (arith, replica_low)

pub bounds-counts-from : goal.bounds-counts-from
bounds-counts-from c = omega (arith, replica_high)
