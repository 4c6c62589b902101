-- `structure::sound::op_sound` meets its contract.
use Rattle.structure.proofs.TestLaws.{testing}
use Rattle.structure.proofs.sound.op_sound.Goals as goal

pub replica_at-requires : goal.replica_at-requires
replica_at-requires c = search testing

pub returns-then-from-replica : goal.returns-then-from-replica
returns-then-from-replica c = search testing

pub vector_at-v-requires : goal.vector_at-v-requires
vector_at-v-requires c = search testing

pub returns-then-not-vector_sound : goal.returns-then-not-vector_sound
returns-then-not-vector_sound c = search testing

pub kind_at-kind-requires : goal.kind_at-kind-requires
kind_at-kind-requires c = search testing

pub node_at-node-requires : goal.node_at-node-requires
node_at-node-requires c = search testing

pub parent_at-parent-requires : goal.parent_at-parent-requires
parent_at-parent-requires c = search testing

pub overflow_cast-replica : goal.overflow_cast-replica
overflow_cast-replica c = search testing

pub passes-requires : goal.passes-requires
passes-requires c = search testing

pub returns : goal.returns
returns c = search testing
