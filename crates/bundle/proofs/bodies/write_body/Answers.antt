-- `bundle::bodies::write_body` meets its contract.
use Rattle.bundle.proofs.BodyCases.{bodying}
use Rattle.bundle.proofs.bodies.write_body.Goals as goal

pub returns-then-slot_sequence-from : goal.returns-then-slot_sequence-from
returns-then-slot_sequence-from c = search bodying

pub copy_body-requires : goal.copy_body-requires
copy_body-requires c = search bodying

pub returns : goal.returns
returns c = search bodying
