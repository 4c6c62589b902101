-- `delivery::delivering::names` meets its contract.
use mathlib.Core.Path.{◌≡◌, ◌∙◌}
use Prim.Native.Nat.{◌+◌, ◌*◌}
use native.Mathlib.Omega.{arith}
use Rattle.rules.specs.Op.{node_number}
use Rattle.delivery.specs.Delivering.{names_in}
use Rattle.delivery.proofs.delivering.names.Goals as goal

pub returns : goal.returns
unfolding names_in node_number
returns c =
    let x = c.args.fields in
    let own : c.from_be_bytes-own.result ≡ 256 * x.replica + x.sequence = omega arith in
    c.names_known.ensures ∙ rw own
