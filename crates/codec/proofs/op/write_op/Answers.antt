-- `codec::op::write_op` meets its contract.
use mathlib.Core.Path.{◌∙◌, ap}
use mathlib.Core.List.{List, ◌++◌}
use Prim.Native.Nat.{ℕ}
use native.Mathlib.Omega.{arith}
use lib.ListN.{take}
use lib.Seq.{drop-drop}
use Rattle.codec.proofs.WriteLaws.{op_written}
use Rattle.codec.proofs.op.write_op.Goals as goal

pub returns : goal.returns
returns c =
    let a = c.args in
    op_written a.out.now c.put_word-2.new.bytes _ a.vector a.kind a.replica a.node a.parent (omega arith)
    (c.put_word-2.ensures ∙ rw c.put_word.ensures)
    (rw c.copy_from_slice.ensures.after (ap (λ (t : List ℕ). take 6 c.put_word-2.new.bytes ++ (a.vector ++ t)) (drop-drop 8 6 c.put_word-2.new.bytes)))
