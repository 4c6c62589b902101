-- `pen::line::Pen::write_line` meets its contract.
use mathlib.Core.Path.{◌≡◌, ◌∙◌}
use Prim.Native.Nat.{◌+◌, ◌≤◌}
use native.Mathlib.Omega.{arith}
use lib.ListN.{length, length-set}
use Rattle.rules.specs.Listing.{decimal}
use Rattle.rules.proofs.DecimalLaws.{length_line}
use Rattle.pen.proofs.LineLaws.{line_penned, line_written}
use Rattle.pen.proofs.line.Pen.write_line.Goals as goal
use Rattle.pen.proofs.line.Pen.write_line.Goals.{After-put_decimal-end, After-put_decimal-space, Start}

-- what is written, piece by piece, fits
fits : (c : Start) → let a = c.args in
    a.self.bytes + (length (decimal a.depth) + length (decimal a.node) + 4) ≤ length a.out.now
fits c = omega (arith, length_line c.args.depth c.args.node c.args.marked, c.requires.room)

-- the depth, and a space
first : (c : After-put_decimal-space) → let a = c.args in
    (c.put_decimal-space.result + length (decimal a.node) + 4 ≤ length a.out.now) × (length c.put_decimal-space.new.out ≡ length
    a.out.now)
first c = (omega (arith, fits c.before.before.before, c.put_decimal-space.ensures.0), c.put_decimal-space.auto.out)

-- the node number
second : (c : After-put_decimal-end) → let spaced = c.before.before.before in
    let depth = spaced.before in
    let a = depth.before.before.before.args in
    (c.put_decimal-end.result + 3 ≤ length a.out.now) × (length c.put_decimal-end.new.out ≡ length a.out.now)
second c =
    let depth = c.before.before.before in
    let f = first depth.before in (
      omega (arith, f.0, c.put_decimal-end.ensures.0),
      c.put_decimal-end.auto.out ∙ length-set depth.before.put_decimal-space.new.out _ _
          ∙ f.1,
    )

pub put_decimal-end-requires : goal.put_decimal-end-requires
put_decimal-end-requires c =
    let d = c.before.before.before in
    omega (arith, first d, length-set d.put_decimal-space.new.out d.put_decimal-space.result 32)

pub returns : goal.returns
returns c =
    let node = c.before.before.before in
    let f = node.before.before.before in
    let depth = f.before.before in
    let s = depth.before.before.before in
    let a = s.args in
    let n = node.before.put_decimal-end in
    let d = depth.put_decimal-space in
    let x = line_written _ _ _ _ _ _ _ _ _ a.marked s.requires.room d.ensures.0 d.ensures.1 n.ensures.0 n.ensures.1
    c.mark_byte.ensures in
    let size = length_line a.depth a.node a.marked in
    line_penned _ _ a.self _ _ _ _ x (omega (arith, size, d.ensures.0, n.ensures.0))

pub put_decimal-space-requires : goal.put_decimal-space-requires
put_decimal-space-requires c = omega (arith, fits c.before.before)

pub bounds-out-space : goal.bounds-out-space
bounds-out-space c = omega (arith, first c.before.before)

pub overflow_add-space : goal.overflow_add-space
overflow_add-space c = omega (arith, first c.before.before.before)

pub bounds-out-end : goal.bounds-out-end
bounds-out-end c = omega (arith, second c.before.before)

pub mark_byte-requires : goal.mark_byte-requires
mark_byte-requires c = tt

pub overflow_add-out : goal.overflow_add-out
overflow_add-out c = omega (arith, second c.before.before.before)

pub bounds-out-end-2 : goal.bounds-out-end-2
bounds-out-end-2 c = rw length-set (omega (arith, second c.before.before.before))

pub overflow_add-out-2 : goal.overflow_add-out-2
overflow_add-out-2 c = omega (arith, second c.before.before.before)

pub bounds-out-end-3 : goal.bounds-out-end-3
bounds-out-end-3 c = rw (length-set, length-set) (omega (arith, second c.before.before.before))

pub overflow_add-bytes : goal.overflow_add-bytes
overflow_add-bytes c = omega (arith, second c.before.before.before)

pub overflow_add-lines : goal.overflow_add-lines
overflow_add-lines c = omega arith

pub shape_of-out : goal.shape_of-out
shape_of-out c = let node = c.before.before.before in rw (length-set, length-set, length-set) (second node.before).1
