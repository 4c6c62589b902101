-- `pen::decimal::digit_count` meets its contract.
use Rattle.std.proofs.Common.{arith}
use Rattle.pen.proofs.DecimalLaws.{count_is}
use Rattle.pen.proofs.decimal.digit_count.Goals as goal

pub returns : goal.returns
returns c =
    let o = c.checked_ilog10.ensures in
    count_is c.args.n (omega arith) c.checked_ilog10.result o.none o.power_le o.next_power_gt c.unwrap_or.result c.unwrap_or.ensures
