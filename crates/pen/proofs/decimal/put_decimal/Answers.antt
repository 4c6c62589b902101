-- `pen::decimal::put_decimal` meets its contract.
use Rattle.std.proofs.Common.{◌≡◌, arith}
use Rattle.rules.specs.Listing.{decimal}
use Rattle.std.specs.Fmt as library
use Rattle.pen.proofs.DecimalLaws.{decimal_is, digits_put}
use Rattle.pen.proofs.decimal.put_decimal.Goals as goal

pub write_digits-requires : goal.write_digits-requires
write_digits-requires c =
    let n = c.args.n in
    let e : library.decimal c.from.result ≡ decimal n = rw c.from.ensures (decimal_is n (omega arith)) in
    rw e (omega (arith, c.requires, c.digit_count.ensures.0), omega (arith, c.requires, c.digit_count.ensures.0))

pub returns : goal.returns
returns c =
    let n = c.args.n in
    let e : library.decimal c.from.result ≡ decimal n = rw c.from.ensures (decimal_is n (omega arith)) in
    let size = c.digit_count.ensures.0 in
    let d = c.write_digits.ensures in
    (omega arith, digits_put _ _ (decimal n) _ _ _ (rw e at d.start) (omega arith) (rw e at d.written) d.before)
