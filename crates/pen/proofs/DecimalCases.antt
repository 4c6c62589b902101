-- The size of a line, as the code meets it.
use Prim.Native.Nat.{◌+◌, ℕ}
use borrow.Author.Rules.{rules}
use lib.ListN.{length}
use mathlib.Core.Bool.{Bool}
use mathlib.Core.Path.{◌≡◌}
use native.Mathlib.Omega.{arith}
use Rattle.rules.specs.Listing.{decimal, line_of}
use Rattle.rules.proofs.DecimalLaws.{length_line}

pub line_sized : (d n a b : ℕ) → a ≡ length (decimal d) → b ≡ length (decimal n) → (marked : Bool)
    → a + b + 4 ≡ length (line_of d n marked)
line_sized d n a b ea eb marked = omega (arith, length_line d n marked)

---- what the code of lines needs: search decimals
pub ruleset decimals = (rules, line_sized)
