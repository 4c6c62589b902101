-- The classes of the ops that are ready, and the replicas that have one, as the code has them.
use mathlib.Core.Path.{◌≡◌, ◌∙◌}
use mathlib.Core.List.{List}
use Prim.Native.Nat.{ℕ, ◌-◌, ◌≤◌}
use native.Mathlib.Omega.{arith}
use lib.ListN.{drop, get_or}
use borrow.Author.Tests.{le-leb, eq-eqb, ne_eqb}
use Rattle.rules.specs.Op.{count_in, kind_of, Vector}
use Rattle.rules.specs.File.{Log, log_of}
use Rattle.oplog.specs.Places.{InFile, place_of}
use Rattle.oplog.proofs.FieldLaws.{fields_at, in_file_of}
use Rattle.schedule.specs.Level.{HeldAt, class_at, class_of}

---- the class of a kind

pub class_is : (k : ℕ) → 1 ≤ k → k ≤ 4 → class_of k ≡ k
unfolding class_of
class_is k l u = rw (le-leb 1 k l, le-leb k 4 u)

---- the class of the op that is ready

pub class_none : (log : Log) (next : Vector) (s q : ℕ) → q ≡ get_or next (s - 1) 0 → q ≡ 0 → 0 ≡ class_at log next s
unfolding class_at count_in
class_none log next s q is z = rw (← is, eq-eqb q 0 z)

module _ (w : ℕ) (f : List ℕ) (next : Vector) (s : ℕ) (x : HeldAt w f next s)
    (q : ℕ) (is : q ≡ get_or next (s - 1) 0) (nz : q ≡ 0 → ⊥) where
  pub class_in_file : InFile w f s q
  unfolding count_in
  class_in_file = let r = x.replica in in_file_of w f next x.held s q r.low r.high (omega (arith, nz)) (omega arith)

  pub class_so : (at : ℕ) → at ≡ place_of w f s q → (c r : ℕ) → c ≡ kind_of (drop at f) → r ≡ class_of c → r ≡ class_at (log_of w f) next s
  unfolding class_at count_in
  class_so at e c r hc hr = hr ∙ rw (← is, ne_eqb q 0 nz, hc, ← (fields_at w f s q class_in_file at e).kind)

---- what the code that looks up a class needs
pub ruleset classing = (class_in_file, class_so)
