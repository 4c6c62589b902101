-- Handing over in causal order: the other side's ops, offered in an order in which the sums of their counts do not fall, are never early.
use Rattle.std.specs.Prelude.{ℕ, ◌≤◌, ◌≡◌, Bool, true, false, ◌||◌, length}
use mathlib.Core.List.{List, [], ◌∷◌, foldl}
use Rattle.lists.specs.Lists.{sum, all}
use Rattle.rules.specs.Answer.{Answer, refused, had_it, waiting, done, accepted}
use Rattle.rules.specs.Op.{Op, vector_of}
use Rattle.rules.specs.File.{largest, width}
use Rattle.convergence.specs.Exchange.{Call, deliver, Site, answer, perform, has, Agreed, Side, left, right, other}
use Rattle.convergence.specs.Converges.{meeting}

-- the sum of an op's counts
unfoldable pub weight : Op → ℕ
weight r = sum (vector_of r)

-- along a list the sums do not fall
abbrev pub NotFalling : List Op → Type 0
NotFalling [] = Unit {0}
NotFalling (r ∷ ops) = ((x : Op) → has ops x ≡ true → weight r ≤ weight x) × NotFalling ops

-- ops delivered at a site, one after the other: the site after them, and the answers
unfoldable pub deliver_all : Site → List Op → Site
deliver_all x ops = foldl (λ y r. perform y (deliver r)) x ops

unfoldable pub deliver_answers : Site → List Op → List Answer
deliver_answers x [] = []
deliver_answers x (r ∷ ops) = answer x.buffer (deliver r) ∷ deliver_answers (perform x (deliver r)) ops

-- acceptance or "had it", and so not 5
unfoldable pub taken_or_had : Answer → Bool
taken_or_had (refused n) = false
taken_or_had had_it = true
taken_or_had waiting = false
taken_or_had done = false
taken_or_had (accepted n) = true

-- from y to x
pub record HandedOver (x y : Site) (ops : List Op) : Type 0 where
  pub answers : all taken_or_had (deliver_answers x ops) ≡ true
  pub arrived : (r : Op) → has y.held r ≡ true → has (deliver_all x ops).held r ≡ true

-- two lists of calls, as demand 3 has them; the ops are the other side's, and all that this side lacks are among them
abbrev pub NeverEarly : Type 0
NeverEarly =
    (start : Side → List ℕ) (calls : Side → List Call) (rest : Side → List ℕ)
    → ((d : Side) → 32 ≤ length (start d))
    → ((d : Side) → largest width ≤ length (meeting start calls rest d).buffer)
    → Agreed (meeting start calls rest left).held (meeting start calls rest right).held
    → (d : Side) (ops : List Op)
    → let x = meeting start calls rest d in
    let y = meeting start calls rest (other d) in
    ((r : Op) → has ops r ≡ true → has y.held r ≡ true)
    → ((r : Op) → has y.held r ≡ true → (has x.held r || has ops r) ≡ true)
    → NotFalling ops
    → HandedOver x y ops
