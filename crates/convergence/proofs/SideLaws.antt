-- Laws of two sides: what an offer changes, and what is missing seen from either side.
use mathlib.Core.Path.{◌≡◌, refl, sym, ◌∙◌}
use mathlib.Core.Bool.{true, false}
use mathlib.Core.List.{List, [], ◌∷◌, ◌++◌, foldl-append, map-append}
use Prim.Native.Nat.{◌+◌}
use native.Mathlib.Nat.{add_comm}
use lib.ListN.{length, length-append}
use Rattle.rules.specs.Op.{Op}
use Rattle.rules.specs.Deliver.{deliver_buffer}
use Rattle.convergence.specs.Exchange.{Site, answer, buffer_after, begun, added, perform, Side, left, right, other, is_side, Pair, missing, Offer, answer_to, offered, after, Answered, answers, acceptances, accepted_by, only_in}
use Rattle.rules.specs.Answer.{Answer, refused, had_it, accepted, if_accepted, waiting, done}
use Rattle.rules.specs.File.{appended, width}
use Rattle.lists.proofs.BoolLaws.{never}
use Rattle.lists.proofs.FilterLaws.{filter_append}

-- a fact of a side and of the other one
pub both : (t : Side) (P : Side → Type 0) → P t → P (other t) → (d : Side) → P d
unfolding other
both left P a b left = a
both left P a b right = b
both right P a b left = b
both right P a b right = a

pub side_self : (t : Side) → is_side t t ≡ true
unfolding is_side
side_self left = refl
side_self right = refl

pub side_other : (t : Side) → is_side (other t) t ≡ false
unfolding is_side other
side_other left = refl
side_other right = refl

pub side_eq : (d t : Side) → is_side d t ≡ true → d ≡ t
unfolding is_side
side_eq left left e = refl
side_eq left right e = never e
side_eq right left e = never e
side_eq right right e = refl

pub missing_from : (p : Pair) (d : Side) → length (missing p) ≡ length (only_in (p d).held (p (other d)).held) + length
    (only_in (p (other d)).held (p d).held)
unfolding missing other
missing_from p left = length-append (only_in (p left).held (p right).held) (only_in (p right).held (p left).held)
missing_from p right = length-append (only_in (p left).held (p right).held) (only_in (p right).held (p left).held)
    ∙ add_comm (length (only_in (p left).held (p right).held)) (length (only_in (p right).held (p left).held))

---- one offer

-- a delivery that is answered a
unfoldable pub delivered : Site → Op → Answer → Site
delivered x r a = record {
  buffer = if_accepted a (appended width x.buffer r) x.buffer;
  held = if_accepted a (x.held ++ (r ∷ []))
      x.held;
}

module _ (p : Pair) (o : Offer) where
  pub offered_to : offered p o o.to ≡ delivered (p o.to) o.op (answer_to p o)
  unfolding offered perform buffer_after answer begun added answer_to deliver_buffer delivered
  offered_to = rw (side_self o.to)

  pub offered_other : offered p o (other o.to) ≡ p (other o.to)
  unfolding offered
  offered_other = rw (side_other o.to)

  -- an offer that is not accepted changes nothing
  pub offered_same : if_accepted (answer_to p o) true false ≡ false → (d : Side) → offered p o d ≡ p d
  unfolding delivered
  offered_same h = both o.to (λ d. offered p o d ≡ p d) (offered_to ∙ go (answer_to p o) h) offered_other
    where
      go : (a : Answer) → if_accepted a true false ≡ false → delivered (p o.to) o.op a ≡ p o.to
      go (refused n) e = refl
      go had_it e = refl
      go waiting e = refl
      go done e = refl
      go (accepted n) e = never (sym e)

---- one after another

pub answers_append : (a b : List Offer) (p : Pair) → answers p (a ++ b) ≡ answers p a ++ answers (after p a) b
unfolding answers after
answers_append [] b p = refl
answers_append (o ∷ a) b p = rw (answers_append a b (offered p o))

pub after_append : (a b : List Offer) (p : Pair) → after p (a ++ b) ≡ after (after p a) b
unfolding after
after_append a b p = foldl-append offered p a b

pub accepted_by_append : (d : Side) (a b : List Answered) → accepted_by d (a ++ b) ≡ accepted_by d a ++ accepted_by d b
unfolding accepted_by acceptances
accepted_by_append d a b = simp (filter_append, map-append)

pub acceptances_append : (a b : List Answered) → length (acceptances (a ++ b)) ≡ length (acceptances a) + length (acceptances b)
unfolding acceptances
acceptances_append a b = simp (filter_append, length-append)
