-- What a look through a holdback, and a search there, do with each op that waits.
use mathlib.Core.Path.{◌≡◌, refl, ap, ◌∙◌}
use mathlib.Core.Logic.{◌⊎◌, inl, inr, ⊎_elim}
use mathlib.Core.Bool.{Bool, true, false, cond}
use mathlib.Core.List.{List, [], ◌∷◌, ◌++◌, append_assoc, append-nil}
use Prim.Native.Nat.{ℕ, zero, suc, ◌+◌, ◌≤◌, ◌<◌}
use native.Mathlib.Omega.{arith}
use borrow.Author.Tests.{eqb-true}
use lib.ListN.{length}
use lib.Dec.{eqb}
use Rattle.lists.proofs.BoolLaws.{never, or_cases}
use Rattle.rules.specs.Answer.{Answer, refused, had_it, waiting, done, accepted, if_accepted}
use Rattle.rules.specs.Op.{Op}
use Rattle.rules.specs.Deliver.{deliver_answer, deliver_buffer}
use Rattle.rules.specs.Holdback.{stays, Look, found, none, look, Search, search_on, looks, search, holdback_ops, holdback_of, sound_holdback}
use Rattle.rules.proofs.FileLaws.{Wide}
use Rattle.rules.proofs.HoldbackLaws.{ops_wide, ops_back}
use Rattle.rules.proofs.SearchLaws.{look_less, look_few}
use Rattle.convergence.specs.Exchange.{has}
use Rattle.convergence.proofs.HasLaws.{has_head, has_tail, has_none, has_cases, has_either, has_between, has_more, has_less}

-- what stays was refused with 5 or 8
pub stays_as : (a : Answer) → stays a ≡ true → (a ≡ refused 5) ⊎ (a ≡ refused 8)
unfolding stays
stays_as (refused n) e = ⊎_elim
    (λ (z : eqb n 5 ≡ true). inl (ap refused (eqb-true n 5 z)))
    (λ (z : eqb n 8 ≡ true). inr (ap refused (eqb-true n 8 z)))
    (or_cases (eqb n 5) (eqb n 8) e)
stays_as had_it e = never e
stays_as waiting e = never e
stays_as done e = never e
stays_as (accepted n) e = never e

---- one look

module _ (w : ℕ) (f : List ℕ) where
  abbrev Stays : Op → Type 0
  Stays y = stays (deliver_answer w f y) ≡ true

  -- neither accepted nor to stay
  pub record Dropped (y : Op) : Type 0 where
    pub goes : stays (deliver_answer w f y) ≡ false
    pub not_taken : if_accepted (deliver_answer w f y) true false ≡ false

  -- what came of the ops: x was found, and others are left; or all that are left stay
  pub record Found (ops : List Op) (x : Op) (left : List Op) : Type 0 where
    pub end : ℕ
    pub takes : deliver_answer w f x ≡ accepted end
    pub its_place : has ops x ≡ true
    pub whence : (y : Op) → has left y ≡ true → has ops y ≡ true
    pub whither : (y : Op) → has ops y ≡ true → (y ≡ x) ⊎ ((has left y ≡ true) ⊎ Dropped y)

  pub record None (ops left : List Op) : Type 0 where
    pub whence : (y : Op) → has left y ≡ true → has ops y ≡ true
    pub stay : (y : Op) → has left y ≡ true → Stays y
    pub whither : (y : Op) → has ops y ≡ true → (has left y ≡ true) ⊎ Dropped y

  pub data Looked (ops : List Op) : Look → Type 0 where
    is_found : {x : Op} {left : List Op} → Found ops x left → Looked ops (found x left)
    is_none : {left : List Op} → None ops left → Looked ops (none left)

  module _ (kept : List Op) (x : Op) (rest : List Op) where
    -- the op between is dropped
    looked_drop : (l : Look) → Dropped x → Looked (kept ++ rest) l → Looked (kept ++ (x ∷ rest)) l
    looked_drop (found y left) d (is_found h) = is_found {left = left} (record {
      end = h.end;
      takes = h.takes;
      its_place = has_more kept rest x y h.its_place;
      whence = λ z i. has_more kept rest x z (h.whence z i);
      whither = λ z i. ⊎_elim (λ (e : z ≡ x). inr (inr (rw e d))) (λ (e : has (kept ++ rest) z ≡ true). h.whither z e)
          (has_less kept rest x z i);
    })
    looked_drop (none left) d (is_none h) = is_none {left = left} (record {
      whence = λ z i. has_more kept rest x z (h.whence z i);
      stay = h.stay;
      whither = λ z i. ⊎_elim (λ (e : z ≡ x). inr (rw e d)) (λ (e : has (kept ++ rest) z ≡ true). h.whither z e)
          (has_less kept rest x z i);
    })

    looked_take : (n : ℕ) → deliver_answer w f x ≡ accepted n → Looked (kept ++ (x ∷ rest)) (found x (kept ++ rest))
    looked_take n e = is_found (record {
      end = n;
      takes = e;
      its_place = has_between kept rest x;
      whence = has_more kept rest x;
      whither = λ y i. ⊎_elim (λ (z : y ≡ x). inl z) (λ (z : has (kept ++ rest) y ≡ true). inr (inl z)) (has_less kept rest x y i);
    })

  -- from a list of which the first ops stay
  abbrev AllStay : List Op → Type 0
  AllStay ops = (y : Op) → has ops y ≡ true → Stays y

  one_stays : (kept : List Op) (x : Op) → AllStay kept → Stays x → AllStay (kept ++ (x ∷ []))
  one_stays kept x h s y i = ⊎_elim
      (λ (z : has kept y ≡ true). h y z)
      (λ (z : has (x ∷ []) y ≡ true). ⊎_elim (λ (e : y ≡ x). rw e s) (λ (e : has [] y ≡ true). has_none y e) (has_cases x [] y z))
      (has_either kept (x ∷ []) y i)

  abbrev Looks : List Op → Type 0
  Looks rest = (kept : List Op) → AllStay kept → Looked (kept ++ rest) (look w f kept rest)

  pub looked : (rest kept : List Op) → AllStay kept → Looked (kept ++ rest) (look w f kept rest)
  unfolding look
  looked [] kept h = is_none (record {
    whence = λ y i. rw (append-nil kept) i;
    stay = h;
    whither = λ y i. inl (rw (append-nil kept) at i);
  })
  looked (x ∷ rest) kept h = go (deliver_answer w f x) refl (looked rest)
    where
      other : (a : Answer) → deliver_answer w f x ≡ a → if_accepted a true false ≡ false → (b : Bool) → stays a ≡ b → Looks rest
          → Looked (kept ++ (x ∷ rest)) (look w f (cond b (kept ++ (x ∷ [])) kept) rest)
      other a e n true s next =
          rw (append_assoc kept (x ∷ []) rest) at (next (kept ++ (x ∷ [])) (one_stays kept x h (ap stays e ∙ s)))
      other a e n false s next =
          looked_drop kept x rest _ (record { goes = ap stays e ∙ s; not_taken = ap (λ (t : Answer). if_accepted t true false) e ∙ n })
          (next kept h)

      go : (a : Answer) → deliver_answer w f x ≡ a → Looks rest
          → Looked (kept ++ (x ∷ rest)) (if_accepted a (found x (kept ++ rest)) (look w f (cond (stays a) (kept ++ (x ∷ [])) kept) rest))
      go (refused n) e next = other (refused n) e refl (stays (refused n)) refl next
      go had_it e next = other had_it e refl (stays had_it) refl next
      go waiting e next = other waiting e refl (stays waiting) refl next
      go done e next = other done e refl (stays done) refl next
      go (accepted n) e next = looked_take kept x rest n e

---- the search

pub record Searched (w : ℕ) (f : List ℕ) (ops : List Op) (s : Search) : Type 0 where
  pub few : length s.taken + length s.left ≤ length ops
  pub whence : (y : Op) → has s.left y ≡ true → has ops y ≡ true
  pub stay : (y : Op) → has s.left y ≡ true → stays (deliver_answer w s.buffer y) ≡ true

-- with more looks than ops the search ends with a look that finds none
looks_end : (k w : ℕ) (f : List ℕ) (ops : List Op) → length ops < k → Searched w f ops (looks k w f ops)
unfolding looks search_on
looks_end zero w f ops h = absurd (omega arith)
looks_end (suc k) w f ops h = go (look w f [] ops) refl (looked w f ops [] (λ y i. has_none y i)) (looks_end k w)
  where
    go : (l : Look) → look w f [] ops ≡ l → Looked w f ops l
        → ((g : List ℕ) (xs : List Op) → length xs < k → Searched w g xs (looks k w g xs))
        → Searched w f ops (search_on w f (looks k w) l)
    go (found x left) e (is_found y) again =
        let less = look_less w f ops x left e in
        let s = again (deliver_buffer w f x) left (omega arith) in
        record { few = omega (arith, s.few); whence = λ z i. y.whence z (s.whence z i); stay = s.stay }
    go (none left) e (is_none y) again = record {
      few = omega (arith, look_few w f ops left e);
      whence = y.whence;
      stay = y.stay;
    }

pub searched : (w : ℕ) (f : List ℕ) (ops : List Op) → Searched w f ops (search w f ops)
unfolding search
searched w f ops = looks_end (suc (length ops)) w f ops (omega arith)

---- ops of one width

wide_of : (w : ℕ) (ops : List Op) → ((y : Op) → has ops y ≡ true → length y ≡ w) → Wide w ops
wide_of w [] h = tt
wide_of w (x ∷ ops) h = (h x (has_head x ops), wide_of w ops (λ y i. h y (has_tail x ops y i)))

wide_has : (w : ℕ) (ops : List Op) → Wide w ops → (y : Op) → has ops y ≡ true → length y ≡ w
wide_has w [] h y i = has_none y i
wide_has w (x ∷ ops) h y i =
    ⊎_elim (λ (e : y ≡ x). rw e h.0) (λ (e : has ops y ≡ true). wide_has w ops h.1 y e) (has_cases x ops y i)

-- what a search leaves waits in the holdback that it leaves
module _ (w : ℕ) (h : List ℕ) (s : sound_holdback w h ≡ true) (f : List ℕ) where
  abbrev ops : List Op
  ops = holdback_ops w h

  pub left_wide : Wide w (search w f ops).left
  left_wide = wide_of w _ (λ y i. wide_has w ops (ops_wide w h s) y ((searched w f ops).whence y i))

  pub left_back : holdback_ops w (holdback_of w (search w f ops).left) ≡ (search w f ops).left
  left_back = ops_back w (search w f ops).left left_wide
