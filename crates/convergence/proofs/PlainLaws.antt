-- Ops that are offered plainly, over and over: each that is accepted is one fewer to come, so the rounds end; and where there is room,
-- none is admitted then.
use mathlib.Core.Path.{◌≡◌, refl, sym, ap, ◌∙◌}
use mathlib.Core.Logic.{◌⊎◌, inl, inr, ⊎_elim}
use mathlib.Core.Bool.{Bool, true, false, cond, ◌&&◌, not}
use mathlib.Core.List.{List, [], ◌∷◌}
use Prim.Native.Nat.{ℕ, zero, suc, ◌+◌, ◌*◌, ◌≤◌, ◌<◌}
use native.Mathlib.Nat.{le_refl, mul-le-mul_left, mul-one}
use native.Mathlib.Omega.{arith}
use borrow.Author.Tests.{leb-true, le-leb}
use lib.ListN.{length}
use Rattle.lists.specs.Lists.{all, filter}
use Rattle.lists.proofs.BoolLaws.{never, and_both, and_left, and_right}
use Rattle.lists.proofs.FilterLaws.{filter_every}
use Rattle.lists.proofs.NumberLaws.{mul_step}
use Rattle.rules.specs.Answer.{Answer, refused, had_it, waiting, done, accepted, if_accepted}
use Rattle.rules.specs.Op.{Op, count_in, replica_of, seq_of}
use Rattle.rules.specs.File.{Log, Extends, counts_of, file_end, largest, log_of, appended}
use Rattle.rules.specs.Bundle.{turns_buffer}
use Rattle.rules.specs.Deliver.{is_held, deliver_answer, deliver_buffer}
use Rattle.rules.proofs.AppendLaws.{Admits, extends, in_range, own_next, replica_formed}
use Rattle.rules.proofs.DeliverLaws.{Admitted, admitted, appended_log, appended_length, appended_end, if_not}
use Rattle.rules.proofs.InLaws.{new_in}
use Rattle.rules.proofs.SoundLaws.{sound_good}
use Rattle.rules.proofs.VerdictLaws.{admits_room}
use Rattle.convergence.specs.Exchange.{has}
use Rattle.convergence.specs.Holding.{accepts, none_accepted, offer_rounds, over_and_over, reads, different, FairOffers, PlainEnds}
use Rattle.convergence.proofs.HasLaws.{has_head, has_tail, has_none, has_cases}
use Rattle.convergence.proofs.GrownLaws.{grown_first, grown_deliver}
use Rattle.convergence.proofs.EndLaws.{Reached, Ended, reads_of, reads_formed, not_admitted}

---- tests of the ops of a list

all_has : (p : Op → Bool) (xs : List Op) → all p xs ≡ true → (y : Op) → has xs y ≡ true → p y ≡ true
unfolding all
all_has p [] h y i = has_none y i
all_has p (x ∷ xs) h y i =
    ⊎_elim (λ (e : y ≡ x). rw e (and_left (p x) _ h)) (λ (e : has xs y ≡ true). all_has p xs (and_right (p x) _ h) y e) (has_cases x xs y i)

fewer : (p q : Op → Bool) (xs : List Op) → ((y : Op) → p y ≡ true → q y ≡ true) → length (filter p xs) ≤ length (filter q xs)
unfolding filter
fewer p q [] h = le_refl 0
fewer p q (x ∷ xs) h = go (p x) (q x) refl refl (fewer p q xs h)
  where
    go : (a b : Bool) → p x ≡ a → q x ≡ b → length (filter p xs) ≤ length (filter q xs)
        → length (cond a (x ∷ filter p xs) (filter p xs)) ≤ length (cond b (x ∷ filter q xs) (filter q xs))
    go true true e f ih = omega arith
    go true false e f ih = never (sym f ∙ h x e)
    go false true e f ih = omega arith
    go false false e f ih = ih

-- z passes q, and not p
one_fewer : (p q : Op → Bool) (xs : List Op) → ((y : Op) → p y ≡ true → q y ≡ true) → (z : Op) → has xs z ≡ true → p z ≡ false
    → q z ≡ true → length (filter p xs) < length (filter q xs)
unfolding filter
one_fewer p q [] h z i n y = has_none z i
one_fewer p q (x ∷ xs) h z i n y = go (p x) (q x) refl refl (λ e. one_fewer p q xs h z e n y)
  where
    go : (a b : Bool) → p x ≡ a → q x ≡ b → (has xs z ≡ true → length (filter p xs) < length (filter q xs))
        → length (cond a (x ∷ filter p xs) (filter p xs)) < length (cond b (x ∷ filter q xs) (filter q xs))
    go true true e f ih =
        ⊎_elim (λ (w : z ≡ x). never (sym n ∙ ap p w ∙ e)) (λ (w : has xs z ≡ true). omega (arith, ih w)) (has_cases x xs z i)
    go true false e f ih = never (sym f ∙ h x e)
    go false true e f ih = omega (arith, fewer p q xs h)
    go false false e f ih =
        ⊎_elim (λ (w : z ≡ x). never (sym f ∙ sym (ap q w) ∙ y)) (λ (w : has xs z ≡ true). ih w) (has_cases x xs z i)

some_pass : (q : Op → Bool) (xs : List Op) (z : Op) → has xs z ≡ true → q z ≡ true → 1 ≤ length (filter q xs)
some_pass q xs z i e = omega (arith, one_fewer (λ y. false) q xs (λ y b. never b) z i refl e)

no_more : (q : Op → Bool) (xs : List Op) → length (filter q xs) ≤ length xs
no_more q xs =
    let e : length (filter (λ y. true) xs) ≡ length xs = ap length (filter_every (λ (y : Op). true) xs (λ y. refl)) in
    omega (arith, fewer q (λ y. true) xs (λ y b. refl))

---- each once

different_has : (rs : List Op) (r : Op) → has rs r ≡ true → has (different rs) r ≡ true
unfolding different
different_has [] r i = i
different_has (x ∷ rs) r i = go (has rs x) refl (different_has rs r)
  where
    go : (b : Bool) → has rs x ≡ b → (has rs r ≡ true → has (different rs) r ≡ true)
        → has (cond b (different rs) (x ∷ different rs)) r ≡ true
    go true e ih = ⊎_elim (λ (z : r ≡ x). ih (rw z e)) (λ (z : has rs r ≡ true). ih z) (has_cases x rs r i)
    go false e ih = ⊎_elim
        (λ (z : r ≡ x). rw z (has_head x (different rs)))
        (λ (z : has rs r ≡ true). has_tail x (different rs) r (ih z))
        (has_cases x rs r i)

different_few : (rs : List Op) → length (different rs) ≤ length rs
unfolding different
different_few [] = le_refl 0
different_few (x ∷ rs) = go (has rs x) (different_few rs)
  where
    go : (b : Bool) → length (different rs) ≤ length rs → length (cond b (different rs) (x ∷ different rs)) ≤ suc (length rs)
    go true ih = omega arith
    go false ih = omega arith

---- what a delivery leaves

pub held_more : (log more : Log) → Extends log more → (r : Op) → 1 ≤ replica_of r → replica_of r ≤ 8 → is_held log r ≡ true
    → is_held more r ≡ true
unfolding is_held
held_more log more x r l u e =
    let h = leb-true (seq_of r) (count_in (counts_of log) (replica_of r)) e in
    le-leb (seq_of r) (count_in (counts_of more) (replica_of r)) (omega (arith, x.counts (replica_of r) l u))

-- an op is accepted
module _ (w : ℕ) (g : List ℕ) (r : Op) (n : ℕ) (h : Admitted w g r n) where
  pub held_new : is_held (log_of w (appended w g r)) r ≡ true
  unfolding is_held
  held_new =
      let good = sound_good w g h.is_sound_so in
      let i = in_range (log_of w g) r good h.admits in
      rw (appended_log w g r n h)
      (le-leb _ _ (new_in (log_of w g) r good.eight i.0 i.1 (own_next (log_of w g) r good h.admits)).here)

  pub extends_new : Extends (log_of w g) (log_of w (appended w g r))
  extends_new = rw (appended_log w g r n h) (extends (log_of w g) r (sound_good w g h.is_sound_so) h.admits)

module _ (w : ℕ) (g : List ℕ) (r : Op) where
  pub accepted_buffer : (n : ℕ) → deliver_answer w g r ≡ accepted n → deliver_buffer w g r ≡ appended w g r
  unfolding deliver_buffer
  accepted_buffer n e = rw e

  accepted_by : accepts w g r ≡ true → (n : ℕ) × (deliver_answer w g r ≡ accepted n)
  unfolding accepts
  accepted_by = go (deliver_answer w g r)
    where
      go : (a : Answer) → if_accepted a true false ≡ true → (n : ℕ) × (a ≡ accepted n)
      go (refused n) e = never e
      go had_it e = never e
      go waiting e = never e
      go done e = never e
      go (accepted n) e = (n, refl)

  refused_buffer : accepts w g r ≡ false → deliver_buffer w g r ≡ g
  unfolding deliver_buffer accepts
  refused_buffer = if_not (deliver_answer w g r) (appended w g r) g

---- what is to come

module _ (w : ℕ) (rs : List (List ℕ)) where
  -- the offered ops, each once, that are not held
  unfoldable pub comes : List ℕ → Op → Bool
  comes g r = reads w r && not (is_held (log_of w g) r)

  unfoldable pub pending : List ℕ → ℕ
  pending g = length (filter (comes g) (different rs))

  admitted_comes : (g : List ℕ) (r : Op) → has rs r ≡ true → reads w r ≡ true → Admits (log_of w g) r → 1 ≤ pending g
  unfolding pending comes
  admitted_comes g r i e a = some_pass (comes g) (different rs) r (different_has rs r i) (rw (e, a.new))

  accept_fewer : (g : List ℕ) (r : Op) (n : ℕ) → has rs r ≡ true → Admitted w g r n → pending (appended w g r) < pending g
  unfolding pending comes
  accept_fewer g r n i h =
      one_fewer (comes (appended w g r)) (comes g) (different rs)
      (λ y e. and_both (and_left (reads w y) _ e) (go y (and_left (reads w y) _ e) (is_held (log_of w g) y) refl (and_right (reads w y) _ e)))
      r (different_has rs r i)
      (rw (held_new w g r n h, reads_of w r h.long h.admits.formed))
      (rw (h.admits.new, reads_of w r h.long h.admits.formed))
    where
      go : (y : Op) → reads w y ≡ true → (b : Bool) → is_held (log_of w g) y ≡ b → not (is_held (log_of w (appended w g r)) y) ≡ true
          → not b ≡ true
      go y e false z q = refl
      go y e true z q =
          let k = replica_formed y (reads_formed w y e) in
          rw (held_more (log_of w g) (log_of w (appended w g r)) (extends_new w g r n h) y k.0 k.1 z) at q

  ---- the rounds end

  -- offers of which none is accepted, or there are fewer to come
  abbrev Onward : List ℕ → List (List ℕ) → Type 0
  Onward g os = (none_accepted w g os ≡ true) ⊎ (pending (turns_buffer w g os) < pending g)

  offered : (os : List (List ℕ)) (g : List ℕ) → ((r : Op) → has os r ≡ true → has rs r ≡ true)
      → (pending (turns_buffer w g os) ≤ pending g) × Onward g os
  unfolding none_accepted all turns_buffer
  offered [] g i = (le_refl _, inl refl)
  offered (r ∷ os) g i = go (accepts w g r) refl (offered os (deliver_buffer w g r) (λ y j. i y (has_tail r os y j)))
    where
      go : (b : Bool) → accepts w g r ≡ b
          → (pending (turns_buffer w (deliver_buffer w g r) os) ≤ pending (deliver_buffer w g r)) × Onward (deliver_buffer w g r) os
          → (pending (turns_buffer w (deliver_buffer w g r) os) ≤ pending g)
          × (((not b && all (λ x. not (accepts w g x)) os) ≡ true) ⊎ (pending (turns_buffer w (deliver_buffer w g r) os) < pending g))
      go true e (le, o) =
          let (n, a) = accepted_by w g r e in
          let less : pending (deliver_buffer w g r) < pending g =
          rw (accepted_buffer w g r n a) (accept_fewer g r n (i r (has_head r os)) (admitted w g r n a)) in
          (omega arith, inr (omega arith))
      go false e rest = let same = refused_buffer w g r e in let next = rw same at rest in rw same next

  -- where one is accepted, it was to come
  none_comes : (g : List ℕ) → pending g ≤ 0 → (os : List (List ℕ)) → ((r : Op) → has os r ≡ true → has rs r ≡ true)
      → none_accepted w g os ≡ true
  none_comes g h os i = ⊎_elim (λ (e : none_accepted w g os ≡ true). e) (λ l. absurd (omega arith)) (offered os g i).1

  rounds_end : (k : ℕ) (g : List ℕ) → pending g ≤ k → none_accepted w (offer_rounds k w g rs) rs ≡ true
  unfolding offer_rounds
  rounds_end zero g h = none_comes g h rs (λ r i. i)
  rounds_end (suc k) g h = go (none_accepted w g rs) refl (rounds_end k (turns_buffer w g rs))
    where
      go : (b : Bool) → none_accepted w g rs ≡ b
          → (pending (turns_buffer w g rs) ≤ k → none_accepted w (offer_rounds k w (turns_buffer w g rs) rs) rs ≡ true)
          → none_accepted w (cond b g (offer_rounds k w (turns_buffer w g rs) rs)) rs ≡ true
      go true e ih = e
      go false e ih = ⊎_elim
          (λ (n : none_accepted w g rs ≡ true). never (sym e ∙ n))
          (λ (l : pending (turns_buffer w g rs) < pending g). ih (omega arith))
          (offered rs g (λ r i. i)).1

  pub plain_ends : (f : List ℕ) → none_accepted w (over_and_over w f rs) rs ≡ true
  unfolding over_and_over pending
  plain_ends f = rounds_end (length rs) f (omega (arith, no_more (comes f) (different rs), different_few rs))

  ---- room

  -- for all ops of a log, or for those to come
  abbrev Space : List ℕ → Type 0
  Space g = (largest w ≤ length g) ⊎ (file_end w g + w * pending g ≤ length g)

  space_new : (g : List ℕ) (r : Op) (n : ℕ) → has rs r ≡ true → Admitted w g r n → Space g → Space (appended w g r)
  space_new g r n i h (inl big) = inl (omega (arith, appended_length w g r n h))
  space_new g r n i h (inr fits) =
      let m = mul-le-mul_left w (accept_fewer g r n i h) in
      inr (omega (arith, appended_length w g r n h, appended_end w g r n h, mul_step w (pending (appended w g r))))

  space_first : (f : List ℕ) → FairOffers w f rs → Space f
  unfolding pending
  space_first f x = ⊎_elim inl (λ fits. let m = mul-le-mul_left w (no_more (comes f) (different rs)) in inr (omega arith)) x.space

  ---- a buffer that offered ops have brought about, with room for the rest

  pub record Fits (f g : List ℕ) : Type 0 where
    pub grown : Reached w f rs g
    pub space : Space g

  module _ (f : List ℕ) where
    pub fits_first : FairOffers w f rs → Fits f f
    fits_first x = record { grown = grown_first (λ y. has rs y ≡ true) w f x.is_sound_so; space = space_first f x }

    pub fits_deliver : (g : List ℕ) (r : Op) → has rs r ≡ true → Fits f g → Fits f (deliver_buffer w g r)
    fits_deliver g r i x = record {
      grown = grown_deliver (λ y. has rs y ≡ true) w f g r i x.grown;
      space = go (accepts w g r) refl;
    }
      where
        go : (b : Bool) → accepts w g r ≡ b → Space (deliver_buffer w g r)
        go true e =
            let (n, a) = accepted_by w g r e in
            rw (accepted_buffer w g r n a) (space_new g r n i (admitted w g r n a) x.space)
        go false e = rw (refused_buffer w g r e) x.space

    pub fits_turns : (os : List (List ℕ)) (g : List ℕ) → ((r : Op) → has os r ≡ true → has rs r ≡ true) → Fits f g
        → Fits f (turns_buffer w g os)
    unfolding turns_buffer
    fits_turns [] g i x = x
    fits_turns (r ∷ os) g i x =
        fits_turns os (deliver_buffer w g r) (λ y j. i y (has_tail r os y j)) (fits_deliver g r (i r (has_head r os)) x)

    fits_rounds : (k : ℕ) (g : List ℕ) → Fits f g → Fits f (offer_rounds k w g rs)
    unfolding offer_rounds
    fits_rounds zero g x = x
    fits_rounds (suc k) g x = go (none_accepted w g rs) (fits_rounds k (turns_buffer w g rs) (fits_turns rs g (λ r i. i) x))
      where
        go : (b : Bool) → Fits f (offer_rounds k w (turns_buffer w g rs) rs) → Fits f (cond b g (offer_rounds k w (turns_buffer w g rs) rs))
        go true y = x
        go false y = y

    pub fits_plain : FairOffers w f rs → Fits f (over_and_over w f rs)
    unfolding over_and_over
    fits_plain x = fits_rounds (length rs) f (fits_first x)

    module _ (g : List ℕ) (x : Fits f g) where
      -- there is room for an op that is admitted
      pub has_room : (r : Op) → has rs r ≡ true → reads w r ≡ true → Admits (log_of w g) r → file_end w g + w ≤ length g
      has_room r i e a = ⊎_elim
          (λ (big : largest w ≤ length g). admits_room w g r x.grown.is_sound_so big a)
          (λ fits. let m = mul-le-mul_left w (admitted_comes g r i e a) in omega (arith, mul-one w))
          x.space

      -- so where none is accepted, none is admitted
      pub none_ended : none_accepted w g rs ≡ true → Ended w f rs g
      unfolding none_accepted accepts
      none_ended none r i e =
          not_admitted w g r x.grown.is_sound_so (has_room r i e) e
          (λ n q. never (rw q at (all_has (λ y. not (accepts w g y)) rs none r i)))

pub plainly_ends : PlainEnds
plainly_ends w f rs = plain_ends w rs f
