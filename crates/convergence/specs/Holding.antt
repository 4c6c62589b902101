-- What a delivery with a holdback promises: of one call; and of calls that follow one another, each lent what the last one left, beside
-- the same ops offered plainly over and over.
use Rattle.std.specs.Prelude.{ℕ, zero, suc, ◌+◌, ◌*◌, ◌≤◌, ◌≡◌, Bool, true, false, cond, ◌&&◌, not, ◌⊎◌, length, eqb}
use mathlib.Core.List.{List, [], ◌∷◌, foldl}
use Rattle.lists.specs.Lists.{all}
use Rattle.rules.specs.Answer.{refused, accepted, if_accepted}
use Rattle.rules.specs.Op.{Op, replica_of, seq_of, well_formed}
use Rattle.rules.specs.File.{file_end, largest}
use Rattle.rules.specs.Sound.{sound}
use Rattle.rules.specs.Deliver.{deliver_answer}
use Rattle.rules.specs.Bundle.{turns_buffer}
use Rattle.rules.specs.Holdback.{Desk, holdback_ops, holdback_of, holdback_answer, holdback_buffer, holdback_after, holdback_taken}
use Rattle.convergence.specs.Exchange.{has}

---- one call

-- "one call accepts at most 33 records"
abbrev pub AtMost33 : Type 0
AtMost33 =
    (w : ℕ) (f r h : List ℕ) (n : ℕ) → holdback_answer w f r h ≡ accepted n → length (holdback_taken w f r h) ≤ 33

-- "when a call that accepted one ends, each record left in the tray would be refused with 5 or 8"
abbrev pub RestRefused : Type 0
RestRefused =
    (w : ℕ) (f r h : List ℕ) (n : ℕ) → holdback_answer w f r h ≡ accepted n
    → (x : Op) → has (holdback_ops w (holdback_after w f r h)) x ≡ true
    → (deliver_answer w (holdback_buffer w f r h) x ≡ refused 5) ⊎ (deliver_answer w (holdback_buffer w f r h) x ≡ refused 8)

---- "only deliveries with one tray follow one another, each lent what the last one left"

unfoldable pub post : ℕ → Desk → List ℕ → Desk
post w d r = record {
  buffer = holdback_buffer w d.buffer r d.holdback;
  holdback = holdback_after w d.buffer r d.holdback;
}

unfoldable pub posted : ℕ → Desk → List (List ℕ) → Desk
posted w d rs = foldl (post w) d rs

-- "a tray that began empty"
unfoldable pub cleared : ℕ → List ℕ → Desk
cleared w f = record { buffer = f; holdback = holdback_of w [] }

-- "never filled": no op found it full
abbrev pub NeverFull : ℕ → Desk → List (List ℕ) → Type 0
NeverFull w d [] = Unit {0}
NeverFull w d (r ∷ rs) = (holdback_answer w d.buffer r d.holdback ≡ refused 13 → ⊥) × NeverFull w (post w d r) rs

---- "offering the same records plainly over and over until none is accepted"

unfoldable pub accepts : ℕ → List ℕ → List ℕ → Bool
accepts w f r = if_accepted (deliver_answer w f r) true false

unfoldable pub none_accepted : ℕ → List ℕ → List (List ℕ) → Bool
none_accepted w f rs = all (λ r. not (accepts w f r)) rs

-- rounds in which each is offered, until none is accepted; at most k
unfoldable pub offer_rounds : ℕ → ℕ → List ℕ → List (List ℕ) → List ℕ
offer_rounds zero w f rs = f
offer_rounds (suc k) w f rs = cond (none_accepted w f rs) f (offer_rounds k w (turns_buffer w f rs) rs)

-- as many as there are ops are enough
unfoldable pub over_and_over : ℕ → List ℕ → List (List ℕ) → List ℕ
over_and_over w f rs = offer_rounds (length rs) w f rs

-- it ends
abbrev pub PlainEnds : Type 0
PlainEnds = (w : ℕ) (f : List ℕ) (rs : List (List ℕ)) → none_accepted w (over_and_over w f rs) rs ≡ true

---- what is offered

-- bytes that read as an op
unfoldable pub reads : ℕ → List ℕ → Bool
reads w r = eqb (length r) w && well_formed r

-- "no two records offered share seat and sequence and differ"
abbrev pub NoRivals : ℕ → List (List ℕ) → Type 0
NoRivals w rs =
    (r x : Op) → has rs r ≡ true → has rs x ≡ true → reads w r ≡ true → reads w x ≡ true
    → replica_of r ≡ replica_of x → seq_of r ≡ seq_of x → r ≡ x

-- each once
unfoldable pub different : List (List ℕ) → List (List ℕ)
different [] = []
different (r ∷ rs) = cond (has rs r) (different rs) (r ∷ different rs)

pub record FairOffers (w : ℕ) (f : List ℕ) (rs : List (List ℕ)) : Type 0 where
  pub is_sound_so : sound w f ≡ true
  pub no_rivals : NoRivals w rs
  -- "space suffices": for the largest log, or for each of the offered ops once
  pub space : (largest w ≤ length f) ⊎ (file_end w f + w * length (different rs) ≤ length f)

---- the promise

-- the order of plain offers does not matter, nor how often each comes: where none is accepted any more, all have come to one buffer
abbrev pub OrderFree : Type 0
OrderFree =
    (w : ℕ) (f : List ℕ) (rs os : List (List ℕ)) → FairOffers w f rs → ((r : Op) → has os r ≡ true → has rs r ≡ true)
    → none_accepted w (turns_buffer w f os) rs ≡ true → turns_buffer w f os ≡ over_and_over w f rs

-- "the collection ends as it would by offering the same records plainly": every byte of the buffer
abbrev pub HoldbackPromise : Type 0
HoldbackPromise =
    (w : ℕ) (f : List ℕ) (rs : List (List ℕ)) → FairOffers w f rs → NeverFull w (cleared w f) rs
    → (posted w (cleared w f) rs).buffer ≡ over_and_over w f rs
