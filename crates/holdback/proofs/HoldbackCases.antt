-- Delivery with a holdback, as the code meets it.
use Prim.Native.Nat.{ℕ, ◌≤◌, ◌<◌}
use borrow.Author.Rules.{rules}
use borrow.Author.Tests.{eqb-true, le-ltb, lt-ltb}
use mathlib.Core.Bool.{Bool, true, false}
use mathlib.Core.List.{List, [], ◌∷◌, ◌++◌}
use mathlib.Core.Path.{◌≡◌, refl, sym, ap, ◌∙◌}
use native.Mathlib.Omega.{arith}
use Rattle.lists.proofs.BoolLaws.{never, tested}
use Rattle.rules.specs.Answer.{Answer, refused, had_it, waiting, done, accepted, require, if_accepted, if_waiting}
use Rattle.rules.specs.Bytes.{byte}
use Rattle.rules.specs.Deliver.{Result, deliver, deliver_answer, deliver_buffer}
use Rattle.rules.specs.File.{header_counts, start_of, width}
use Rattle.rules.specs.Holdback.{Desk, HoldbackResult, holdback_of, holdback_ops, sound_holdback, search, waits, put_back, early_answer, released, answer_on, holdback_answer, holdback_buffer, holdback_after, deliver_holdback}
use Rattle.rules.specs.Sound.{sound}
use Rattle.rules.proofs.DeliverLaws.{deliver_sound, never_waiting}
use Rattle.rules.proofs.ReleaseLaws.{early_kept}
use Rattle.rules.proofs.SearchLaws.{search_sound}
use Rattle.rules.proofs.VerdictLaws.{early_long}
use Rattle.codec.specs.Answers.{number_of}
use Rattle.codec.specs.Asked.{is_accepted}
use Rattle.codec.specs.declared.answer.Refusal.TheVariants.{Unsound, Length, Malformed, Conflict, Early, NotClosed, Unknown, NoRoom, Exhausted, Cycle, Marked, BadBundle, HoldbackFull, BadHoldback}
use Rattle.codec.specs.declared.answer.Refusal.{Refusal}
use Rattle.codec.proofs.AnswerLaws.{accepted_with, if_not_accepted}
use Rattle.oplog.proofs.HeaderLaws.{end_is}
use Rattle.holdback.specs.Delivering.{EarlyResult, after_search, early_call, is_early}
use Rattle.holdback_places.specs.Places.{Compared, Roomy}
use Rattle.holdback.specs.Searching.{Searchable, desk, searched}

-- what a call hands back
abbrev handed : Answer → (buffer holdback : List ℕ) → HoldbackResult
handed a f h = record { answer = a; buffer = f; holdback = h }

abbrev handed_early : Answer → (holdback : List ℕ) → EarlyResult
handed_early a h = record { answer = a; holdback = h }

---- whether an op is early

-- only 5 says that
pub not_early : (why : Refusal) → (why ≡ Early → ⊥) → is_early (refused (number_of why)) ≡ false
not_early Unsound n = refl
not_early Length n = refl
not_early Malformed n = refl
not_early Conflict n = refl
not_early Early n = absurd (n refl)
not_early NotClosed n = refl
not_early Unknown n = refl
not_early NoRoom n = refl
not_early Exhausted n = refl
not_early Cycle n = refl
not_early Marked n = refl
not_early BadBundle n = refl
not_early HoldbackFull n = refl
not_early BadHoldback n = refl

early_as : (a : Answer) → is_early a ≡ true → a ≡ refused 5
early_as (refused n) e = ap refused (eqb-true n 5 e)
early_as had_it e = never e
early_as waiting e = never e
early_as done e = never e
early_as (accepted n) e = never e

---- an early op

module _ (r h : List ℕ) (x : Compared h r) where
  pub hold_counts : sound_holdback width h ≡ true
  hold_counts = x.is_holdback

  -- b tells whether it waits, and n how many do
  module _ (b : Bool) (w : b ≡ waits width r h) where
    pub held_once : b ≡ true → handed_early waiting h ≡ early_call r h
    unfolding early_call early_answer put_back require
    held_once t = rw (← w, t)

    module _ (t : b ≡ false) (n : ℕ) (is : n ≡ byte h 0) where
      pub held_full : 32 ≤ n → handed_early (refused 13) h ≡ early_call r h
      unfolding early_call early_answer require
      held_full l = rw (← w, t, ← is, le-ltb n 32 l)

      module _ (l : n < 32) where
        pub held_room : Roomy h r
        held_room = record { compared = x; room = omega arith }

        pub held_last : (g : List ℕ) → g ≡ holdback_of width (holdback_ops width h ++ (r ∷ [])) → handed_early waiting g ≡ early_call r h
        unfolding early_call early_answer put_back require
        held_last g e = rw (← w, t, ← is, lt-ltb n 32 l, e)

---- the search after an acceptance

module _ (f h : List ℕ) (x : Searchable f h) (g h' : List ℕ) (e : desk g h' ≡ searched f h) where
  pub search_leaves : sound width g ≡ true
  unfolding searched
  search_leaves = rw (ap (λ (k : Desk). k.buffer) e) (search_sound width f (holdback_ops width h) x.is_sound_so)

  pub search_answers : (n : ℕ) → n ≡ start_of width (header_counts g) 9 → handed (accepted n) g h' ≡ after_search f h
  unfolding searched after_search
  search_answers n is =
      let buffer_so : g ≡ (search width f (holdback_ops width h)).buffer = ap (λ (k : Desk). k.buffer) e in
      rw (is, end_is width g, buffer_so, ap (λ (k : Desk). k.holdback) e)

---- by the answer of the plain delivery

module _ (f r h : List ℕ) (x : Searchable f h) where
  answer_so : holdback_answer width f r h ≡ answer_on (deliver_answer width f r) width f r h
  unfolding holdback_answer require
  answer_so = rw (x.is_sound_so, x.is_holdback)

  -- a is its answer, and g the buffer after it
  module _ (a : Answer) (g : List ℕ) (e : record { answer = a; buffer = g } ≡ deliver width f r) where
    answer_is : a ≡ deliver_answer width f r
    answer_is = ap (λ (o : Result). o.answer) e

    buffer_is : g ≡ deliver_buffer width f r
    buffer_is = ap (λ (o : Result). o.buffer) e

    answer_on_law : holdback_answer width f r h ≡ answer_on a width f r h
    answer_on_law = answer_so ∙ rw (← answer_is)

    module _ (t : is_accepted a ≡ true) where
      pub then_search : Searchable g h
      then_search = record { is_sound_so = rw buffer_is (deliver_sound width f r x.is_sound_so); is_holdback = x.is_holdback }

      pub then_released : (b : Answer) (g' h' : List ℕ) → handed b g' h' ≡ after_search g h → handed b g' h' ≡ deliver_holdback width f r h
      unfolding holdback_buffer holdback_after answer_on released after_search
      then_released b g' h' s = let (m, took) = accepted_with a t in s ∙ rw (answer_on_law, took, buffer_is)

    module _ (t : is_accepted a ≡ false) where
      same_buffer : g ≡ f
      unfolding deliver_buffer
      same_buffer = buffer_is ∙ rw (← answer_is) (if_not_accepted _ f a t)

      module _ (w : is_early a ≡ true) where
        early_so : holdback_answer width f r h ≡ early_answer width r h
        unfolding answer_on
        early_so = answer_on_law ∙ rw (early_as a w)

        pub then_early : Compared h r
        then_early = record {
          is_holdback = x.is_holdback;
          long = early_long width f r x.is_sound_so (sym answer_is ∙ early_as a w);
        }

        pub then_held : (b : Answer) (h' : List ℕ) → handed_early b h' ≡ early_call r h → handed b g h' ≡ deliver_holdback width f r h
        unfolding holdback_buffer holdback_after early_call
        then_held b h' s =
            let b_so : b ≡ early_answer width r h = ap (λ (k : EarlyResult). k.answer) s in
            let h_so : h' ≡ if_waiting (early_answer width r h) (put_back width r h) h = ap (λ (k : EarlyResult). k.holdback) s in
            let kept = early_kept width r h (holdback_of width (released width f r h).left) in
            rw (same_buffer, early_so, early_kept width r h _ f, kept _, b_so, h_so)

      pub then_same : is_early a ≡ false → handed a g h ≡ deliver_holdback width f r h
      unfolding holdback_buffer holdback_after answer_on
      then_same w = rw (same_buffer, answer_on_law) (go a answer_is t w)
        where
          go : (b : Answer) → b ≡ deliver_answer width f r → is_accepted b ≡ false → is_early b ≡ false
              → handed b f h ≡ (let c = answer_on b width f r h in
              handed c (if_accepted c (released width f r h).buffer f)
              (if_accepted c (holdback_of width (released width f r h).left) (if_waiting c (put_back width r h) h)))
          go (refused n) q u v = rw v
          go had_it q u v = refl
          go waiting q u v = absurd (never_waiting width f r (sym q))
          go done q u v = refl
          go (accepted n) q u v = never (sym u)

---- the whole

module _ (f r h : List ℕ) where
  pub call_unsound : sound width f ≡ false → handed (refused 1) f h ≡ deliver_holdback width f r h
  unfolding holdback_answer holdback_buffer holdback_after require
  call_unsound e = rw e

  module _ (a : sound width f ≡ true) where
    pub call_bad : sound_holdback width h ≡ false → handed (refused 14) f h ≡ deliver_holdback width f r h
    unfolding holdback_answer holdback_buffer holdback_after require
    call_bad e = rw (a, e)

    pub call_asks : sound_holdback width h ≡ true → Searchable f h
    call_asks e = record { is_sound_so = a; is_holdback = e }

---- what the code of delivering needs: search holding, calling
pub ruleset helds = (hold_counts, held_once, held_full, held_room, held_last)

pub ruleset thens = (search_leaves, search_answers, then_search, then_released, then_early, then_held, then_same)

pub ruleset holding = (rules, tested, helds, thens, not_early, call_unsound, call_bad, call_asks)
