-- Opening a bundle, as the code meets it.
use Prim.Native.Nat.{ℕ, ◌-◌, ◌/◌, ◌≤◌, ◌<◌}
use borrow.Author.Rules.{rules}
use borrow.Author.Tests.{le-leb, lt-leb}
use lib.ListN.{length, length-drop, length-replicate, length-take, take, drop, drop_of_length-le, replicate, take-append-drop}
use lib.Seq.{take_all}
use Rattle.std.proofs.Common.{length-append}
use mathlib.Core.Bool.{true, false}
use mathlib.Core.List.{List, [], ◌∷◌, ◌++◌, append-nil}
use mathlib.Core.Logic.{inl, inr}
use mathlib.Core.Path.{◌≡◌, refl, sym, ap, ◌∙◌}
use native.Mathlib.Decide.{dec_le}
use native.Mathlib.Nat.{le_refl}
use native.Mathlib.Omega.{arith}
use Rattle.lists.specs.Lists.{sum}
use Rattle.lists.proofs.BoolLaws.{never, tested}
use Rattle.rules.specs.Answer.{Answer, refused, had_it, waiting, done, accepted, require, unless_refused}
use Rattle.rules.specs.Bundle.{bodies_in, head_counts, head_size, open_answer, open_buffer, open_bundle, turns_answer, turns_buffer, whole_bundle}
use Rattle.rules.specs.Deliver.{Result, deliver, deliver_answer, deliver_buffer}
use Rattle.rules.specs.File.{file_end, header_counts, largest, start_of, width}
use Rattle.rules.specs.Op.{Op}
use Rattle.rules.specs.Sound.{sound}
use Rattle.rules.proofs.DeliverLaws.{deliver_sound}
use Rattle.rules.proofs.BundleLaws.{Whole, whole_reads}
use Rattle.rules.proofs.SoundLaws.{sound_end, sound_laid}
use Rattle.oplog.proofs.BodyLaws.{bodies_of, none_in, one_more}
use Rattle.oplog.proofs.HeaderLaws.{end_is}
use Rattle.codec.specs.Asked.{is_accepted}
use Rattle.codec.specs.Answers.{delivered}
use Rattle.codec.specs.declared.answer.Delivered.{Delivered}
use Rattle.codec.specs.declared.answer.Delivered.TheVariants.{HadIt, Waiting, Accepted}
use Rattle.soundness.proofs.SoundCases.{end_asks}
use Rattle.codec.proofs.AnswerLaws.{if_accepted_law, if_not_accepted}
use Rattle.bundle.specs.Opening.{Ended, Openable, Reaches, Trial, Tried, body_answer, reach_of, take_body}
use Rattle.rules.proofs.FrontLaws.{sound_front}
use Rattle.bundle.proofs.CopyLaws.{turns_part}

abbrev handed : Answer → (buffer : List ℕ) → Result
handed a b = record { answer = a; buffer = b }

---- one body

module _ (f : List ℕ) (r : Op) (a : Answer) (g : List ℕ) (e : handed a g ≡ deliver width f r) where
  is_answer : a ≡ deliver_answer width f r
  is_answer = ap (λ (x : Result). x.answer) e

  is_buffer : g ≡ deliver_buffer width f r
  is_buffer = ap (λ (x : Result). x.buffer) e

  pub body_sound : sound width f ≡ true → sound width g ≡ true
  body_sound s = rw is_buffer (deliver_sound width f r s)

module _ (f : List ℕ) (r : Op) (g : List ℕ) where
  pub body_refused : (n : ℕ) → handed (refused n) g ≡ deliver width f r → handed (refused n) g ≡ take_body f r
  unfolding body_answer unless_refused
  body_refused n e =
      let a : refused n ≡ deliver_answer width f r = is_answer f r (refused n) g e in
      let b : g ≡ deliver_buffer width f r = is_buffer f r (refused n) g e in
      rw (← a, ← b)

  pub body_passed : (d : Delivered) → handed (delivered d) g ≡ deliver width f r → (n : ℕ) → n ≡ start_of width (header_counts g) 9
      → handed (accepted n) g ≡ take_body f r
  unfolding body_answer unless_refused
  body_passed d e n is = rw (← is_answer f r (delivered d) g e, ← is_buffer f r (delivered d) g e, is, end_is width g) (go d)
    where
      go : (x : Delivered) → handed (accepted (file_end width g)) g
          ≡ handed (unless_refused (delivered x) (accepted (file_end width g))) g
      go HadIt = refl
      go Waiting = refl
      go (Accepted k) = refl

---- bodies in turn: the rest is not delivered yet

pub record TakenTo (f bodies buf rest : List ℕ) (size : ℕ) : Type 0 where
  pub is_sound_so : sound width buf ≡ true
  pub wide : size ≡ width
  pub answers : turns_answer width f (bodies_of bodies) ≡ turns_answer width buf (bodies_of rest)
  pub buffers : turns_buffer width f (bodies_of bodies) ≡ turns_buffer width buf (bodies_of rest)

pub taken_starts : (f bodies rest : List ℕ) (size : ℕ) → sound width f ≡ true → rest ≡ bodies → size ≡ width → TakenTo f bodies f rest size
taken_starts f bodies rest size s e w = record { is_sound_so = s; wide = w; answers = rw e; buffers = rw e }

module _ (f bodies buf rest : List ℕ) (size : ℕ) (x : TakenTo f bodies buf rest size) where
  pub taken_ends : length rest < size → (k : ℕ) → k ≡ start_of width (header_counts buf) 9 → Tried f (bodies_of bodies) (accepted k) buf
  unfolding turns_answer turns_buffer
  taken_ends h k is =
      let none : bodies_of rest ≡ [] = none_in rest (rw x.wide at h) in
      record { answered = sym (x.answers ∙ rw (none, ← end_is width buf, ← is)); left = λ _. sym (x.buffers ∙ rw none) }

  module _ (r left : List ℕ) (h : rest ≡ r ++ left) (long : length r ≡ size) (a : Answer) (g : List ℕ)
      (e : handed a g ≡ take_body buf r) where
    answer_so : a ≡ body_answer buf r
    answer_so = ap (λ (y : Result). y.answer) e

    buffer_so : g ≡ deliver_buffer width buf r
    buffer_so = ap (λ (y : Result). y.buffer) e

    abbrev next : Answer
    next = turns_answer width (deliver_buffer width buf r) (bodies_of left)

    more : bodies_of rest ≡ r ∷ bodies_of left
    more = one_more rest r left h (long ∙ x.wide)

    turn : turns_answer width f (bodies_of bodies) ≡ unless_refused (deliver_answer width buf r) next
    unfolding turns_answer
    turn = x.answers ∙ ap (turns_answer width buf) more

    pub taken_refused : is_accepted a ≡ false → Tried f (bodies_of bodies) a g
    unfolding body_answer unless_refused
    taken_refused no_end = record {
      answered = sym (turn ∙ go (deliver_answer width buf r) refl);
      left = λ yes_end. never (sym no_end ∙ yes_end);
    }
      where
        go : (d : Answer) → deliver_answer width buf r ≡ d → unless_refused d next ≡ a
        go (refused m) q = sym (answer_so ∙ rw q)
        go had_it q = let y : is_accepted a ≡ true = rw (answer_so, q) in never (sym no_end ∙ y)
        go waiting q = let y : is_accepted a ≡ true = rw (answer_so, q) in never (sym no_end ∙ y)
        go done q = let y : is_accepted a ≡ true = rw (answer_so, q) in never (sym no_end ∙ y)
        go (accepted m) q = let y : is_accepted a ≡ true = rw (answer_so, q) in never (sym no_end ∙ y)

    pub taken_on : is_accepted a ≡ true → (later : ℕ) → later ≡ size → TakenTo f bodies g left later
    unfolding body_answer unless_refused turns_buffer
    taken_on yes_end later w = record {
      is_sound_so = rw buffer_so (deliver_sound width buf r x.is_sound_so);
      wide = w ∙ x.wide;
      answers = turn ∙ rw buffer_so (go (deliver_answer width buf r) refl);
      buffers = x.buffers ∙ ap (turns_buffer width buf) more ∙ rw buffer_so;
    }
      where
        go : (d : Answer) → deliver_answer width buf r ≡ d → unless_refused d next ≡ next
        go (refused m) q = let y : is_accepted a ≡ false = rw (answer_so, q) in never (sym y ∙ yes_end)
        go had_it q = refl
        go waiting q = refl
        go done q = refl
        go (accepted m) q = refl

---- the copy

module _ (n : ℕ) where
  pub reach_all : n ≤ largest width → n ≡ reach_of n
  unfolding reach_of
  reach_all l = rw (le-leb n (largest width) l)

  pub reach_most : largest width < n → largest width ≡ reach_of n
  unfolding reach_of
  reach_most l = rw (lt-leb n (largest width) l)

pub reach_small : (n r : ℕ) → r ≡ reach_of n → r ≤ largest width
unfolding reach_of
reach_small n r e = elim (dec_le n (largest width)) [
  | yes l ↦ let z : r ≡ n = e ∙ rw (le-leb n (largest width) l) in omega arith
  | no l ↦ let z : r ≡ largest width = e ∙ rw (lt-leb n (largest width) (omega arith)) in omega arith
]

module _ (f b : List ℕ) (x : Openable f b) where
  whole : Whole width b
  whole = whole_reads width b x.is_whole

  open_some : 1 ≤ length b
  unfolding head_size
  open_some = let w = whole.head in omega arith

  module _ (len : ℕ) (hl : len ≡ reach_of (length f)) where
    open_reaches : Reaches width len f
    unfolding reach_of
    open_reaches = elim (dec_le (length f) (largest width)) [
      | yes l ↦
          let e : len ≡ length f = hl ∙ rw (le-leb (length f) (largest width) l) in
          rw e (record { is_sound_so = x.is_sound_so; inside = (sound_laid width f x.is_sound_so).fits; short = le_refl _; enough = inl refl })
      | no l ↦
          let e : len ≡ largest width = hl ∙ rw (lt-leb (length f) (largest width) (omega arith)) in
          rw e (record {
            is_sound_so = x.is_sound_so;
            inside = sound_end width f x.is_sound_so;
            short = omega arith;
            enough = inr (le_refl _);
          })
    ]

    -- the part of the scratch bytes that is lent for it
    pub open_trial : Trial f b (take len (replicate (largest width) 0))
    open_trial =
        let long : length {A = ℕ} (take len (replicate (largest width) 0)) ≡ len =
        rw (length-take, length-replicate) (omega (arith, reach_small (length f) len hl)) in
        record { openable = x; reaches = rw long open_reaches }

---- trying the bodies in the copy

module _ (f b copy : List ℕ) (x : Trial f b copy) where
  pub trial_some : 1 ≤ length b
  trial_some = open_some f b x.openable

  pub trial_front : length copy ≤ length f
  trial_front = x.reaches.short

  front_long : length (take (length copy) f) ≡ length copy
  front_long = rw length-take (omega (arith, trial_front))

  pub trial_fits : length (take (length copy) f) ≤ length copy
  trial_fits = rw front_long (le_refl _)

  module _ (size : ℕ) (hs : size ≡ head_size b) where
    pub trial_head : size ≤ length b
    trial_head = let w = whole f b x.openable in omega (arith, w.head)

    module _ (filled : List ℕ) (e : filled ≡ take (length copy) f ++ drop (length (take (length copy) f)) copy) where
      is_front : filled ≡ take (length copy) f
      is_front =
          let none : drop (length (take (length copy) f)) copy ≡ [] =
          drop_of_length-le copy {i = length (take (length copy) f)} (omega (arith, front_long)) in
          e ∙ rw (none, append-nil)

      rest_is : take (length b - size) (drop size b) ≡ drop size b
      rest_is = take_all (length b - size) (drop size b) (rw length-drop (le_refl _))

      number : length (drop size b) / width ≡ sum (head_counts b)
      number = let w = whole f b x.openable in rw length-drop (omega (arith, w.size))

      pub trial_sound : sound width filled ≡ true
      trial_sound = let r = x.reaches in rw is_front (sound_front width (length copy) f r.inside r.short r.is_sound_so)

      pub trial_tried : (a : Answer) (g : List ℕ) → Tried filled (bodies_of (take (length b - size) (drop size b))) a g
          → Tried (take (length copy) f) (bodies_in width b) a g
      unfolding bodies_in
      trial_tried a g t = record {
        answered = t.answered ∙ rw (rest_is, is_front, number, hs);
        left = λ h. t.left h ∙ rw (rest_is, is_front, number, hs);
      }

  pub trial_ended : (a : Answer) (g : List ℕ) → Tried (take (length copy) f) (bodies_in width b) a g → length g ≡ length copy → Ended f b g a
  trial_ended a g t n = record {
    trial = record { openable = x.openable; reaches = rw n x.reaches };
    tried = rw n t;
  }

-- what was tried is what opening does
module _ (f b copy : List ℕ) (a : Answer) (x : Ended f b copy a) where
  abbrev ops : List Op
  ops = bodies_in width b

  turns : (turns_answer width (take (length copy) f) ops ≡ turns_answer width f ops)
      × (turns_buffer width (take (length copy) f) ops ≡ take (length copy) (turns_buffer width f ops))
      × (drop (length copy) (turns_buffer width f ops) ≡ drop (length copy) f)
  turns = turns_part width (length copy) ops f x.trial.reaches

  is_turns : a ≡ turns_answer width f ops
  is_turns = x.tried.answered ∙ turns.0

  pub open_refused : is_accepted a ≡ false → handed a f ≡ open_bundle width f b
  unfolding open_answer open_buffer require
  open_refused e =
      let o = x.trial.openable in
      rw (o.is_sound_so, o.is_whole, ← is_turns, if_not_accepted (turns_buffer width f ops) f a e)

  pub open_fits : length copy ≤ length f
  open_fits = x.trial.reaches.short

  pub open_done : is_accepted a ≡ true → (after : List ℕ) → after ≡ copy ++ drop (length copy) f → handed a after ≡ open_bundle width f b
  unfolding open_answer open_buffer require
  open_done e after is =
      let o = x.trial.openable in
      let left : copy ≡ take (length copy) (turns_buffer width f ops) = x.tried.left e ∙ turns.1 in
      let all_of_it : after ≡ turns_buffer width f ops =
      is ∙ ap (λ (t : List ℕ). copy ++ t) (sym turns.2) ∙ ap (λ (t : List ℕ). t ++ drop (length copy) (turns_buffer width f ops)) left
      ∙ take-append-drop (length copy) (turns_buffer width f ops) in
      rw (o.is_sound_so, o.is_whole, ← is_turns, if_accepted_law (turns_buffer width f ops) f a e) (ap (handed a) all_of_it)

---- the call

module _ (f b : List ℕ) where
  pub open_unsound : sound width f ≡ false → handed (refused 1) f ≡ open_bundle width f b
  unfolding open_answer open_buffer require
  open_unsound e = rw e

  module _ (s : sound width f ≡ true) where
    pub open_torn : whole_bundle width b ≡ false → handed (refused 12) f ≡ open_bundle width f b
    unfolding open_answer open_buffer require
    open_torn e = rw (s, e)

    pub open_asks : whole_bundle width b ≡ true → Openable f b
    open_asks e = record { is_sound_so = s; is_whole = e }

---- what the code of opening needs: search opening, and for its loop search taking

pub ruleset passing = (end_asks, body_sound, body_refused, body_passed)

pub ruleset taking = (rules, tested, body_sound, taken_starts, taken_refused, taken_on, taken_ends)

pub ruleset trying = (trial_some, trial_front, trial_fits, trial_head, trial_sound, trial_tried, trial_ended)

pub ruleset copying = (reach_all, reach_most, reach_small, open_trial, open_refused, open_fits, open_done)

pub ruleset opening = (rules, tested, passing, trying, copying, open_unsound, open_torn, open_asks)
