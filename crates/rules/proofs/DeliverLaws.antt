-- Laws of delivering: what acceptance says, and that an accepted op leaves a sound log.
use mathlib.Core.Path.{◌≡◌, refl, sym, ◌∙◌}
use mathlib.Core.Bool.{Bool, true, false, cond}
use mathlib.Core.List.{List, ◌++◌}
use Prim.Native.Nat.{ℕ, ◌+◌, ◌≤◌}
use native.Mathlib.Nat.{mul-add, mul-one}
use native.Mathlib.Omega.{arith}
use borrow.Author.Tests.{leb-true, eqb-true, le-leb, eq-eqb}
use lib.ListN.{length, drop, length-append, length-drop}
use lib.Seq.{drop_at}
use Rattle.lists.proofs.BoolLaws.{never}
use Rattle.rules.specs.Op.{Op}
use Rattle.rules.specs.File.{Log, counts_of, append, end_of, file_end, log_of, file_of, appended}
use Rattle.rules.specs.Answer.{Answer, refused, had_it, waiting, done, accepted, require, if_accepted}
use Rattle.rules.specs.Deliver.{admit_answer, is_held, held_answer, deliver_answer, deliver_buffer}
use Rattle.rules.specs.Sound.{sound}
use Rattle.rules.proofs.FileLaws.{InFront, WideLog, log_of_file_of, file_end_law, length_file, counts_log_of}
use Rattle.rules.proofs.AppendLaws.{wide_append, Admits, in_range, sum_append}
use Rattle.rules.proofs.StructureLaws.{GoodLog}
use Rattle.rules.proofs.SoundLaws.{sound_file, sound_wide, sound_good, SoundLog, sound_append, sound_log}

---- what acceptance says

pub required : (t : Bool) (k : ℕ) (a : Answer) (n : ℕ) → require t k a ≡ accepted n → (t ≡ true) × (a ≡ accepted n)
unfolding require
required true k a n e = (refl, e)
required false k a n e = let z : ◌≡◌ {A = ℕ} 0 1 = cc in absurd (omega arith)

pub accepted_same : (m n : ℕ) → accepted m ≡ accepted n → m ≡ n
accepted_same m n e = cc

-- what a call leaves that was not accepted
pub if_not : {A : Type 0} (a : Answer) (new old : A) → if_accepted a true false ≡ false → if_accepted a new old ≡ old
if_not (refused n) new old e = refl
if_not had_it new old e = refl
if_not waiting new old e = refl
if_not done new old e = refl
if_not (accepted n) new old e = never (sym e)

-- an answer about a held op is no acceptance
not_had : (log : Log) (r : Op) (n : ℕ) → held_answer log r ≡ accepted n → ⊥
unfolding held_answer
not_had log r n e = let q = (required _ _ _ n e).1 in let z : ◌≡◌ {A = ℕ} 0 1 = cc in omega arith

fresh : (b : Bool) (log : Log) (r : Op) (a : Answer) (n : ℕ) → cond b (held_answer log r) a ≡ accepted n → (b ≡ false) × (a ≡ accepted n)
fresh true log r a n e = absurd (not_had log r n e)
fresh false log r a n e = (refl, e)

pub record Admitted (w : ℕ) (f : List ℕ) (r : Op) (n : ℕ) : Type 0 where
  pub is_sound_so : sound w f ≡ true
  pub long : length r ≡ w
  pub admits : Admits (log_of w f) r
  pub room : file_end w f + w ≤ length f
  pub end : file_end w f + w ≡ n

pub admitted : (w : ℕ) (f : List ℕ) (r : Op) (n : ℕ) → deliver_answer w f r ≡ accepted n → Admitted w f r n
unfolding deliver_answer admit_answer
admitted w f r n e =
    let s = required _ _ _ n e in
    let l = required _ _ _ n s.1 in
    let m = required _ _ _ n l.1 in
    let h = fresh (is_held (log_of w f) r) _ _ _ n m.1 in
    let c = required _ _ _ n h.1 in
    let d = required _ _ _ n c.1 in
    let k = required _ _ _ n d.1 in
    let o = required _ _ _ n k.1 in
    record {
      is_sound_so = s.0;
      long = eqb-true _ _ l.0;
      admits = record { formed = m.0; new = h.0; is_covered = c.0; is_closed = d.0; names = k.0 };
      room = leb-true _ _ o.0;
      end = accepted_same _ n o.1;
    }

-- and back: what all tests let through is accepted
pub delivered : (w : ℕ) (f : List ℕ) (r : Op) (n : ℕ) → Admitted w f r n → deliver_answer w f r ≡ accepted n
unfolding deliver_answer admit_answer require
delivered w f r n h =
    rw (
      h.is_sound_so,
      eq-eqb (length r) w h.long,
      h.admits.formed,
      h.admits.new,
      h.admits.is_covered,
      h.admits.is_closed,
      h.admits.names,
      le-leb _ _ h.room,
      h.end,
    )

---- a delivery is never done, and never waits

module _ (x : Answer) (never_refused : (k : ℕ) → refused k ≡ x → ⊥) where
  not_required : (t : Bool) (k : ℕ) (a : Answer) → (a ≡ x → ⊥) → require t k a ≡ x → ⊥
  unfolding require
  not_required true k a h e = h e
  not_required false k a h e = never_refused k e

  never_else : (had_it ≡ x → ⊥) → ((n : ℕ) → accepted n ≡ x → ⊥) → (w : ℕ) (f : List ℕ) (r : Op) → deliver_answer w f r ≡ x → ⊥
  unfolding deliver_answer held_answer admit_answer
  never_else had took w f r =
      not_required _ _ _ (not_required _ _ _ (not_required _ _ _ (go (is_held (log_of w f) r))))
    where
      go : (b : Bool) → cond b (held_answer (log_of w f) r) (admit_answer w f r) ≡ x → ⊥
      go true = not_required _ _ _ had
      go false = not_required _ _ _ (not_required _ _ _ (not_required _ _ _ (not_required _ _ _ (took _))))

pub never_done : (w : ℕ) (f : List ℕ) (r : Op) → deliver_answer w f r ≡ done → ⊥
never_done =
    never_else done (λ k e. let z : ◌≡◌ {A = ℕ} 0 1 = cc in omega arith) (λ e. let z : ◌≡◌ {A = ℕ} 0 1 = cc in omega arith)
    (λ n e. let z : ◌≡◌ {A = ℕ} 0 1 = cc in omega arith)

pub never_waiting : (w : ℕ) (f : List ℕ) (r : Op) → deliver_answer w f r ≡ waiting → ⊥
never_waiting =
    never_else waiting (λ k e. let z : ◌≡◌ {A = ℕ} 0 1 = cc in omega arith) (λ e. let z : ◌≡◌ {A = ℕ} 0 1 = cc in omega arith)
    (λ n e. let z : ◌≡◌ {A = ℕ} 0 1 = cc in omega arith)

---- an accepted op leaves a sound log

module _ (w : ℕ) (f : List ℕ) (r : Op) (n : ℕ) (h : Admitted w f r n) where
  abbrev old : Log
  old = log_of w f

  abbrev rest : List ℕ
  rest = drop (file_end w f + w) f

  good_old : GoodLog old
  good_old = sound_good w f h.is_sound_so

  pub sound_new : SoundLog (append old r)
  sound_new = sound_append old r (sound_log w f h.is_sound_so) h.admits

  wide_new : WideLog w (append old r)
  wide_new = wide_append w old r (sound_wide w f h.is_sound_so) h.long

  -- the log of the new buffer, and its file end
  pub appended_log : log_of w (appended w f r) ≡ append old r
  unfolding appended
  appended_log = log_of_file_of w (append old r) rest sound_new.good.eight wide_new

  end_new : end_of w (counts_of (append old r)) ≡ file_end w f + w
  unfolding end_of file_end
  end_new =
      let i = in_range old r good_old h.admits in
      rw (sum_append old r good_old.eight i.0 i.1, counts_log_of, mul-add) (omega (arith, mul-one w))

  pub appended_end : file_end w (appended w f r) ≡ file_end w f + w
  unfolding appended
  appended_end = file_end_law w (append old r) rest sound_new.good.eight ∙ end_new

  pub appended_length : length (appended w f r) ≡ length f
  unfolding appended
  appended_length =
      rw (length-append, length_file w (append old r) wide_new, end_new, length-drop) (omega (arith, h.room))

  -- what lies past the new end stays
  pub appended_past : drop (file_end w f + w) (appended w f r) ≡ rest
  unfolding appended
  appended_past = drop_at (file_of w (append old r)) rest _ (length_file w (append old r) wide_new ∙ end_new)

  appended_split : appended w f r ≡ file_of w (append old r) ++ rest
  unfolding appended
  appended_split = refl

  pub appended_front : InFront w (appended w f r)
  appended_front = rw (appended_log, appended_end, appended_past) appended_split

  pub appended_sound : sound w (appended w f r) ≡ true
  unfolding appended
  appended_sound = sound_file w (append old r) rest sound_new wide_new

---- a delivery, whatever is answered

module _ (w : ℕ) (f : List ℕ) (r : Op) where
  pub deliver_sound : sound w f ≡ true → sound w (deliver_buffer w f r) ≡ true
  unfolding deliver_buffer
  deliver_sound s = go (deliver_answer w f r) refl
    where
      go : (a : Answer) → deliver_answer w f r ≡ a → sound w (if_accepted a (appended w f r) f) ≡ true
      go (refused n) e = s
      go had_it e = s
      go waiting e = s
      go done e = s
      go (accepted n) e = appended_sound w f r n (admitted w f r n e)

  pub deliver_length : length (deliver_buffer w f r) ≡ length f
  unfolding deliver_buffer
  deliver_length = go (deliver_answer w f r) refl
    where
      go : (a : Answer) → deliver_answer w f r ≡ a → length (if_accepted a (appended w f r) f) ≡ length f
      go (refused n) e = refl
      go had_it e = refl
      go waiting e = refl
      go done e = refl
      go (accepted n) e = appended_length w f r n (admitted w f r n e)
