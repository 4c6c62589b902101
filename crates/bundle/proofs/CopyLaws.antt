-- The copy in which a bundle's bodies are tried: deliveries to the front of a buffer are answered as those to the whole, and leave
-- its front.
use Prim.Native.Nat.{ℕ, ◌+◌, ◌≤◌, ◌<◌}
use borrow.Author.Tests.{le-leb, leb-false}
use lib.Dec.{leb, eqb}
use lib.ListN.{length, take, drop, take-append-drop}
use lib.Seq.{drop-append-le, take_at}
use mathlib.Core.Bool.{Bool, true, false, cond}
use mathlib.Core.List.{List, [], ◌∷◌, ◌++◌, append_assoc}
use mathlib.Core.Logic.{⊎_elim}
use mathlib.Core.Path.{◌≡◌, refl, sym, ap, ◌∙◌}
use native.Mathlib.Omega.{arith}
use Rattle.lists.proofs.ListLaws.{drop_past}
use Rattle.rules.specs.Answer.{Answer, refused, had_it, waiting, done, accepted, require, if_accepted}
use Rattle.rules.specs.Bundle.{turns_answer, turns_buffer}
use Rattle.rules.specs.Deliver.{admit_answer, deliver_answer, deliver_buffer, held_answer, is_held}
use Rattle.rules.specs.File.{append, appended, counts_of, file_end, file_of, largest, log_of}
use Rattle.rules.specs.Log.{closed, covered, names_known}
use Rattle.rules.specs.Op.{Op, Vector, count_in, replica_of, seq_of, vector_of, well_formed}
use Rattle.rules.specs.Sound.{sound}
use Rattle.rules.proofs.AppendLaws.{replica_formed}
use Rattle.rules.proofs.CausalLaws.{end_room}
use Rattle.rules.proofs.DeliverLaws.{admitted, appended_end, appended_length, appended_past, appended_sound}
use Rattle.rules.proofs.FileLaws.{counts_log_of}
use Rattle.rules.proofs.IssueLaws.{counts_eight}
use Rattle.rules.proofs.SoundLaws.{sound_good}
use Rattle.bundle.specs.Opening.{Reaches}
use Rattle.rules.proofs.FrontLaws.{end_front, front_length, log_front, sound_front}

-- test 8 counts only for an op that is well formed and not held
tests_alike : (l a b : Bool) (held : Answer) (next : Bool → Answer) (t u : Bool) → (a ≡ true → b ≡ false → t ≡ u)
    → require l 2 (require a 3 (cond b held (next t))) ≡ require l 2 (require a 3 (cond b held (next u)))
unfolding require
tests_alike l true true held next t u h = refl
tests_alike l true false held next t u h = ap (λ (k : Bool). require l 2 (next k)) (h refl refl)
tests_alike l false b held next t u h = refl

---- a front that reaches as far as a file can

module _ (w n : ℕ) (f : List ℕ) (x : Reaches w n f) (r : Op) where
  -- a log that lacks a well-formed op is not full
  not_full : well_formed r ≡ true → is_held (log_of w f) r ≡ false → file_end w f + w ≤ largest w
  unfolding is_held file_end seq_of
  not_full formed e =
      let i = replica_formed r formed in
      let good = sound_good w f x.is_sound_so in
      let v : Vector = counts_of (log_of w f) in
      let s : ℕ = replica_of r in
      let lacks : count_in v s < seq_of r = leb-false (seq_of r) (count_in v s) e in
      rw (counts_log_of w f) at (end_room w v (counts_eight (log_of w f) good) good.counts s i.0 i.1 (omega (arith, i.2)))

  room_alike : well_formed r ≡ true → is_held (log_of w f) r ≡ false → leb (file_end w f + w) n ≡ leb (file_end w f + w) (length f)
  room_alike formed e = ⊎_elim
      (λ (z : n ≡ length f). rw z)
      (λ (z : largest w ≤ n).
      let fits = not_full formed e in
      le-leb (file_end w f + w) n (omega arith) ∙ sym (le-leb (file_end w f + w) (length f) (omega (arith, x.short))))
      x.enough

  abbrev front : List ℕ
  front = take n f

  is_front : (sound w front ≡ true) × (log_of w front ≡ log_of w f) × (file_end w front ≡ file_end w f) × (length front ≡ n)
  is_front = (
    sound_front w n f x.inside x.short x.is_sound_so,
    log_front w n f x.inside,
    end_front w n f x.inside,
    front_length w n f x.inside x.short x.is_sound_so,
  )

  deliver_part : deliver_answer w front r ≡ deliver_answer w f r
  unfolding deliver_answer admit_answer require
  deliver_part =
      rw (is_front.0, x.is_sound_so, is_front.1, is_front.2, is_front.3)
      (tests_alike (eqb (length r) w) (well_formed r) (is_held (log_of w f) r) (held_answer (log_of w f) r)
      (λ t. require (covered (log_of w f) (vector_of r)) 5 (require (closed (log_of w f) (vector_of r)) 6
      (require (names_known (log_of w f) r) 7 (require t 8 (accepted (file_end w f + w)))))) _ _ room_alike)

  split_front : file_end w f + w ≤ n → appended w f r ≡ appended w front r ++ drop n f
  unfolding appended
  split_front room =
      let file : List ℕ = file_of w (append (log_of w f) r) in
      let end : ℕ = file_end w f + w in
      let past : drop end f ≡ drop end front ++ drop n f =
      ap (drop end) (sym (take-append-drop n f)) ∙ drop-append-le end front (drop n f) (rw is_front.3 room) in
      rw (is_front.1, is_front.2) (ap (λ (t : List ℕ). file ++ t) past ∙ sym (append_assoc file (drop end front) (drop n f)))

  -- what the delivery leaves
  record Delivered (a : Answer) : Type 0 where
    reaches : Reaches w n (if_accepted a (appended w f r) f)
    same_front : if_accepted a (appended w front r) front ≡ take n (if_accepted a (appended w f r) f)
    same_past : drop n (if_accepted a (appended w f r) f) ≡ drop n f

  delivered_part : (a : Answer) → deliver_answer w f r ≡ a → Delivered a
  delivered_part (refused k) e = record { reaches = x; same_front = refl; same_past = refl }
  delivered_part had_it e = record { reaches = x; same_front = refl; same_past = refl }
  delivered_part waiting e = record { reaches = x; same_front = refl; same_past = refl }
  delivered_part done e = record { reaches = x; same_front = refl; same_past = refl }
  delivered_part (accepted k) e =
      let h = admitted w f r k e in
      let g = admitted w front r k (deliver_part ∙ e) in
      let room : file_end w f + w ≤ n = omega (arith, g.room, is_front.2, is_front.3) in
      record {
        reaches = record {
          is_sound_so = appended_sound w f r k h;
          inside = rw (appended_end w f r k h) room;
          short = rw (appended_length w f r k h) x.short;
          enough = rw (appended_length w f r k h) x.enough;
        };
        same_front =
            sym (ap (take n) (split_front room)
            ∙ take_at (appended w front r) (drop n f) n (appended_length w front r k g ∙ is_front.3));
        same_past = drop_past (appended w f r) f (file_end w f + w) n room (appended_past w f r k h);
      }

  after : Reaches w n (deliver_buffer w f r)
  unfolding deliver_buffer
  after = (delivered_part (deliver_answer w f r) refl).reaches

  front_after : deliver_buffer w front r ≡ take n (deliver_buffer w f r)
  unfolding deliver_buffer
  front_after = rw deliver_part (delivered_part (deliver_answer w f r) refl).same_front

  past_after : drop n (deliver_buffer w f r) ≡ drop n f
  unfolding deliver_buffer
  past_after = (delivered_part (deliver_answer w f r) refl).same_past

-- ops in turn
pub turns_part : (w n : ℕ) (rs : List Op) (f : List ℕ) → Reaches w n f
    → (turns_answer w (take n f) rs ≡ turns_answer w f rs) × (turns_buffer w (take n f) rs ≡ take n (turns_buffer w f rs))
    × (drop n (turns_buffer w f rs) ≡ drop n f)
unfolding turns_answer turns_buffer
turns_part w n [] f x = (ap accepted (end_front w n f x.inside), refl, refl)
turns_part w n (r ∷ rs) f x =
    let step : deliver_buffer w (take n f) r ≡ take n (deliver_buffer w f r) = front_after w n f x r in
    let rest = turns_part w n rs (deliver_buffer w f r) (after w n f x r) in (
      rw (deliver_part w n f x r, step, rest.0),
      ap (λ (g : List ℕ). turns_buffer w g rs) step ∙ rest.1,
      rest.2 ∙ past_after w n f x r,
    )
