-- Ops of different replicas, each the next of its replica after one log, are delivered where that log lies, in any order: none is refused,
-- and then they are there.
use Prim.Native.Nat.{ℕ, ◌+◌, ◌*◌, ◌≤◌}
use borrow.Author.Tests.{le-leb, lt-leb}
use lib.ListN.{length}
use mathlib.Core.Bool.{Bool, true, false, not}
use mathlib.Core.List.{List, [], ◌∷◌, ◌++◌, append_assoc, append-nil, map}
use mathlib.Core.Logic.{⊎_elim}
use mathlib.Core.Path.{refl, sym, ap, ◌≡◌, ◌∙◌}
use native.Mathlib.Omega.{arith}
use Rattle.lists.specs.Lists.{concat, same}
use Rattle.lists.proofs.BoolLaws.{never, or_cases}
use Rattle.lists.proofs.FilterLaws.{filter_alike}
use Rattle.lists.proofs.ListLaws.{same_eq}
use Rattle.rules.specs.Answer.{Answer, had_it, unless_refused}
use Rattle.rules.specs.Bundle.{turns_answer, turns_buffer}
use Rattle.rules.specs.Deliver.{deliver_answer, deliver_buffer, is_held}
use Rattle.rules.specs.File.{Log, counts_of, file_end, log_of, op_at, width}
use Rattle.rules.specs.Op.{Op, count_in, replica_of, seq_of}
use Rattle.rules.specs.Sound.{sound}
use Rattle.rules.proofs.AppendLaws.{seq_positive}
use Rattle.rules.proofs.DeliverLaws.{admitted, appended_end, appended_length}
use Rattle.rules.proofs.InLaws.{OpIn}
use Rattle.rules.proofs.OfferLaws.{Offered, early, had, offered, short, taken}
use Rattle.rules.proofs.PutOutLaws.{NextOp}
use Rattle.rules.proofs.SoundLaws.{sound_good, sound_log, sound_wide}
use Rattle.rules.proofs.StructureLaws.{GoodLog, good_ops}
use Rattle.order.specs.Claims.{Distinct}
use Rattle.convergence.specs.Clash.{OnlyAdded}
use Rattle.convergence.specs.Exchange.{has, only_in}
use Rattle.convergence.proofs.AddedLaws.{new_extends, new_there, none_new}
use Rattle.convergence.proofs.ArriveLaws.{one_more}
use Rattle.convergence.proofs.HasLaws.{each_has, has_again, has_append, has_cases, has_head, has_last, has_none, has_old, has_right, has_tail, map_has, only_in_less, times_some}
use Rattle.tidy_up.specs.TidyUp.{Arrived}

-- of different replicas, one of each
one_each : (ops : List Op) → Distinct (map replica_of ops) → (r z : Op) → has ops r ≡ true → has ops z ≡ true
    → replica_of r ≡ replica_of z → r ≡ z
one_each [] d r z h i e = has_none r h
one_each (x ∷ ops) d r z h i e = ⊎_elim
    (λ (a : r ≡ x). ⊎_elim
    (λ (b : z ≡ x). a ∙ sym b)
    (λ (b : has ops z ≡ true). absurd (d.0 (rw (← a, e) (map_has replica_of ops z b))))
    (has_cases x ops z i))
    (λ (a : has ops r ≡ true). ⊎_elim
    (λ (b : z ≡ x). absurd (d.0 (rw (← b, ← e) (map_has replica_of ops r a))))
    (λ (b : has ops z ≡ true). one_each ops d.1 r z a b e)
    (has_cases x ops z i))
    (has_cases x ops r h)

---- one op

-- it was there
module _ (b : List ℕ) (is_sound_so : sound width b ≡ true) (r : Op) (i : OpIn (log_of width b) r) where
  abbrev held : Log
  held = log_of width b

  is_held_so : is_held held r ≡ true
  unfolding is_held
  is_held_so = le-leb (seq_of r) (count_in (counts_of held) (replica_of r)) i.here

  answered_had : deliver_answer width b r ≡ had_it
  answered_had = go refl (rw i.there at offer)
    where
      offer : Offered width b (op_at held (replica_of r) (seq_of r)) (deliver_answer width b (op_at held (replica_of r) (seq_of r)))
      offer = offered width held (sound_log width b is_sound_so) (sound_wide width b is_sound_so) b is_sound_so (λ s q l u lq uq h. refl)
          (replica_of r) (seq_of r) i.low i.high (seq_positive r) i.here

      go : {a : Answer} → deliver_answer width b r ≡ a → Offered width b r a → a ≡ had_it
      go e taken = never (sym (admitted width b r _ e).admits.new ∙ is_held_so)
      go e (had h) = refl
      go e (early n) =
          let x = good_ops (sound_good width b is_sound_so) (replica_of r) (seq_of r) i.low i.high (seq_positive r) i.here in
          never (sym n ∙ rw i.there at x.is_covered)
      go e (short n l) = never (sym n ∙ is_held_so)

---- all of them

module _ (f : List ℕ) (sound_f : sound width f ≡ true) (ops : List Op) (different : Distinct (map replica_of ops))
    (range : (r : Op) → has ops r ≡ true → (1 ≤ replica_of r) × (replica_of r ≤ 8))
    (next : (r : Op) → has ops r ≡ true → NextOp (log_of width f) (replica_of r) r) where
  -- the buffer b has some of them there, and room for the others
  record Underway (b : List ℕ) (there : List Op) : Type 0 where
    only : OnlyAdded f b there
    part : (z : Op) → has there z ≡ true → has ops z ≡ true
    room : file_end width b + width * length (only_in ops there) ≤ length b

  -- one of them is delivered
  record Goes (b : List ℕ) (there : List Op) (r : Op) : Type 0 where
    on : (a : Answer) → unless_refused (deliver_answer width b r) a ≡ a
    then : Underway (deliver_buffer width b r) (there ++ (r ∷ []))

  module _ (b : List ℕ) (there : List Op) (way : Underway b there) (r : Op) (is : has ops r ≡ true) where
    abbrev log : Log
    log = log_of width f

    good : GoodLog log
    good = sound_good width f sound_f

    good_b : GoodLog (log_of width b)
    good_b = sound_good width b way.only.is_sound_so

    part_more : (z : Op) → has (there ++ (r ∷ [])) z ≡ true → has ops z ≡ true
    part_more z e = ⊎_elim
        (λ (h : has there z ≡ true). way.part z h)
        (λ (h : same z r ≡ true). rw (same_eq z r h) is)
        (or_cases (has there z) (same z r) (sym (has_last there r z) ∙ e))

    -- it is there already
    module _ (h : has there r ≡ true) where
      same_ops : (z : Op) → has (there ++ (r ∷ [])) z ≡ has there z
      same_ops z = has_again there r z h

      still : Underway b (there ++ (r ∷ []))
      unfolding only_in
      still = record {
        only = record {
          is_sound_so = way.only.is_sound_so;
          ops = λ z. way.only.ops z ∙ rw (has_append there (concat log) z, has_append (there ++ (r ∷ [])) (concat log) z, same_ops z);
        };
        part = part_more;
        room = rw (filter_alike _ (λ z. not (has there z)) ops (each_has _ ops (λ z i. ap not (same_ops z)))) way.room;
      }

      goes_again : Goes b there r
      unfolding deliver_buffer unless_refused
      goes_again =
          let i = new_there log (log_of width b) good good_b there way.only.ops r h in
          let e = answered_had b way.only.is_sound_so r i in
          record { on = rw e (λ a. refl); then = rw e still }

    -- it is new
    module _ (h : has there r ≡ false) where
      alone : (z : Op) → has there z ≡ true → replica_of z ≡ replica_of r → ⊥
      alone z i e = never (sym h ∙ rw (one_each ops different z r (way.part z i) is e) at i)

      not_held : is_held (log_of width b) r ≡ false
      unfolding is_held
      not_held =
          let (l, u) = range r is in
          let same_count = none_new log (log_of width b) good good_b there way.only.ops (replica_of r) l u alone in
          lt-leb (seq_of r) (count_in (counts_of (log_of width b)) (replica_of r)) (omega (arith, (next r is).sequence))

      -- one less is to come
      fewer : length (only_in ops (there ++ (r ∷ []))) + 1 ≤ length (only_in ops there)
      fewer = omega (arith, only_in_less ops there r h, times_some ops r is)

      abbrev end : ℕ
      end = file_end width b + width

      goes_new : Goes b there r
      unfolding deliver_buffer unless_refused
      goes_new =
          let x = new_extends log (log_of width b) good good_b there way.only.ops in
          let fits : end ≤ length b = omega (arith, way.room, fewer) in
          let e = (next r is).accepted_by b way.only.is_sound_so x not_held fits in
          let a = admitted width b r end e in
          let new_end = appended_end width b r end a in
          let long = appended_length width b r end a in
          record {
            on = rw e (λ y. refl);
            then = rw e (record {
              only = one_more f b there way.only r end a;
              part = part_more;
              room = omega (arith, way.room, fewer);
            });
          }

    goes : Goes b there r
    goes = go (has there r) refl
      where
        go : (x : Bool) → has there r ≡ x → Goes b there r
        go true h = goes_again h
        go false h = goes_new h

  -- and one after another
  came : (coming : List Op) (b : List ℕ) (there : List Op) → Underway b there → ((z : Op) → has coming z ≡ true → has ops z ≡ true)
      → Arrived f b (there ++ coming) coming
  unfolding turns_answer turns_buffer
  came [] b there way h = record { taken = refl; only_added = rw (append-nil there) way.only }
  came (r ∷ coming) b there way h =
      let g = goes b there way r (h r (has_head r coming)) in
      let rest = came coming (deliver_buffer width b r) (there ++ (r ∷ [])) g.then (λ z i. h z (has_tail r coming z i)) in
      record { taken = g.on _ ∙ rest.taken; only_added = rw (append_assoc there (r ∷ []) coming) at rest.only_added }

  pub all_come : (b : List ℕ) (there coming : List Op) → OnlyAdded f b there
      → file_end width b + width * length (only_in ops there) ≤ length b
      → ((z : Op) → has (there ++ coming) z ≡ has ops z) → Arrived f b ops coming
  all_come b there coming only room all =
      let way : Underway b there = record { only = only; part = λ z h. sym (all z) ∙ has_old there coming z h; room = room } in
      let c = came coming b there way (λ z h. sym (all z) ∙ has_right there coming z h) in
      record {
        taken = c.taken;
        only_added = record {
          is_sound_so = c.only_added.is_sound_so;
          ops = λ z. c.only_added.ops z
              ∙ rw (has_append (there ++ coming) (concat (log_of width f)) z, has_append ops (concat (log_of width f)) z, all z);
        };
      }
