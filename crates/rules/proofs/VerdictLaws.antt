-- What each answer of a delivery to a sound buffer says.
use mathlib.Core.Path.{◌≡◌, refl}
use mathlib.Core.Bool.{Bool, true, false, cond}
use mathlib.Core.List.{List}
use Prim.Native.Nat.{ℕ, ◌+◌, ◌≤◌, ◌<◌}
use native.Mathlib.Omega.{arith}
use borrow.Author.Tests.{leb-true, leb-false, eqb-true, eqb-false}
use lib.ListN.{length}
use lib.Dec.{leb, eqb}
use Rattle.lists.specs.Lists.{same}
use Rattle.rules.specs.Op.{Op, Vector, count_in, vector_of, replica_of, seq_of, well_formed}
use Rattle.rules.specs.File.{Log, op_at, counts_of, end_of, file_end, header_counts, largest, log_of}
use Rattle.rules.specs.Log.{covered, closed, names_known}
use Rattle.rules.specs.Answer.{Answer, refused, had_it, accepted, require}
use Rattle.rules.specs.Deliver.{admit_answer, is_held, held_answer, deliver_answer}
use Rattle.rules.specs.Sound.{sound}
use Rattle.rules.proofs.AppendLaws.{Admits, in_range, own_next}
use Rattle.rules.proofs.CausalLaws.{end_room}
use Rattle.rules.proofs.DeliverLaws.{Admitted}
use Rattle.rules.proofs.FileLaws.{counts_log_of, length_counts}
use Rattle.rules.proofs.SoundLaws.{sound_good}
use Rattle.rules.proofs.StructureLaws.{count_held}

pub data Verdict (w : ℕ) (f : List ℕ) (r : Op) : Answer → Type 0 where
  short : (length r ≡ w → ⊥) → Verdict w f r (refused 2)
  unformed : well_formed r ≡ false → Verdict w f r (refused 3)
  rival : is_held (log_of w f) r ≡ true → Verdict w f r (refused 4)
  had : is_held (log_of w f) r ≡ true → Verdict w f r had_it
  early : length r ≡ w → well_formed r ≡ true → covered (log_of w f) (vector_of r) ≡ false → Verdict w f r (refused 5)
  torn : covered (log_of w f) (vector_of r) ≡ true → closed (log_of w f) (vector_of r) ≡ false → Verdict w f r (refused 6)
  unknown : covered (log_of w f) (vector_of r) ≡ true → names_known (log_of w f) r ≡ false → Verdict w f r (refused 7)
  full : length r ≡ w → Admits (log_of w f) r → length f < file_end w f + w → Verdict w f r (refused 8)
  taken : {n : ℕ} → Admitted w f r n → Verdict w f r (accepted n)

module _ (w : ℕ) (f : List ℕ) (r : Op) (s : sound w f ≡ true) where
  pub verdict : Verdict w f r (deliver_answer w f r)
  unfolding deliver_answer admit_answer held_answer require
  verdict = rw s (long (eqb (length r) w) refl)
    where
      log : Log
      log = log_of w f

      room : (b : Bool) → leb (file_end w f + w) (length f) ≡ b → length r ≡ w → Admits log r
          → Verdict w f r (require b 8 (accepted (file_end w f + w)))
      room true e l a = taken (record { is_sound_so = s; long = l; admits = a; room = leb-true _ _ e; end = refl })
      room false e l a = full l a (leb-false _ _ e)

      admit : (a b c : Bool) → covered log (vector_of r) ≡ a → closed log (vector_of r) ≡ b → names_known log r ≡ c → length r ≡ w
          → well_formed r ≡ true → is_held log r ≡ false
          → Verdict w f r
          (require a 5 (require b 6 (require c 7 (require (leb (file_end w f + w) (length f)) 8 (accepted (file_end w f + w))))))
      admit false b c ea eb ec l m h = early l m ea
      admit true false c ea eb ec l m h = torn ea eb
      admit true true false ea eb ec l m h = unknown ea ec
      admit true true true ea eb ec l m h =
          room (leb (file_end w f + w) (length f)) refl l
          (record { formed = m; new = h; is_covered = ea; is_closed = eb; names = ec })

      holds : (b : Bool) → is_held log r ≡ true → Verdict w f r (require b 4 had_it)
      holds true h = had h
      holds false h = rival h

      fresh : (b : Bool) → is_held log r ≡ b → length r ≡ w → well_formed r ≡ true
          → Verdict w f r (cond b (held_answer log r) (admit_answer w f r))
      fresh true e l m = holds (same r (op_at log (replica_of r) (seq_of r))) e
      fresh false e l m = admit (covered log (vector_of r)) (closed log (vector_of r)) (names_known log r) refl refl refl l m e

      formed : (b : Bool) → well_formed r ≡ b → length r ≡ w
          → Verdict w f r (require b 3 (cond (is_held log r) (held_answer log r) (admit_answer w f r)))
      formed true e l = fresh (is_held log r) refl l e
      formed false e l = unformed e

      long : (b : Bool) → eqb (length r) w ≡ b
          → Verdict w f r (require b 2 (require (well_formed r) 3 (cond (is_held log r) (held_answer log r) (admit_answer w f r))))
      long true e = formed (well_formed r) refl (eqb-true _ _ e)
      long false e = short (eqb-false _ _ e)

  -- an op that is refused as early has an op's length
  pub early_long : deliver_answer w f r ≡ refused 5 → length r ≡ w
  early_long e = go refl verdict
    where
      go : {a : Answer} → deliver_answer w f r ≡ a → Verdict w f r a → length r ≡ w
      go q (short h) = let z : ◌≡◌ {A = ℕ} 2 5 = cc in absurd (omega arith)
      go q (unformed h) = let z : ◌≡◌ {A = ℕ} 3 5 = cc in absurd (omega arith)
      go q (rival h) = let z : ◌≡◌ {A = ℕ} 4 5 = cc in absurd (omega arith)
      go q (had h) = let z : ◌≡◌ {A = ℕ} 0 1 = cc in absurd (omega arith)
      go q (early l m h) = l
      go q (torn c h) = let z : ◌≡◌ {A = ℕ} 6 5 = cc in absurd (omega arith)
      go q (unknown c h) = let z : ◌≡◌ {A = ℕ} 7 5 = cc in absurd (omega arith)
      go q (full l a h) = l
      go q (taken h) = h.long

  -- in a buffer for all ops there is room for one that the log admits
  pub admits_room : largest w ≤ length f → Admits (log_of w f) r → file_end w f + w ≤ length f
  unfolding file_end
  admits_room big a =
      let g = sound_good w f s in
      let i = in_range (log_of w f) r g a in
      let held : Vector = counts_of (log_of w f) in
      let few : count_in held (replica_of r) < 255 = omega (arith, i.2, own_next (log_of w f) r g a, count_held (log_of w f) (replica_of r)) in
      let eight : length held ≡ 8 = rw (counts_log_of w f) (length_counts f) in
      let fits : end_of w (header_counts f) + w ≤ largest w =
      rw (← counts_log_of w f) (end_room w held eight g.counts (replica_of r) i.0 i.1 few) in
      omega arith
