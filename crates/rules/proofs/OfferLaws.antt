-- Offering an op of one log to a buffer whose log agrees with it: the answer is acceptance, "had it", 5, or 8 for want of room.
use mathlib.Core.Path.{◌≡◌, refl}
use mathlib.Core.Bool.{Bool, true, false, cond}
use mathlib.Core.List.{List}
use Prim.Native.Nat.{ℕ, ◌+◌, ◌-◌, ◌≤◌, ◌<◌}
use native.Mathlib.Omega.{arith}
use borrow.Author.Tests.{leb-true, leb-false, eq-eqb}
use lib.ListN.{length}
use lib.Dec.{leb}
use Rattle.rules.specs.Op.{Op, count_in, replica_of, vector_of, seq_of}
use Rattle.rules.specs.File.{Log, ops_of, op_at, counts_of, file_end, log_of, Agree}
use Rattle.rules.specs.Log.{covered}
use Rattle.rules.specs.Answer.{Answer, refused, had_it, accepted, require}
use Rattle.rules.specs.Deliver.{admit_answer, is_held, held_answer, deliver_answer}
use Rattle.rules.specs.Sound.{sound}
use Rattle.rules.proofs.FileLaws.{WideLog, wide_at, wide_op}
use Rattle.rules.proofs.AppendLaws.{SameWithin, closed_more, names_more}
use Rattle.lists.proofs.ListLaws.{same_refl}
use Rattle.rules.proofs.StructureLaws.{count_held, held_in, HeldOp, good_ops}
use Rattle.rules.proofs.SoundLaws.{SoundLog}

-- what an op of a log is answered at a buffer g whose log agrees with it
pub data Offered (w : ℕ) (g : List ℕ) (r : Op) : Answer → Type 0 where
  taken : Offered w g r (accepted (file_end w g + w))
  had : is_held (log_of w g) r ≡ true → Offered w g r had_it
  early : covered (log_of w g) (vector_of r) ≡ false → Offered w g r (refused 5)
  short : is_held (log_of w g) r ≡ false → length g < file_end w g + w → Offered w g r (refused 8)

-- an op of the log u is offered to the buffer g, whose log agrees with u
module _ (w : ℕ) (u : Log) (su : SoundLog u) (wu : WideLog w u) (g : List ℕ) (sg : sound w g ≡ true) (ag : Agree u (log_of w g)) (s q : ℕ)
    (l : 1 ≤ s) (h : s ≤ 8) (lq : 1 ≤ q) (uq : q ≤ count_in (counts_of u) s) where
  abbrev r : Op
  r = op_at u s q

  x : HeldOp u s q r
  x = good_ops su.good s q l h lq uq

  long : length r ≡ w
  unfolding op_at ops_of
  long = wide_op w (ops_of u s) (q - 1) (wide_at w u (s - 1) wu) (omega (arith, count_held u s))

  is_held_so : is_held (log_of w g) r ≡ true → held_answer (log_of w g) r ≡ had_it
  unfolding is_held held_answer require
  is_held_so e =
      let m : q ≤ count_in (counts_of (log_of w g)) s = rw (x.origin, x.number) at
      (leb-true (seq_of r) (count_in (counts_of (log_of w g)) (replica_of r)) e) in
      rw (x.origin, x.number, ag s q l h lq uq m, same_refl)

  pub offered : Offered w g r (deliver_answer w g r)
  unfolding deliver_answer admit_answer require
  offered =
      rw (sg, eq-eqb (length r) w long, x.formed) (go (is_held (log_of w g) r) refl)
    where
      fit : (b : Bool) → leb (file_end w g + w) (length g) ≡ b → is_held (log_of w g) r ≡ false
          → Offered w g r (require b 8 (accepted (file_end w g + w)))
      fit true e n = taken
      fit false e n = short n (leb-false _ _ e)

      admit : (b : Bool) → covered (log_of w g) (vector_of r) ≡ b → is_held (log_of w g) r ≡ false → Offered w g r (admit_answer w g r)
      admit false e n = rw e (early e)
      admit true e n =
          let sw : SameWithin u (log_of w g) (vector_of r) =
          λ t k lt ut lk uk. ag t k lt ut lk (omega (arith, held_in u (vector_of r) x.is_covered t lt ut))
          (omega (arith, held_in (log_of w g) (vector_of r) e t lt ut)) in
          rw (e, closed_more u (log_of w g) (vector_of r) sw, x.is_closed, names_more u (log_of w g) r sw, x.names)
          (fit (leb (file_end w g + w) (length g)) refl n)

      go : (b : Bool) → is_held (log_of w g) r ≡ b → Offered w g r (cond b (held_answer (log_of w g) r) (admit_answer w g r))
      go true e = rw (is_held_so e) (had e)
      go false e = admit (covered (log_of w g) (vector_of r)) refl e
