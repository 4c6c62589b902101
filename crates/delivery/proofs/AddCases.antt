-- The last test of an op, and its addition.
use borrow.Author.Rules.{rules}
use Rattle.delivery.specs.Adding.{Acceptable, last_test, room_test}
use Rattle.rules.specs.Answer.{accepted, refused, require}
use Rattle.rules.specs.File.{append, appended, chunks, count_at, file_end, header_counts, start_of, width}
use Rattle.oplog.proofs.FieldLaws.{counts_in}
use Rattle.oplog.proofs.HeaderLaws.{end_is}
use Rattle.soundness.proofs.SoundCases.{laid_of}
use Rattle.rules.proofs.ReplicaLaws.{replica_high, replica_low}
use Rattle.rules.proofs.DeliverLaws.{required}
use Rattle.rules.specs.Sound.{sound}
use Rattle.rules.proofs.SoundLaws.{sound_laid}
use Rattle.lists.proofs.BoolLaws.{tested}
use mathlib.Core.List.{List}
use Prim.Native.Nat.{◌+◌, ◌<◌, ◌≤◌, ℕ}
use mathlib.Core.Path.{◌∙◌, ◌≡◌, sym}
use native.Mathlib.Omega.{arith}
use borrow.Author.Tests.{le-leb, leb-true, lt-leb}
use lib.ListN.{length}
use lib.Seq.{take_all}
use mathlib.Core.Bool.{true}
use Rattle.oplog.specs.Append.{Appendable, append_all, appended_all}
use Rattle.rules.specs.Op.{Vector}

---- the last test; e is where the file ends

module _ (f : List ℕ) (e : ℕ) (is : e ≡ start_of width (header_counts f) 9) where
  end_by : e ≡ file_end width f
  end_by = is ∙ end_is width f

  pub end_small : sound width f ≡ true → e ≤ length f
  end_small a = rw end_by (sound_laid width f a).fits

  pub no_room : length f < e + width → refused 8 ≡ last_test f
  unfolding last_test room_test require
  no_room h = rw (← end_by, lt-leb (e + width) (length f) h)

  pub room_for : e + width ≤ length f → accepted (e + width) ≡ last_test f
  unfolding last_test room_test require
  room_for h = rw (← end_by, le-leb (e + width) (length f) h)

pub has_room : (f : List ℕ) (n : ℕ) → accepted n ≡ last_test f → file_end width f + width ≤ length f
unfolding last_test room_test
has_room f n is = leb-true _ _ (required _ _ _ n (sym is)).0

---- an op that is added; r is its replica, widened

module _ (f : List ℕ) (v : Vector) (s : ℕ) (op : List ℕ) (a : Acceptable f v s op) (r : ℕ) (e : r ≡ s) where
  pub append_asks : Appendable width f v r op 1
  append_asks =
      let l = replica_low s a.is_replica_so in
      let u = replica_high s a.is_replica_so in
      let n : count_at f s < 255 = rw (← counts_in width f s l u) a.count in
      record {
        wide = omega arith;
        narrow = omega arith;
        is_laid = laid_of f a.is_sound_so;
        held = a.held;
        low = omega arith;
        high = omega arith;
        below = rw e (omega arith);
        long = omega (arith, a.long);
        room = omega (arith, a.room);
      }

  pub added_one : (b : List ℕ) → b ≡ appended_all width f r (chunks width 1 op) → b ≡ appended width f op
  unfolding appended_all append_all appended append chunks
  added_one b is = is ∙ rw (take_all width op (omega (arith, a.long)), e, a.origin)

---- what the code of adding needs: search adding
pub ruleset adding = (rules, tested, end_small, no_room, room_for, append_asks, added_one)
