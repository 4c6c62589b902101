-- What issuing puts out: the issued op, and where it is accepted.
use lib.Seq.{take_at}
use mathlib.Core.Path.{◌≡◌, refl}
use mathlib.Core.Bool.{true, false}
use mathlib.Core.List.{List}
use Prim.Native.Nat.{ℕ, ◌+◌, ◌≤◌}
use lib.ListN.{length, take, drop}
use Rattle.rules.specs.Answer.{accepted}
use Rattle.rules.specs.Op.{Op, count_in, replica_of, seq_of, own_count, vector_of}
use Rattle.rules.specs.File.{Log, Extends, log_of, counts_of, file_end, width}
use Rattle.rules.specs.Sound.{sound}
use Rattle.rules.specs.Deliver.{is_held, deliver_answer}
use Rattle.rules.specs.Issue.{Request, add, remove, move, op_bytes, issued, issue_answer, issue_out}
use Rattle.rules.proofs.AppendLaws.{admits_more}
use Rattle.rules.proofs.DeliverLaws.{delivered}
use Rattle.rules.proofs.IssueLaws.{counts_eight, issue_admitted, bytes_vector}
use Rattle.rules.proofs.SoundLaws.{sound_good}
use Rattle.rules.proofs.StructureLaws.{GoodLog}

pub issued_origin : (log : Log) (s : ℕ) (q : Request) → replica_of (issued log s q) ≡ s
unfolding issued op_bytes replica_of
issued_origin log s (add p) = refl
issued_origin log s (remove n) = refl
issued_origin log s (move n p) = refl

pub issued_vector : (log : Log) → GoodLog log → (s : ℕ) (q : Request) → vector_of (issued log s q) ≡ counts_of log
unfolding issued
issued_vector log g s (add p) = bytes_vector _ s _ _ (counts_of log) (counts_eight log g)
issued_vector log g s (remove n) = bytes_vector _ s _ _ (counts_of log) (counts_eight log g)
issued_vector log g s (move n p) = bytes_vector _ s _ _ (counts_of log) (counts_eight log g)

-- the bytes r are an op of replica s, its next one after a log, which every sound log takes that holds all of that
-- log, and not the op, where there is room
pub record NextOp (log : Log) (s : ℕ) (r : Op) : Type 0 where
  pub origin : replica_of r ≡ s
  pub sequence : seq_of r ≡ count_in (counts_of log) s + 1
  pub accepted_by : (g : List ℕ) → sound width g ≡ true → Extends log (log_of width g) → is_held (log_of width g) r ≡ false
      → file_end width g + width ≤ length g → deliver_answer width g r ≡ accepted (file_end width g + width)

module _ (f out : List ℕ) (s : ℕ) (q : Request) (n : ℕ) (e : issue_answer width f (length out) s q ≡ accepted n) where
  abbrev log : Log
  log = log_of width f

  pub put_out_law : take width (issue_out width f out s q) ≡ issued log s q
  unfolding issue_out
  put_out_law = rw (e, take_at (issued log s q) (drop width out) width (issue_admitted f (length out) s q n e).long)

  pub put_out_next : NextOp log s (take width (issue_out width f out s q))
  unfolding seq_of own_count
  put_out_next =
      let a = issue_admitted f (length out) s q n e in
      let g = sound_good width f a.is_sound_so in
      rw put_out_law (record {
        origin = issued_origin log s q;
        sequence = rw (issued_origin log s q, issued_vector log g s q);
        accepted_by = λ buffer sound_there more new room. delivered width buffer (issued log s q) _ (record {
          is_sound_so = sound_there;
          long = a.long;
          admits = admits_more log (log_of width buffer) more (issued log s q) a.admits new;
          room = room;
          end = refl;
        });
      })
