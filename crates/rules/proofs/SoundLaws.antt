-- Laws of soundness: callers use these and not what soundness is made of.
use Rattle.rules.specs.File.{append, empty_log, Log, counts_of, file_end, file_of, header_counts, largest, ops_of, log_of}
use Prim.Native.Nat.{ℕ, ◌≤◌}
use mathlib.Core.List.{List, ◌++◌}
use mathlib.Core.Path.{◌≡◌, ◌∙◌, refl}
use mathlib.Core.Bool.{true}
use lib.Dec.{lit≤}
use lib.ListN.{length}
use Rattle.lists.proofs.BoolLaws.{and_right}
use Rattle.rules.specs.Log.{laid, sound_ops, structural}
use Rattle.rules.specs.Sound.{sound}
use Rattle.rules.specs.Op.{count_in, Op}
use Rattle.rules.proofs.FileLaws.{WideLog, counts_at, empty_end, file_end_law, length_counts, length_file, log_of_file_of, wide_log_of}
use Rattle.rules.proofs.CausalLaws.{end_most}
use Rattle.rules.proofs.StructureLaws.{GoodLog, Laid, file_structural, laid_reads, structural_good, structural_laid}
use Rattle.rules.proofs.ReplicaLaws.{replica_cases}
use Rattle.rules.proofs.AppendLaws.{Admits, good_append}

---- a log that a sound file can hold; a layer of soundness joins as a field

pub record SoundLog (log : Log) : Type 0 where
  pub good : GoodLog log

-- one op more
pub sound_append : (log : Log) (r : Op) → SoundLog log → Admits log r → SoundLog (append log r)
sound_append log r h a = record { good = good_append log r h.good a }

---- from bytes to facts and back

module _ (w : ℕ) (f : List ℕ) where
  pub sound_structural : sound w f ≡ true → structural w f ≡ true
  unfolding sound
  sound_structural e = e

  pub sound_laid : sound w f ≡ true → Laid w f
  sound_laid e = laid_reads w f (structural_laid w f (sound_structural e))

  -- its file lies within the largest
  pub sound_end : sound w f ≡ true → file_end w f ≤ largest w
  unfolding file_end
  sound_end e = end_most w (header_counts f) (length_counts f) (λ s l u. rw (counts_at f s l u) ((sound_laid e).counts s l u))

  pub sound_good : sound w f ≡ true → GoodLog (log_of w f)
  sound_good e = structural_good w f (sound_structural e)

  pub sound_log : sound w f ≡ true → SoundLog (log_of w f)
  sound_log e = record { good = sound_good e }

  pub sound_wide : sound w f ≡ true → WideLog w (log_of w f)
  sound_wide e = wide_log_of w f (sound_laid e).fits

-- a buffer that is laid out and holds the log of a sound one is sound
pub sound_alike : (w : ℕ) (f g : List ℕ) → log_of w g ≡ log_of w f → laid w g ≡ true → sound w f ≡ true → sound w g ≡ true
unfolding sound structural
sound_alike w f g e l s = rw (l, e) (and_right (laid w f) _ s)

-- the file of a sound log is sound
pub sound_file : (w : ℕ) (log : Log) (t : List ℕ) → SoundLog log → WideLog w log → sound w (file_of w log ++ t) ≡ true
unfolding sound
sound_file w log t g wide = file_structural w log t g.good wide

good_empty : GoodLog empty_log
unfolding empty_log count_in counts_of ops_of sound_ops
good_empty = record {
  eight = refl;
  counts = replica_cases (λ s. count_in (counts_of empty_log) s ≤ 255) (lit≤ tt) (lit≤ tt) (lit≤ tt) (lit≤ tt) (lit≤ tt) (lit≤ tt) (lit≤ tt)
      (lit≤ tt);
  ops = replica_cases (λ s. sound_ops empty_log s 1 (ops_of empty_log s) ≡ true) refl refl refl refl refl refl refl refl;
}

pub sound_empty : SoundLog empty_log
sound_empty = record { good = good_empty }

pub wide_empty : (w : ℕ) → WideLog w empty_log
unfolding empty_log
wide_empty w = (tt, (tt, (tt, (tt, (tt, (tt, (tt, (tt, tt))))))))

-- the file of the log without ops, in front of any bytes
pub empty_length : (w : ℕ) → length (file_of w empty_log) ≡ 32
empty_length w = length_file w empty_log (wide_empty w) ∙ empty_end w

module _ (w : ℕ) (t : List ℕ) where
  pub empty_sound : sound w (file_of w empty_log ++ t) ≡ true
  empty_sound = sound_file w empty_log t sound_empty (wide_empty w)

  pub empty_reads : log_of w (file_of w empty_log ++ t) ≡ empty_log
  empty_reads = log_of_file_of w empty_log t good_empty.eight (wide_empty w)

  pub empty_ends : file_end w (file_of w empty_log ++ t) ≡ 32
  empty_ends = file_end_law w empty_log t good_empty.eight ∙ empty_end w
