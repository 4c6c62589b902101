-- What a sound buffer gives to the code.
use Rattle.oplog.specs.Places.{Held}
use Rattle.soundness.specs.Asked.{Tallied}
use Rattle.rules.specs.Op.{Vector}
use Rattle.oplog.proofs.FieldLaws.{held_of}
use Rattle.rules.proofs.StructureLaws.{counts_covered, structural_laid}
use Rattle.rules.proofs.FileLaws.{counts_log_of}
use Rattle.rules.specs.Log.{covered, laid, sound_header}
use Rattle.rules.specs.File.{header_counts, log_of, width}
use Rattle.oplog.proofs.HeaderLaws.{laid_header}
use Rattle.rules.specs.Sound.{sound}
use Rattle.rules.proofs.SoundLaws.{sound_laid, sound_structural}
use mathlib.Core.List.{List}
use mathlib.Core.Path.{◌∙◌, ◌≡◌, sym}
use Prim.Native.Nat.{◌≤◌, ℕ}
use native.Mathlib.Omega.{arith}
use lib.ListN.{length}
use mathlib.Core.Bool.{true}

module _ (f : List ℕ) (a : sound width f ≡ true) where
  pub laid_of : laid width f ≡ true
  laid_of = structural_laid width f (sound_structural width f a)

  pub header_of : (32 ≤ length f) × (sound_header width f ≡ true)
  header_of = ((sound_laid width f a).header, laid_header width f laid_of)

  pub end_asks : (32 ≤ length f) × (width ≤ 255) × (sound_header width f ≡ true) × (1 ≤ 8) × (8 ≤ 8)
  end_asks = (header_of.0, omega arith, header_of.1, omega arith, omega arith)

  pub tallied : (u : Vector) → u ≡ header_counts f → Tallied f u
  tallied u e = record { is_sound_so = a; counts = e ∙ sym (counts_log_of width f) }

pub tallied_held : (f : List ℕ) (u : Vector) → Tallied f u → Held width f u
unfolding covered
tallied_held f u t =
    held_of width f u (omega arith) (laid_of f t.is_sound_so)
    (rw (t.counts, ← counts_log_of width f) (counts_covered (log_of width f)))
