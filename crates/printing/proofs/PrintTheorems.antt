-- The claims about the program's output hold.
use Prim.Native.Nat.{ℕ, ◌≤◌}
use lib.ListN.{length}
use mathlib.Core.Bool.{Bool, false, true}
use mathlib.Core.List.{List, [], append-nil}
use mathlib.Core.Path.{◌≡◌, ap, refl, sym, ◌∙◌}
use native.Mathlib.Decide.{ℕ_discrete}
use native.Mathlib.Omega.{arith}
use lib.Dec.{lit≤}
use Rattle.lists.proofs.BoolLaws.{fails}
use Rattle.order.proofs.TourLaws.{sound_listing}
use Rattle.rules.proofs.SoundLaws.{empty_ends, empty_length, empty_reads, empty_sound, sound_end, sound_laid}
use Rattle.rules.specs.File.{empty_log, file_end, file_of, width}
use Rattle.rules.specs.Listing.{decimal, digits, line_of, listing_of, outline, refused_line}
use Rattle.rules.specs.Sound.{sound}
use Rattle.rules.specs.Views.{keeping}
use Rattle.printing.specs.Claims.{LongRefused, NoBytes, OutlineFits, ShortRefused, ShortUnsound}
use Rattle.printing.proofs.OutlineLaws.{outline_listed, outline_long, outline_no_bytes, outline_unsound, refused_size, root_line}

-- what is printed for the file of the log without ops
empty_printed : (w : ℕ) → outline w (file_of w empty_log) ≡ listing_of keeping empty_log
empty_printed w =
    let is = rw append-nil at (empty_sound w []) in
    let end = rw append-nil at (empty_ends w []) in
    outline_listed w (file_of w empty_log) is (end ∙ sym (empty_length w)) ∙ ap (listing_of keeping) (rw append-nil at (empty_reads w []))

pub no_bytes : NoBytes
no_bytes w = (outline_no_bytes w [] refl ∙ sym (empty_printed w), outline_no_bytes w [] refl ∙ root_line)

pub short_unsound : ShortUnsound
short_unsound w f h = fails (sound w f) (λ e. let l = (sound_laid w f e).header in omega arith)

pub short_refused : ShortRefused
short_refused w f l u = outline_unsound w f (λ z. omega arith) (short_unsound w f (omega arith))

pub long_refused : LongRefused
long_refused w f h = go (sound w f) refl
  where
    go : (b : Bool) → sound w f ≡ b → outline w f ≡ refused_line
    go false e = outline_unsound w f (λ z. omega arith) e
    go true e = outline_long w f e (λ q. omega (arith, sound_end w f e))

---- the length of every output

module _ (f : List ℕ) where
  line_size : length (outline width f) ≡ 10 → length (outline width f) ≤ 24492
  line_size e = omega arith

  some_size : (length f ≡ 0 → ⊥) → (b : Bool) → sound width f ≡ b → length (outline width f) ≤ 24492
  some_size some false e = line_size (ap length (outline_unsound width f some e) ∙ refused_size)
  some_size some true e = elim (ℕ_discrete (file_end width f) (length f)) [
    | yes q ↦ rw (outline_listed width f e q) (sound_listing width f keeping e)
    | no ne ↦ line_size (ap length (outline_long width f e ne) ∙ refused_size)
  ]

pub outline_size : OutlineFits
unfolding line_of decimal digits
outline_size f = elim (ℕ_discrete (length f) 0) [
  | yes z ↦ rw (outline_no_bytes width f z, root_line) (lit≤ tt)
  | no some ↦ some_size f some (sound width f) refl
]
