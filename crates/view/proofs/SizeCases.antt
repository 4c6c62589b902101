-- The cases of a listing's size, as the code meets them.
use Prim.Native.Nat.{ℕ}
use lib.ListN.{length}
use mathlib.Core.Bool.{false, true}
use mathlib.Core.List.{List}
use mathlib.Core.Path.{◌≡◌}
use Rattle.rules.proofs.SoundLaws.{sound_good}
use Rattle.rules.specs.Answer.{accepted, refused, require}
use Rattle.rules.specs.File.{log_of, width}
use Rattle.rules.specs.Listing.{listing_size}
use Rattle.rules.specs.Sound.{sound}
use Rattle.rules.specs.Views.{View}
use Rattle.view.proofs.ListingCases.{listings}
use Rattle.view.proofs.ListingLaws.{listing_is}
use Rattle.marks.specs.Marking.{marks_of}
use Rattle.tour.specs.declared.touring.Visit.{Visit}
use Rattle.view.specs.Tables.{lines_of, order_of}

module _ (f : List ℕ) (view : View) where
  pub size_unsound : sound width f ≡ false → refused 1 ≡ listing_size width f view
  unfolding listing_size require
  size_unsound e = rw e

  pub size_now :
      sound width f ≡ true → (order : List Visit) (size : ℕ) → ((m : List ℕ) → size ≡ length (lines_of m order)) →
      order ≡ order_of (log_of width f) view → accepted size ≡ listing_size width f view
  unfolding listing_size require
  size_now a order size is o =
      rw (a, is (marks_of (log_of width f)), o, listing_is (log_of width f) (sound_good width f a) view)

---- what the code of sizes needs: search sizing
pub ruleset sizing = (listings, size_unsound, size_now)
