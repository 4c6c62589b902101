-- What the program prints in each case, and the log without ops.
use Prim.Native.Nat.{ℕ}
use borrow.Author.Tests.{eq-eqb, ne_eqb}
use lib.ListN.{length}
use mathlib.Core.Bool.{false, true}
use mathlib.Core.List.{List}
use mathlib.Core.Path.{◌≡◌, refl}
use native.Mathlib.Omega.{arith}
use Rattle.lists.specs.Lists.{any, concat, filter, is_in, up_from}
use Rattle.rules.specs.File.{counts_of, empty_log, file_end, log_of, ops_of}
use Rattle.rules.specs.Listing.{children, decimal, digits, line, line_of, listing_in, listing_of, outline, preorder, refused_line}
use Rattle.rules.specs.Marks.{marked}
use Rattle.rules.specs.Op.{count_in, replicas}
use Rattle.rules.specs.Replay.{added_in, ops_within, removed_in}
use Rattle.rules.specs.Sound.{sound}
use Rattle.rules.specs.Tree.{climb, depth, path}
use Rattle.rules.specs.Views.{keeping, nodes, shown}
use Rattle.rules.proofs.SoundLaws.{sound_laid}

pub refused_size : length refused_line ≡ 10
unfolding refused_line
refused_size = refl

-- the log without ops lists the root alone
pub root_line : listing_of keeping empty_log ≡ line_of 0 0 false
unfolding listing_of listing_in preorder children nodes added_in removed_in ops_within ops_of counts_of empty_log count_in replicas up_from concat
    filter is_in any marked shown line depth path climb line_of decimal digits
root_line = refl

---- the cases

module _ (w : ℕ) (f : List ℕ) where
  pub outline_no_bytes : length f ≡ 0 → outline w f ≡ listing_of keeping empty_log
  unfolding outline
  outline_no_bytes e = rw (eq-eqb (length f) 0 e)

  pub outline_unsound : (length f ≡ 0 → ⊥) → sound w f ≡ false → outline w f ≡ refused_line
  unfolding outline
  outline_unsound some e = rw (ne_eqb (length f) 0 some, e)

  module _ (e : sound w f ≡ true) where
    some_bytes : length f ≡ 0 → ⊥
    some_bytes z = let h = (sound_laid w f e).header in omega arith

    pub outline_long : (file_end w f ≡ length f → ⊥) → outline w f ≡ refused_line
    unfolding outline
    outline_long ne = rw (ne_eqb (length f) 0 some_bytes, e, ne_eqb (file_end w f) (length f) ne)

    pub outline_listed : file_end w f ≡ length f → outline w f ≡ listing_of keeping (log_of w f)
    unfolding outline
    outline_listed q = rw (ne_eqb (length f) 0 some_bytes, e, eq-eqb (file_end w f) (length f) q)
