-- The cases of the program's output, as the code meets them.
use Prim.Native.Nat.{ℕ, ◌<◌, ◌≤◌}
use borrow.Author.Rules.{rules}
use lib.ListN.{drop, length, replicate}
use mathlib.Core.Bool.{false, true}
use mathlib.Core.List.{List, [], ◌++◌}
use mathlib.Core.Path.{ap, sym, ◌∙◌, ◌≡◌}
use Rattle.oplog.proofs.HeaderLaws.{end_is}
use Rattle.lists.proofs.BoolLaws.{tested}
use Rattle.rules.specs.Answer.{Answer, accepted, refused, require}
use Rattle.rules.specs.Deliver.{Result, make, make_answer, make_buffer}
use Rattle.rules.specs.Listing.{listing, listing_of, outline, refused_line}
use Rattle.rules.specs.File.{empty_log, file_end, file_of, header_counts, start_of, width}
use Rattle.rules.specs.Path.{Written}
use Rattle.rules.specs.Sound.{sound}
use Rattle.rules.specs.Views.{keeping}
use Rattle.view.proofs.ListingCases.{listing_put}
use Rattle.view.proofs.PutCases.{put_all, put_short}
use Rattle.view.specs.Answers.{put_in}
use Rattle.view.specs.Tables.{put_front}
use Rattle.rules.proofs.SoundLaws.{empty_reads, empty_sound}
use Rattle.printing.proofs.OutlineLaws.{outline_listed, outline_long, outline_no_bytes, outline_unsound, refused_size}

---- the line of a refused input

module _ (out : List ℕ) where
  pub refuse_short : length out < 10 → ◌≡◌ {A = Written} (record { answer = refused 8; out = out }) (put_in refused_line out)
  refuse_short h = put_short refused_line out 10 (sym refused_size) h

  pub refuse_put :
      10 ≤ length out → (line : List ℕ) → line ≡ refused_line →
      ◌≡◌ {A = Written} (record { answer = accepted 10; out = line ++ drop 10 out }) (put_in refused_line out)
  unfolding put_front
  refuse_put h line e = put_all refused_line out 10 (sym refused_size) h _ (rw (e, refused_size))

---- the log without ops

-- made in 32 bytes and listed
pub empty_listed : (a : Answer) (b out : List ℕ) (x : Written)
    → ◌≡◌ {A = Result} (record { answer = a; buffer = b }) (make width (replicate 32 0))
    → x ≡ listing width b keeping out → x ≡ put_in (listing_of keeping empty_log) out
unfolding make_buffer make_answer require
empty_listed a b out x e h =
    let made : b ≡ file_of width empty_log ++ [] = ap (λ (y : Result). y.buffer) e in
    let is : x ≡ listing width (file_of width empty_log ++ []) keeping out = rw made at h in
    is ∙ listing_put _ out keeping (empty_sound width []) ∙ ap (λ log. put_in (listing_of keeping log) out) (empty_reads width [])

---- the output

module _ (f out : List ℕ) (x : Written) where
  pub print_no_bytes : length f ≡ 0 → x ≡ put_in (listing_of keeping empty_log) out → x ≡ put_in (outline width f) out
  print_no_bytes e h = rw (outline_no_bytes width f e) h

  pub print_unsound : (length f ≡ 0 → ⊥) → sound width f ≡ false → x ≡ put_in refused_line out → x ≡ put_in (outline width f) out
  print_unsound some e h = rw (outline_unsound width f some e) h

  module _ (a : sound width f ≡ true) (n : ℕ) (is : n ≡ start_of width (header_counts f) 9) where
    end_by : n ≡ file_end width f
    end_by = is ∙ end_is width f

    pub print_long : (n ≡ length f → ⊥) → x ≡ put_in refused_line out → x ≡ put_in (outline width f) out
    print_long ne h = rw (outline_long width f a (rw (← end_by) ne)) h

    pub print_listed : n ≡ length f → x ≡ listing width f keeping out → x ≡ put_in (outline width f) out
    print_listed q h = rw (outline_listed width f a (rw (← end_by) q), ← listing_put f out keeping a) h

---- what the code of printing needs: search printing
pub ruleset printing = (rules, tested, refuse_short, empty_listed, print_no_bytes, print_unsound, print_long, print_listed)
