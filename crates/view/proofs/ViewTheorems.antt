-- The claims about the two views hold.
use Prim.Native.Nat.{ℕ}
use borrow.Author.Tests.{eq-eqb, not-true}
use lib.Dec.{eqb}
use mathlib.Core.Bool.{◌&&◌, false, not, or-true, true}
use mathlib.Core.List.{List, []}
use mathlib.Core.Logic.{inl, inr}
use mathlib.Core.Path.{refl, sym, ◌∙◌, ◌≡◌}
use Rattle.rules.proofs.KnownLaws.{Known, Named, parent_reads}
use Rattle.lists.proofs.BoolLaws.{and_left, and_right}
use Rattle.rules.proofs.StructureLaws.{GoodLog, structural_good}
use Rattle.lists.specs.Lists.{any, is_in}
use Rattle.rules.specs.File.{Log, counts_of, log_of}
use Rattle.rules.specs.Replay.{parents_of, removed_in}
use Rattle.rules.specs.Tree.{at_or_below, parent_in, path}
use Rattle.rules.specs.Views.{View, keeping, nodes, shown, skipping}
use Rattle.rules.specs.Marks.{marked}
use Rattle.lists.proofs.AllLaws.{all_true}
use Rattle.lists.proofs.MemberLaws.{any_in}
use Rattle.order.proofs.TreePathLaws.{Under, known_nonzero, named_parent, nodes_known, path_child}
use Rattle.order.proofs.ViewLaws.{keeping_child, root_shown, skipping_child}
use Rattle.view.specs.Claims.{AllShown, ParentsShown, SkippingWithin}

module _ (log : Log) (good : GoodLog log) where
  abbrev P : List ℕ
  P = parents_of log

  hangs : (n : ℕ) → Known log (counts_of log) n → Under log good (parent_in P n) n
  hangs n k = record { node = inr k; parent = refl; below_root = known_nonzero log good n k }

  parent_shown : (view : View) (n : ℕ) → Known log (counts_of log) n → shown view log P n ≡ true
      → shown view log P (parent_in P n) ≡ true
  parent_shown keeping n k s = keeping_child log good (parent_in P n) n (hangs n k) s
  parent_shown skipping n k s =
      and_left (shown skipping log P (parent_in P n)) _
      (sym (skipping_child log good (parent_in P n) n (named_parent log good n (inr k) (known_nonzero log good n k)) (hangs n k)) ∙ s)

  -- an unmarked node is shown by the keeping view
  unmarked_kept : (n : ℕ) → Known log (counts_of log) n → marked log (counts_of log) n ≡ false → shown keeping log P n ≡ true
  unfolding shown at_or_below is_in any
  unmarked_kept n k t =
      rw (any_in (λ m. is_in n (path P m) && not (marked log (counts_of log) m)) (nodes log) n (nodes_known log good n ∙ k)
      (rw (path_child log good (parent_in P n) n (hangs n k), eq-eqb n n refl, t))) (or-true (eqb n 0))

  nothing_marked : removed_in log (counts_of log) ≡ [] → (n : ℕ) → marked log (counts_of log) n ≡ false
  unfolding marked is_in any
  nothing_marked e n = rw e

  all_shown : removed_in log (counts_of log) ≡ [] → (view : View) (n : ℕ) → Named log (counts_of log) n → shown view log P n ≡ true
  unfolding shown
  all_shown e keeping n (inl z) = rw z
  all_shown e keeping n (inr k) = unmarked_kept n k (nothing_marked e n)
  all_shown e skipping n w =
      rw (all_true (λ m. not (marked log (counts_of log) m)) (path P n) (λ m. rw (nothing_marked e m))) (or-true (eqb n 0))

  skipping_kept : (n : ℕ) → Named log (counts_of log) n → shown skipping log P n ≡ true → shown keeping log P n ≡ true
  skipping_kept n (inl z) s = rw z (root_shown log good keeping)
  skipping_kept n (inr k) s =
      let t : not (marked log (counts_of log) n) ≡ true = and_right (shown skipping log P (parent_in P n)) _
      (sym (skipping_child log good (parent_in P n) n (named_parent log good n (inr k) (known_nonzero log good n k)) (hangs n k)) ∙ s) in
      unmarked_kept n k (not-true (marked log (counts_of log) n) t)

pub parents_shown : ParentsShown
parents_shown w f s view n k e = parent_shown (log_of w f) (structural_good w f s) view n k e

pub everything_shown : AllShown
everything_shown w f s none view n k = all_shown (log_of w f) (structural_good w f s) none view n (parent_reads _ _ n k)

pub skipping_within : SkippingWithin
skipping_within w f s n k e = skipping_kept (log_of w f) (structural_good w f s) n (parent_reads _ _ n k) e
