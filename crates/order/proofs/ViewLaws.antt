-- What each view shows of a node, by what it shows of the node's parent.
use Prim.Native.Nat.{ℕ}
use borrow.Author.Tests.{ne_eqb}
use lib.Dec.{eqb}
use mathlib.Core.Bool.{◌&&◌, Bool, not, or-true, true}
use mathlib.Core.List.{List}
use mathlib.Core.Logic.{inl, inr}
use mathlib.Core.Path.{refl, sym, ◌∙◌, ◌≡◌}
use Rattle.rules.proofs.KnownLaws.{Known, Named}
use Rattle.lists.proofs.BoolLaws.{and_both, and_left, and_right, and_swap}
use Rattle.rules.proofs.StructureLaws.{GoodLog}
use Rattle.lists.specs.Lists.{all, is_in}
use Rattle.rules.specs.File.{Log, counts_of}
use Rattle.rules.specs.Replay.{parents_of}
use Rattle.rules.specs.Tree.{at_or_below, path}
use Rattle.rules.specs.Views.{View, keeping, nodes, shown, skipping}
use Rattle.rules.specs.Marks.{marked}
use Rattle.lists.proofs.MemberLaws.{any_more}
use Rattle.order.proofs.RemoveLaws.{root_unmarked}
use Rattle.order.proofs.TreePathLaws.{Under, known_nonzero, nodes_known, path_child, path_closed, path_root}

module _ (log : Log) (good : GoodLog log) where
  abbrev P : List ℕ
  P = parents_of log

  abbrev Node : ℕ → Type 0
  Node n = Named log (counts_of log) n

  ---- the skipping view

  skipping_path : (n : ℕ) → Node n → shown skipping log P n ≡ all (λ m. not (marked log (counts_of log) m)) (path P n)
  unfolding shown all
  skipping_path n (inl e) = rw (e, path_root log good, root_unmarked log good)
  skipping_path n (inr e) = rw (ne_eqb n 0 (known_nonzero log good n e))

  pub skipping_child : (n c : ℕ) → Node n → Under log good n c
      → shown skipping log P c ≡ (shown skipping log P n && not (marked log (counts_of log) c))
  unfolding all
  skipping_child n c w u = skipping_path c u.node ∙ rw (path_child log good n c u, skipping_path n w)
      (and_swap (not (marked log (counts_of log) c)) (all (λ m. not (marked log (counts_of log) m)) (path P n)))

  ---- the keeping view

  -- m lies at or below n, and is unmarked
  abbrev unmarked_below : ℕ → ℕ → Bool
  unmarked_below n m = is_in n (path P m) && not (marked log (counts_of log) m)

  pub keeping_child : (n c : ℕ) → Under log good n c → shown keeping log P c ≡ true → shown keeping log P n ≡ true
  unfolding shown at_or_below
  keeping_child n c u e =
      rw (any_more (unmarked_below c) (unmarked_below n) (nodes log) (λ m i h.
      let k : Known log (counts_of log) m = sym (nodes_known log good m) ∙ i in
      and_both (rw u.parent at (path_closed log good m c (inr k) (and_left (is_in c (path P m)) _ h) u.below_root))
      (and_right (is_in c (path P m)) _ h))
      (rw (ne_eqb c 0 u.below_root) at e)) (or-true (eqb n 0))

  pub root_shown : (view : View) → shown view log P 0 ≡ true
  unfolding shown
  root_shown keeping = refl
  root_shown skipping = refl
