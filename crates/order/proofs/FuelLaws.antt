-- The bounds in the definitions of paths and of the preorder do not matter: more gives the same.
use mathlib.Core.List.{List, ◌∷◌}
use Prim.Native.Nat.{ℕ, ◌<◌, ◌+◌, ◌≤◌, suc, zero}
use mathlib.Core.Path.{◌≡◌, ap, sym, ◌∙◌, refl}
use mathlib.Core.Bool.{true}
use native.Mathlib.Omega.{arith}
use borrow.Author.Tests.{eqb-true}
use lib.Dec.{eqb}
use mathlib.Core.Logic.{inr}
use Rattle.rules.specs.File.{Log, counts_of}
use Rattle.rules.specs.Tree.{climb, parent_in, path, slots}
use Rattle.lists.specs.Lists.{is_in, concat}
use Rattle.rules.specs.Listing.{children, preorder}
use Rattle.rules.specs.Replay.{parents_of, added_in}
use Rattle.rules.specs.Views.{nodes}
use Rattle.rules.proofs.ClimbLaws.{up, Depth, climb_enough, depth_child, depth_unique}
use Rattle.rules.proofs.StructureLaws.{GoodLog}
use Rattle.order.proofs.LevelLaws.{whole_cut}
use Rattle.rules.proofs.KnownLaws.{Known, Named, known_reads}
use Rattle.order.proofs.RunLaws.{replay_reaches}
use Rattle.order.proofs.NodeLaws.{added_is}
use Rattle.lists.proofs.MemberLaws.{is_in_filter, map_is_in}

module _ (log : Log) (good : GoodLog log) where
  abbrev parents : List ℕ
  parents = parents_of log

  -- every node, and the root, has a depth of at most 2,040
  pub has_depth : (n : ℕ) → Named log (counts_of log) n → (j : ℕ) × (j ≤ 2040) × Depth parents j n
  unfolding parents_of
  has_depth n w =
      let (j, b, r, first) = replay_reaches log good (counts_of log) (whole_cut log good) n w in
      (j, b, record { root = r.root; first = first })

  -- a path is the same with every bound that is large enough
  pub path_fuel : (n : ℕ) → Named log (counts_of log) n → (k : ℕ) → slots ≤ k → climb k parents n ≡ path parents n
  unfolding path
  path_fuel n w k h = let (j, b, d) = has_depth n w in climb_enough parents j k slots n d (omega arith) (omega arith)

  pub child_named : (n m : ℕ) → is_in m (children log parents n) ≡ true → Known log (counts_of log) m × (parent_in parents m ≡ n)
  unfolding children nodes
  child_named n m e =
      let (a, b) = is_in_filter (λ m. eqb (parent_in parents m) n) (added_in log (counts_of log)) m e in
      (sym (added_is log good (counts_of log) (whole_cut log good) m) ∙ a, eqb-true _ _ b)

  preorder_enough : (k i j n : ℕ) → Depth parents j n → 2040 < k + j → 2040 < i + j → j ≤ 2040
      → preorder k log parents n ≡ preorder i log parents n
  unfolding preorder
  preorder_enough zero i j n d h l b = absurd (omega arith)
  preorder_enough (suc k) zero j n d h l b = absurd (omega arith)
  preorder_enough (suc k) (suc i) j n d h l b =
      ap (λ xs. n ∷ concat xs) (map_is_in (preorder k log parents) (preorder i log parents) (children log parents n) (λ m e.
      let (a, p) = child_named n m e in
      let nz : m ≡ 0 → ⊥ = λ z. let w = (known_reads log (counts_of log) m a).0 in omega (arith, w.low) in
      let d' = depth_child parents j n m p nz d in
      let (j', b', d'') = has_depth m (inr a) in
      let same : suc j ≡ j' = depth_unique parents (suc j) j' m d' d'' in
      preorder_enough k i (suc j) m d' (omega arith) (omega arith) (omega arith)))

  -- the listing's order is the same with every bound that is large enough
  pub preorder_fuel : (k : ℕ) → slots ≤ k → preorder k log parents 0 ≡ preorder slots log parents 0
  unfolding up
  preorder_fuel k h = preorder_enough k slots 0 0 (record { root = refl; first = λ m l z. omega arith }) (omega arith) (omega arith)
      (omega arith)
