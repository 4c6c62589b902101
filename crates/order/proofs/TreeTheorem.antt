-- The tree theorem: after the replay of a closed cut the parent table is a tree of the added nodes.
use mathlib.Core.List.{List}
use Prim.Native.Nat.{ℕ, ◌<◌, suc}
use mathlib.Core.Path.{◌≡◌, sym, ◌∙◌}
use mathlib.Core.Bool.{true}
use mathlib.Core.Logic.{inl, inr}
use native.Mathlib.Omega.{arith}
use lib.ListN.{length}
use Rattle.rules.specs.File.{Log, log_of}
use Rattle.rules.specs.TreeClaim.{Trees, IsTree}
use Rattle.rules.specs.Op.{Vector}
use Rattle.rules.specs.Replay.{replay, added_in}
use Rattle.lists.specs.Lists.{is_in}
use Rattle.rules.specs.Tree.{at_or_below, slot_of}
use Rattle.rules.proofs.StructureLaws.{GoodLog, structural_good}
use Rattle.rules.proofs.SlotLaws.{slot_root}
use Rattle.rules.proofs.ClimbLaws.{in_climb}
use Rattle.order.proofs.LevelLaws.{Cut}
use Rattle.rules.proofs.KnownLaws.{Named}
use Rattle.order.proofs.GrowLaws.{tree_below}
use Rattle.order.proofs.RunLaws.{replay_run}
use Rattle.order.proofs.NodeLaws.{added_is}
use Rattle.order.proofs.DepthLaws.{depth_bound}

module _ (log : Log) (good : GoodLog log) (cut : Vector) (is : Cut log cut) where
  abbrev parents : List ℕ
  parents = (replay log cut).parents

  pub is_tree : IsTree (added_in log cut) parents
  unfolding replay
  is_tree =
      let t = (replay_run log good cut is).tree in
      record {
        size = t.size;
        climbs = λ n h.
            let (j, b, r, first) = depth_bound log good cut is n (inr (sym (added_is log good cut is n) ∙ h)) in
            rw r.root at (in_climb parents (suc (length (added_in log cut))) j n (omega arith) first);
        root = t.root;
        bare = λ i p b none. t.bare i p b (λ m w. off i p none m w);
      }
    where
      off : (i : ℕ) → 0 < i → ((n : ℕ) → is_in n (added_in log cut) ≡ true → slot_of n ≡ i → ⊥) → (m : ℕ) → Named log cut m → slot_of m ≡ i → ⊥
      off i p none m (inl e) q = omega (arith, slot_root m e)
      off i p none m (inr e) q = none m (added_is log good cut is m ∙ e) q

  -- every parent that is known lies below the root
  pub below_root : (p : ℕ) → Named log cut p → at_or_below parents p 0 ≡ true
  unfolding replay
  below_root p w = tree_below log cut (replay log cut) (replay_run log good cut is).tree p w

pub trees : Trees
trees w f s cut cv cl =
    is_tree (log_of w f) (structural_good w f s) cut (record { is_covered = cv; is_closed = cl })
