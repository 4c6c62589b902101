-- A node's way to the root has no more steps than there are added nodes.
use mathlib.Core.Path.{◌≡◌, sym, ap, ◌∙◌}
use mathlib.Core.Logic.{inl, inr}
use mathlib.Core.Bool.{true}
use mathlib.Core.List.{List}
use Prim.Native.Nat.{ℕ, suc, ◌+◌, ◌-◌, ◌≤◌, ◌<◌}
use native.Mathlib.Omega.{arith}
use native.Mathlib.Decide.{dec_le}
use lib.ListN.{length}
use Rattle.lists.specs.Lists.{is_in}
use Rattle.rules.specs.Op.{Vector}
use Rattle.rules.specs.File.{Log}
use Rattle.rules.specs.Tree.{slots, climb, path, depth}
use Rattle.rules.specs.Replay.{replay, added_in}
use Rattle.rules.proofs.ClimbLaws.{up, up_add, Reaches, climb_length}
use Rattle.rules.proofs.StructureLaws.{GoodLog}
use Rattle.order.proofs.LevelLaws.{Cut}
use Rattle.rules.proofs.KnownLaws.{Named}
use Rattle.order.proofs.RunLaws.{replay_reaches}
use Rattle.order.proofs.NodeLaws.{known_added}
use Rattle.lists.proofs.MemberLaws.{at_most}

---- no more steps than added nodes

module _ (log : Log) (good : GoodLog log) (cut : Vector) (is : Cut log cut) where
  pub depth_bound : (m : ℕ) → Named log cut m → (j : ℕ) × (j ≤ length (added_in log cut)) × Reaches (Named log cut)
      (replay log cut).parents j m × ((k : ℕ) → k < j → up (replay log cut).parents k m ≡ 0 → ⊥)
  depth_bound m w =
      let (j, b, r, first) = replay_reaches log good cut is m w in (
        j,
        at_most (added_in log cut) j (λ k. up (replay log cut).parents k m) (λ k h. in_list k (r.on k (omega arith)) (first k h))
            (differ j r first),
        r,
        first,
      )
    where
      in_list : (k : ℕ) → Named log cut (up (replay log cut).parents k m) → (up (replay log cut).parents k m ≡ 0 → ⊥)
          → is_in (up (replay log cut).parents k m) (added_in log cut) ≡ true
      in_list k (inl e) ne = absurd (ne e)
      in_list k (inr e) ne = known_added log good cut is _ e

      differ : (j : ℕ) → Reaches (Named log cut) (replay log cut).parents j m → ((k : ℕ) → k < j → up (replay log cut).parents k m ≡ 0
          → ⊥) → (a b : ℕ) → a < b → b < j → up (replay log cut).parents a m ≡ up (replay log cut).parents b m → ⊥
      differ j r first a b h l e =
          let d : ℕ = j - b in
          let k : b + d ≡ j = omega arith in
          first (a + d) (omega arith) (let f : List ℕ = (replay log cut).parents in up_add f a d m ∙ ap (up f d) e ∙ sym (up_add f b d m)
          ∙ ap (λ (t : ℕ). up f t m) k ∙ r.root)

---- the path's length and the depth

module _ (log : Log) (good : GoodLog log) (cut : Vector) (is : Cut log cut) where
  -- the depth of a node is at most the number of added nodes, and its path has one entry more
  pub depth_added : (m : ℕ) → Named log cut m
      → (length (path (replay log cut).parents m) ≡ depth (replay log cut).parents m + 1) × (depth (replay log cut).parents m ≤ length
      (added_in log cut)) × (depth (replay log cut).parents m ≤ 2040)
  unfolding path depth
  depth_added m w =
      let (j, b, r, first) = depth_bound log good cut is m w in
      let (i, c, r', first') = replay_reaches log good cut is m w in
      let a : length (climb slots (replay log cut).parents m) ≡ suc i = climb_length (replay log cut).parents slots i m (omega arith)
      r'.root first' in
      let ge : j ≤ i = elim (dec_le j i) [ yes h ↦ h | no h ↦ absurd (first i (omega arith) r'.root) ] in
      let le : i ≤ j = elim (dec_le i j) [ yes h ↦ h | no h ↦ absurd (first' j (omega arith) r.root) ] in
      (omega arith, omega arith, omega arith)
