-- The fields of the op that starts at a place of a file, byte by byte.
use mathlib.Core.Path.{◌≡◌, ◌∙◌}
use mathlib.Core.List.{List}
use Prim.Native.Nat.{ℕ, ◌+◌}
use native.Mathlib.Nat.{add-zero}
use native.Mathlib.Omega.{arith}
use lib.ListN.{take, drop, get_or}
use lib.Seq.{get_or-drop, drop-drop}
use borrow.Author.Rules.{rules}
use Rattle.rules.specs.Bytes.{word_at}
use Rattle.rules.specs.Op.{Vector, kind_of, replica_of, node_of, parent_of, vector_of}

module _ (f : List ℕ) (at : ℕ) where
  pub kind_there : get_or f at 0 ≡ kind_of (drop at f)
  unfolding kind_of
  kind_there = rw (get_or-drop, add-zero)

  pub replica_there : get_or f (at + 1) 0 ≡ replica_of (drop at f)
  unfolding replica_of
  replica_there = rw get_or-drop

  word_there : (i : ℕ) → word_at f (at + i) ≡ word_at (drop at f) i
  unfolding word_at
  word_there i = let e : at + i + 1 ≡ at + (i + 1) = omega arith in rw (get_or-drop at f i, get_or-drop at f (i + 1), e)

  pub node_there : (n : ℕ) → n ≡ word_at f (at + 2) → n ≡ node_of (drop at f)
  unfolding node_of
  node_there n e = e ∙ word_there 2

  pub parent_there : (n : ℕ) → n ≡ word_at f (at + 4) → n ≡ parent_of (drop at f)
  unfolding parent_of
  parent_there n e = e ∙ word_there 4

  pub vector_there : (v : Vector) → v ≡ take 8 (drop (at + 6) f) → v ≡ vector_of (drop at f)
  unfolding vector_of
  vector_there v e = e ∙ rw drop-drop

---- what the code of the fields needs: search fields
pub ruleset fields = (rules, kind_there, replica_there, node_there, parent_there, vector_there)
