-- Lent tables beside those of a judgement, and what the functions over them ask.
use Rattle.std.specs.Prelude.{ℕ, suc, ◌≤◌, ◌<◌, ◌≡◌, List, [], ◌∷◌, ◌++◌, drop, length, take}
use Rattle.rules.specs.Tree.{most_ops, slots}

-- an order without the entry at a place: those behind it move up, and 0 is the last
unfoldable pub order_without : ℕ → List ℕ → List ℕ
order_without i xs = take i xs ++ (drop (suc i) xs ++ (0 ∷ []))

pub record OrderLent (lent order : List ℕ) (place : ℕ) : Type 0 where
  pub room : most_ops ≤ length lent
  pub whole : length order ≡ most_ops
  pub inside : place < most_ops

-- lent tables have room for every page
pub record LongPage (s p o : List ℕ) : Type 0 where
  pub order : most_ops ≤ length s
  pub parents : slots ≤ length p
  pub outcomes : slots ≤ length o

-- tables of a judgement
pub record Judged (s p o : List ℕ) : Type 0 where
  pub order : length s ≡ most_ops
  pub parents : length p ≡ slots
  pub outcomes : length o ≡ slots

pub record FillablePage (ls lp lo s p o : List ℕ) : Type 0 where
  pub lent : LongPage ls lp lo
  pub judged : Judged s p o

pub record Comparable (ls lp lo s : List ℕ) (place : ℕ) (p o : List ℕ) : Type 0 where
  pub fillable : FillablePage ls lp lo s p o
  pub inside : place < most_ops
