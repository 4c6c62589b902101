-- What a preorder has.
use Rattle.std.proofs.Common.{ℕ, zero, suc, List}
use Rattle.lists.proofs.EachLaws.{each_concat, Each, each_map}
use Rattle.tour.proofs.TourLaws.{pre}

-- a property that goes from a node to its children
module _ (kids : ℕ → List ℕ) (Node : ℕ → Type 0) (node_kids : (n : ℕ) → Node n → Each Node (kids n)) where
  pub pre_nodes : (k n : ℕ) → Node n → Each Node (pre kids k n)
  unfolding pre
  pre_nodes zero n w = tt
  pre_nodes (suc k) n w = (w, each_concat Node (pre kids k) (kids n) (each_map _ _ (kids n) (λ c h. pre_nodes k c h) (node_kids n w)))
