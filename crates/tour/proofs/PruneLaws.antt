-- What a view shows of the preorder is the preorder of what it shows.
use Rattle.lists.proofs.EachLaws.{kept_children, Each, each_map}
use Rattle.std.proofs.Common.{◌≡◌, ℕ, zero, suc, Bool, true, false, cond, ◌&&◌, List, [], ◌∷◌, map, refl, ◌∙◌}
use Rattle.lists.specs.Lists.{concat, filter}
use Rattle.rules.specs.Listing.{children, preorder}
use Rattle.rules.specs.File.{Log}
use Rattle.lists.proofs.FilterLaws.{filter_concat}
use Rattle.tour.proofs.TourLaws.{pre}

module _ (log : Log) (parents : List ℕ) (shows g : ℕ → Bool) (Node : ℕ → Type 0)
    (by_parent : (n : ℕ) → Node n → Each (λ c. Node c × (shows c ≡ (shows n && g c))) (children log parents n)) where
  pub pruned : (k n : ℕ) → Node n
      → filter shows (preorder k log parents n) ≡ cond (shows n) (pre (λ m. filter g (children log parents m)) k n) []
  unfolding preorder pre filter
  pruned zero n w = go (shows n)
    where
      go : (b : Bool) → ◌≡◌ {A = List ℕ} [] (cond b [] [])
      go true = refl
      go false = refl
  pruned (suc k) n w =
      rw (
        filter_concat shows (preorder k log parents) (children log parents n),
        kept_children g (shows n)
            (λ c. filter shows (preorder k log parents c)) (pre (λ m. filter g (children log parents m)) k) (children log parents n)
            (each_map _ _ (children log parents n) (λ c h. pruned k c h.0 ∙ rw h.1) (by_parent n w)),
      ) (go (shows n))
    where
      go : (b : Bool) → cond b
          (n ∷ cond b (concat (map (pre (λ m. filter g (children log parents m)) k) (filter g (children log parents n)))) [])
          (cond b (concat (map (pre (λ m. filter g (children log parents m)) k) (filter g (children log parents n)))) []) ≡ cond b
          (n ∷ concat (map (pre (λ m. filter g (children log parents m)) k) (filter g (children log parents n)))) []
      go true = refl
      go false = refl
