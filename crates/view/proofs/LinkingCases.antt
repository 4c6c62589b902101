-- The returns of linking a view, as the code meets them.
use Prim.Native.Nat.{◌-◌, ℕ}
use borrow.Author.Rules.{rules}
use lib.ListN.{replicate, set}
use mathlib.Core.List.{List, foldl}
use mathlib.Core.Path.{◌∙◌, ◌≡◌}
use Rattle.lists.specs.Lists.{down_from, up_from}
use Rattle.rules.specs.Tree.{slots}
use Rattle.tour.specs.Tables.{Links, all_hidden, hidden_of, link_slot, links, reveal_slot}
use Rattle.view.specs.Answers.{view_of}
use Rattle.view.specs.declared.answer.View as code
use Rattle.view.specs.declared.answer.View.TheVariants as view

module _ (p m f n : List ℕ) (v : code.View) (x : Links) where
  pub view_skipping : v ≡ view.Skipping → x ≡ foldl (link_slot p m) (links f n) (down_from (slots - 1))
      → x ≡ foldl (link_slot p (hidden_of p m (view_of v))) (links f n) (down_from (slots - 1))
  unfolding hidden_of
  view_skipping is e = e ∙ rw is

  -- h is what is hidden
  pub view_keeping : v ≡ view.Keeping
      → (h : List ℕ) → h ≡ foldl (reveal_slot p m) (set (replicate slots 1) 0 0) (up_from 1 (slots - 1))
      → x ≡ foldl (link_slot p h) (links f n) (down_from (slots - 1))
      → x ≡ foldl (link_slot p (hidden_of p m (view_of v))) (links f n) (down_from (slots - 1))
  unfolding hidden_of all_hidden
  view_keeping is h hid e = e ∙ rw (is, hid)

---- what the code of linking needs: search linking
pub ruleset linking = (rules, view_skipping, view_keeping)
