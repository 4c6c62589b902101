-- The tour of linked nodes is their preorder.
use Rattle.std.proofs.Common.{◌≡◌, ℕ, zero, suc, ◌+◌, ◌%◌, ◌<◌, ◌≤◌, List, [], ◌∷◌, ◌++◌, map, length, sym, refl, ap, ◌∙◌, append_assoc, append-nil, le_of_suc-le-suc, not-suc-le-zero, arith, eq-eqb, ne_eqb}
use Rattle.lists.specs.Lists.{concat}
use Rattle.rules.specs.Tree.{slots}
use Rattle.lists.proofs.EachLaws.{Each}
use Rattle.tour.proofs.LinkLaws.{Chain, kids}
use Rattle.tour.specs.Tables.{Links, push, tour, tour_of, visit, visited}
use Rattle.tour.specs.declared.touring.Visit.{Visit}
use Rattle.tree.specs.Slots.{at_node}

---- trees given by their children

-- the tree under n in preorder, in at most k levels
unfoldable pub pre : (ℕ → List ℕ) → ℕ → ℕ → List ℕ
pre kids zero n = []
pre kids (suc k) n = n ∷ concat (map (pre kids k) (kids n))

-- the first of some siblings on a stack
abbrev top : ℕ → List ℕ → List Visit → List Visit
top d [] stack = stack
top d (x ∷ xs) stack = visit x d ∷ stack

-- siblings that are left
record Group : Type 0 where
  depth : ℕ
  members : List ℕ

module _ (l : Links) (kids : ℕ → List ℕ) (T : ℕ → ℕ → List Visit) (Good : ℕ → ℕ → Type 0)
    (chain : (d n : ℕ) → Good d n → Chain l.next (at_node l.first n) (kids n))
    (opens : (d n : ℕ) → Good d n → T d n ≡ visit n d ∷ concat (map (T (suc d)) (kids n)))
    (below : (d n : ℕ) → Good d n → Each (Good (suc d)) (kids n))
    (small : (d n : ℕ) → Good d n → d < 65535) where
  abbrev heads : List Group → List Visit
  heads [] = []
  heads (g ∷ gs) = top g.depth g.members (heads gs)

  abbrev flat : List Group → List Visit
  flat [] = []
  flat (g ∷ gs) = concat (map (T g.depth) g.members) ++ flat gs

  abbrev Fine : ℕ → List ℕ → Type 0
  Fine d [] = Unit {0}
  Fine d (x ∷ xs) = Good d x × Each (Good d) xs × Chain l.next (at_node l.next x) xs

  abbrev Right : List Group → Type 0
  Right [] = Unit {0}
  Right (g ∷ gs) = Fine g.depth g.members × Right gs

  fine_of : (d y : ℕ) (ys : List ℕ) → Each (Good d) ys → Chain l.next y ys → Fine d ys
  fine_of d y [] a c = tt
  fine_of d y (x ∷ xs) (g, a) (e, nz, c) = (g, a, c)

  push_top : (d y : ℕ) (ys : List ℕ) (stack : List Visit) → Chain l.next y ys → top d ys stack ≡ push y d stack
  unfolding push
  push_top d y [] stack e = rw (eq-eqb y 0 e)
  push_top d y (x ∷ xs) stack (e, nz, c) = rw (e, ne_eqb x 0 nz)

  depth_next : (d : ℕ) → d < 65535 → (d + 1) % 65536 ≡ suc d
  depth_next d h = omega arith

  abbrev Tours : ℕ → Type 0
  Tours k = (gs : List Group) → Right gs → length (flat gs) ≤ k → tour k l (heads gs) ≡ flat gs

  module _ (k : ℕ) (ih : Tours k) (gs : List Group) (r : Right gs) (d x : ℕ) (xs : List ℕ) (good : Good d x) (a : Each (Good d) xs)
      (c : Chain l.next (at_node l.next x) xs) where
    abbrev after : List Group
    after = (record { depth = suc d; members = kids x }) ∷ (record { depth = d; members = xs }) ∷ gs

    right_after : Right after
    right_after = (fine_of (suc d) _ (kids x) (below d x good) (chain d x good), (fine_of d _ xs a c, r))

    heads_after : heads after ≡ push (at_node l.first x) (suc d) (push (at_node l.next x) d (heads gs))
    heads_after = push_top (suc d) (at_node l.first x) (kids x) (top d xs (heads gs)) (chain d x good)
        ∙ ap (push (at_node l.first x) (suc d)) (push_top d (at_node l.next x) xs (heads gs) c)

    flat_after : concat (map (T d) (x ∷ xs)) ++ flat gs ≡ visit x d ∷ flat after
    unfolding concat
    flat_after = rw (opens d x good) (ap (λ ys. visit x d ∷ ys) (append_assoc (concat (map (T (suc d)) (kids x))) (concat (map (T d) xs))
        (flat gs)))

    tour_step : tour (suc k) l (visit x d ∷ heads gs) ≡ visit x d ∷ tour k l (heads after)
    unfolding tour visited
    tour_step = rw (depth_next d (small d x good), heads_after)

    tour_one : length (concat (map (T d) (x ∷ xs)) ++ flat gs) ≤ suc k
        → tour (suc k) l (visit x d ∷ heads gs) ≡ concat (map (T d) (x ∷ xs)) ++ flat gs
    tour_one h = let h' : suc (length (flat after)) ≤ suc k = rw flat_after at h in tour_step ∙ ap (λ ys. visit x d ∷ ys)
        (ih after right_after (le_of_suc-le-suc h')) ∙ sym flat_after

  none : (d : ℕ) (gs : List Group) (k : ℕ) → (length (flat gs) ≤ suc k → tour (suc k) l (heads gs) ≡ flat gs)
      → length (concat (map (T d) []) ++ flat gs) ≤ suc k → tour (suc k) l (heads gs) ≡ concat (map (T d) []) ++ flat gs
  unfolding concat
  none d gs k rest h = rest h

  tour_suc : (k : ℕ) → Tours k → (gs : List Group) → Right gs → length (flat gs) ≤ suc k → tour (suc k) l (heads gs) ≡ flat gs
  unfolding tour
  tour_suc k ih [] r h = refl
  tour_suc k ih (g ∷ gs) r h = go g.depth g.members r.0 h (tour_suc k ih gs r.1)
    where
      go : (d : ℕ) (ys : List ℕ) → Fine d ys → length (concat (map (T d) ys) ++ flat gs) ≤ suc k
          → (length (flat gs) ≤ suc k → tour (suc k) l (heads gs) ≡ flat gs) → tour (suc k) l (top d ys (heads gs)) ≡ concat (map (T d) ys)
          ++ flat gs
      go d [] f h rest = none d gs k rest h
      go d (x ∷ xs) (good, a, c) h rest = tour_one k ih gs r.1 d x xs good a c h

  tour_all : (k : ℕ) (gs : List Group) → Right gs → length (flat gs) ≤ k → tour k l (heads gs) ≡ flat gs
  unfolding tour
  tour_all zero gs r h = empty (flat gs) h
    where
      empty : (xs : List Visit) → length xs ≤ 0 → [] ≡ xs
      empty [] h = refl
      empty (x ∷ xs) h = absurd (not-suc-le-zero h)
  tour_all (suc k) gs r h = tour_suc k (λ gs r h. tour_all k gs r h) gs r h

  -- the tour from the root
  pub tour_root : Good 0 0 → at_node l.next 0 ≡ 0 → length (T 0 0) ≤ slots → tour_of l ≡ T 0 0
  unfolding tour_of concat
  tour_root good e h =
      let a : (T 0 0 ++ []) ++ [] ≡ T 0 0 = append-nil (T 0 0 ++ []) ∙ append-nil (T 0 0) in
      tour_all slots ((record { depth = 0; members = 0 ∷ [] }) ∷ []) ((good, tt, e), tt) (rw a h) ∙ a
