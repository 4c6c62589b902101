-- Laws of the search in a holdback: one step of a look, and that a search is a look and the search after it.
use mathlib.Core.Path.{◌≡◌, refl, ap, ◌∙◌}
use mathlib.Core.Bool.{Bool, true, false, cond}
use mathlib.Core.List.{List, [], ◌∷◌, ◌++◌}
use Prim.Native.Nat.{ℕ, zero, suc, ◌+◌, ◌≤◌, ◌<◌}
use native.Mathlib.Omega.{arith}
use lib.ListN.{length, length-append}
use Rattle.rules.specs.Answer.{Answer, refused, had_it, waiting, done, accepted, if_accepted}
use Rattle.rules.specs.Op.{Op}
use Rattle.rules.specs.Deliver.{deliver_answer, deliver_buffer}
use Rattle.rules.specs.Sound.{sound}
use Rattle.rules.proofs.DeliverLaws.{deliver_sound, if_not}
use Rattle.rules.specs.Holdback.{stays, Look, found, none, look, Search, search_on, looks, search}
use Rattle.rules.proofs.TurnLaws.{OneLog, deliver_alike, delivered_alike}

---- one step

module _ (w : ℕ) (f : List ℕ) (kept : List Op) (x : Op) (rest : List Op) where
  pub look_taken : if_accepted (deliver_answer w f x) true false ≡ true → look w f kept (x ∷ rest) ≡ found x (kept ++ rest)
  unfolding look
  look_taken e = go (deliver_answer w f x) e
    where
      go : (a : Answer) → if_accepted a true false ≡ true
          → if_accepted a (found x (kept ++ rest)) (look w f (cond (stays a) (kept ++ (x ∷ [])) kept) rest) ≡ found x (kept ++ rest)
      go (refused n) e = cc
      go had_it e = cc
      go waiting e = cc
      go done e = cc
      go (accepted n) e = refl

  module _ (e : if_accepted (deliver_answer w f x) true false ≡ false) where
    pub look_stays : stays (deliver_answer w f x) ≡ true → look w f kept (x ∷ rest) ≡ look w f (kept ++ (x ∷ [])) rest
    unfolding look
    look_stays s = if_not (deliver_answer w f x) _ _ e ∙ rw s

    pub look_drops : stays (deliver_answer w f x) ≡ false → look w f kept (x ∷ rest) ≡ look w f kept rest
    unfolding look
    look_drops s = if_not (deliver_answer w f x) _ _ e ∙ rw s

---- how many looks are enough

-- the ops left, and the one found
unfoldable size : Look → ℕ
size (found x left) = suc (length left)
size (none left) = length left

size_look : (w : ℕ) (f : List ℕ) (rest kept : List Op) → size (look w f kept rest) ≤ length kept + length rest
unfolding size look
size_look w f [] kept = omega arith
size_look w f (x ∷ rest) kept = go (deliver_answer w f x) (size_look w f rest)
  where
    next : (b : Bool) → ((ops : List Op) → size (look w f ops rest) ≤ length ops + length rest)
        → size (look w f (cond b (kept ++ (x ∷ [])) kept) rest) ≤ length kept + suc (length rest)
    next true ih = omega (arith, ih (kept ++ (x ∷ [])), length-append kept (x ∷ []))
    next false ih = omega (arith, ih kept)

    go : (a : Answer) → ((ops : List Op) → size (look w f ops rest) ≤ length ops + length rest)
        → size (if_accepted a (found x (kept ++ rest)) (look w f (cond (stays a) (kept ++ (x ∷ [])) kept) rest))
        ≤ length kept + suc (length rest)
    go (refused n) ih = next (stays (refused n)) ih
    go had_it ih = next (stays had_it) ih
    go waiting ih = next (stays waiting) ih
    go done ih = next (stays done) ih
    go (accepted n) ih = omega (arith, length-append kept rest)

pub look_less : (w : ℕ) (f : List ℕ) (ops : List Op) (x : Op) (left : List Op) → look w f [] ops ≡ found x left → length left < length ops
unfolding size
look_less w f ops x left e = let z = rw e at (size_look w f ops []) in omega arith

pub look_few : (w : ℕ) (f : List ℕ) (ops left : List Op) → look w f [] ops ≡ none left → length left ≤ length ops
unfolding size
look_few w f ops left e = let z = rw e at (size_look w f ops []) in omega arith

looks_enough : (k j w : ℕ) (f : List ℕ) (ops : List Op) → length ops < k → length ops < j → looks k w f ops ≡ looks j w f ops
unfolding looks search_on
looks_enough zero j w f ops h l = absurd (omega arith)
looks_enough (suc k) zero w f ops h l = absurd (omega arith)
looks_enough (suc k) (suc j) w f ops h l = go (look w f [] ops) refl (looks_enough k j w)
  where
    go : (a : Look) → look w f [] ops ≡ a
        → ((g : List ℕ) (xs : List Op) → length xs < k → length xs < j → looks k w g xs ≡ looks j w g xs)
        → search_on w f (looks k w) a ≡ search_on w f (looks j w) a
    go (found x left) e ih =
        let b = look_less w f ops x left e in
        rw (ih (deliver_buffer w f x) left (omega arith) (omega arith))
    go (none left) e ih = refl

-- a look, and the search after it
pub search_is : (w : ℕ) (f : List ℕ) (ops : List Op) → search w f ops ≡ search_on w f (search w) (look w f [] ops)
unfolding search looks search_on
search_is w f ops = go (look w f [] ops) refl
  where
    go : (a : Look) → look w f [] ops ≡ a → search_on w f (looks (length ops) w) a ≡ search_on w f (search w) a
    go (found x left) e =
        let b = look_less w f ops x left e in
        rw (looks_enough (length ops) (suc (length left)) w (deliver_buffer w f x) left b (omega arith))
    go (none left) e = refl

---- the buffer stays sound

looks_sound : (k w : ℕ) (f : List ℕ) (ops : List Op) → sound w f ≡ true → sound w (looks k w f ops).buffer ≡ true
unfolding looks search_on
looks_sound zero w f ops s = s
looks_sound (suc k) w f ops s = go (look w f [] ops) (looks_sound k w)
  where
    go : (a : Look) → ((g : List ℕ) (xs : List Op) → sound w g ≡ true → sound w (looks k w g xs).buffer ≡ true)
        → sound w (search_on w f (looks k w) a).buffer ≡ true
    go (found x left) ih = ih (deliver_buffer w f x) left (deliver_sound w f x s)
    go (none left) ih = s

pub search_sound : (w : ℕ) (f : List ℕ) (ops : List Op) → sound w f ≡ true → sound w (search w f ops).buffer ≡ true
unfolding search
search_sound w f ops s = looks_sound (suc (length ops)) w f ops s

---- what is found is accepted

pub look_found : (w : ℕ) (f : List ℕ) (rest kept : List Op) (x : Op) (left : List Op) → look w f kept rest ≡ found x left
    → (n : ℕ) × (deliver_answer w f x ≡ accepted n)
unfolding look
look_found w f [] kept x left e = let z : ◌≡◌ {A = ℕ} 0 1 = cc in absurd (omega arith)
look_found w f (y ∷ rest) kept x left e = go (deliver_answer w f y) refl e (look_found w f rest)
  where
    go : (a : Answer) → deliver_answer w f y ≡ a
        → if_accepted a (found y (kept ++ rest)) (look w f (cond (stays a) (kept ++ (y ∷ [])) kept) rest) ≡ found x left
        → ((ops : List Op) (z : Op) (ys : List Op) → look w f ops rest ≡ found z ys → (n : ℕ) × (deliver_answer w f z ≡ accepted n))
        → (n : ℕ) × (deliver_answer w f x ≡ accepted n)
    go (refused n) q e ih = ih _ x left e
    go had_it q e ih = ih _ x left e
    go waiting q e ih = ih _ x left e
    go done q e ih = ih _ x left e
    go (accepted n) q e ih = let same : y ≡ x = cc in (n, rw (← same) q)

---- the log and the buffer's length settle it

module _ (w : ℕ) where
  look_alike : (f g : List ℕ) → OneLog w f g → (rest kept : List Op) → look w f kept rest ≡ look w g kept rest
  unfolding look
  look_alike f g o [] kept = refl
  look_alike f g o (x ∷ rest) kept = rw (deliver_alike w f g o x) (go (deliver_answer w g x) (look_alike f g o rest))
    where
      go : (a : Answer) → ((ops : List Op) → look w f ops rest ≡ look w g ops rest)
          → if_accepted a (found x (kept ++ rest)) (look w f (cond (stays a) (kept ++ (x ∷ [])) kept) rest)
          ≡ if_accepted a (found x (kept ++ rest)) (look w g (cond (stays a) (kept ++ (x ∷ [])) kept) rest)
      go (refused n) ih = ih _
      go had_it ih = ih _
      go waiting ih = ih _
      go done ih = ih _
      go (accepted n) ih = refl

  -- two searches that leave and take the same ops, at one log
  pub record SearchAlike (s t : Search) : Type 0 where
    pub one_log : OneLog w s.buffer t.buffer
    pub same_left : s.left ≡ t.left
    pub same_taken : s.taken ≡ t.taken

  looks_alike : (k : ℕ) (f g : List ℕ) → OneLog w f g → (ops : List Op) → SearchAlike (looks k w f ops) (looks k w g ops)
  unfolding looks search_on
  looks_alike zero f g o ops = record { one_log = o; same_left = refl; same_taken = refl }
  looks_alike (suc k) f g o ops = rw (look_alike f g o ops []) (go (look w g [] ops) (looks_alike k))
    where
      go : (a : Look) → ((b c : List ℕ) → OneLog w b c → (xs : List Op) → SearchAlike (looks k w b xs) (looks k w c xs))
          → SearchAlike (search_on w f (looks k w) a) (search_on w g (looks k w) a)
      go (found x left) ih =
          let r = ih (deliver_buffer w f x) (deliver_buffer w g x) (delivered_alike w f g o x) left in
          record { one_log = r.one_log; same_left = r.same_left; same_taken = ap (λ (t : List Op). x ∷ t) r.same_taken }
      go (none left) ih = record { one_log = o; same_left = refl; same_taken = refl }

  pub search_alike : (f g : List ℕ) → OneLog w f g → (ops : List Op) → SearchAlike (search w f ops) (search w g ops)
  unfolding search
  search_alike f g o ops = looks_alike (suc (length ops)) f g o ops
