-- Comparing a lent order, as the code has it.
use Rattle.std.proofs.Common.{◌≡◌, ℕ, ◌+◌, ◌-◌, Bool, ◌&&◌, List, [], ◌∷◌, ◌++◌, length, get_or, take, drop, refl, sym, ap, ◌∙◌, append_assoc, add-one, arith, eqb, length-drop, true, false, not}
use Rattle.std.proofs.Math.Seq.{take-add, take-suc, take_all, length-take-le}
use Rattle.std.proofs.Math.Bool.{and_assoc}
use Rattle.std.specs.Str.{bytes_eq}
use Rattle.lists.specs.Lists.{same}
use Rattle.lists.proofs.LibraryLaws.{same_is}
use Rattle.lists.proofs.BoolLaws.{and_true, never}
use Rattle.rules.specs.Tree.{most_ops}
use Rattle.page_tables.specs.Tables.{OrderLent, order_without}

same_append : (a b c d : List ℕ) → length a ≡ length c → same (a ++ b) (c ++ d) ≡ (same a c && same b d)
unfolding same
same_append [] b [] d e = refl
same_append [] b (y ∷ c) d e = absurd (omega arith)
same_append (x ∷ a) b [] d e = absurd (omega arith)
same_append (x ∷ a) b (y ∷ c) d e = rw (same_append a b c d (omega arith)) (sym (and_assoc (eqb x y) _ _))

module _ (lent xs : List ℕ) (i : ℕ) (x : OrderLent lent xs i) where
  lent_parts : take most_ops lent ≡ take i lent ++ (take (2039 - i) (drop i lent) ++ (get_or lent 2039 0 ∷ []))
  lent_parts =
      let e : i + (2039 - i) ≡ 2039 = omega (arith, x.inside) in
      let front : take 2039 lent ≡ take i lent ++ take (2039 - i) (drop i lent) =
      ap (λ (n : ℕ). take n lent) (sym e) ∙ take-add i (2039 - i) lent in
      take-suc lent 2039 0 (omega (arith, x.room)) ∙ rw (front, append_assoc)

  -- an order is shown if its parts are
  pub order_parts : same (take most_ops lent) (order_without i xs)
      ≡ (bytes_eq (take i lent) (take i xs)
      && (bytes_eq (take (2039 - i) (drop i lent)) (take (length xs - (i + 1)) (drop (i + 1) xs)) && eqb (get_or lent 2039 0) 0))
  unfolding order_without same
  order_parts =
      let front : length (take i lent) ≡ length (take i xs) =
      length-take-le i lent (omega (arith, x.room, x.inside)) ∙ sym (length-take-le i xs (omega (arith, x.whole, x.inside))) in
      let long : length (drop (i + 1) xs) ≡ length xs - (i + 1) = length-drop (i + 1) xs in
      let back : length (take (2039 - i) (drop i lent)) ≡ length (drop (i + 1) xs) =
      length-take-le (2039 - i) (drop i lent) (omega (arith, length-drop i lent, x.room, x.inside)) ∙ omega (arith, long, x.whole) in
      rw (lent_parts, ← add-one i, same_append (take i lent) _ (take i xs) _ front) (
      rw (
        same_append (take (2039 - i) (drop i lent)) _ (drop (i + 1) xs) _ back,
        take_all (length xs - (i + 1)) (drop (i + 1) xs) (omega (arith, long)),
        same_is (take i lent),
        same_is (take (2039 - i) (drop i lent)),
        and_true (eqb (get_or lent 2039 0) 0),
      )
      )

-- what a test of the front tells of the whole
pub front_fails : (p q : Bool) {r : Bool} → r ≡ (p && q) → true ≡ not p → false ≡ r
front_fails true q e h = never (sym h)
front_fails false q e h = sym e

pub front_holds : (p q : Bool) {r : Bool} → r ≡ (p && q) → false ≡ not p → r ≡ q
front_holds true q e h = e
front_holds false q e h = never h
