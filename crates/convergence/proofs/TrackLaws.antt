-- A list of ops and the log of these ops: one more op in both, and the arrangement of the list.
use mathlib.Core.Path.{◌≡◌, refl, sym, ap, ◌∙◌}
use mathlib.Core.Logic.{⊎_elim}
use mathlib.Core.Bool.{Bool, true, false, cond, ◌&&◌}
use mathlib.Core.List.{List, [], ◌∷◌, ◌++◌, map}
use Prim.Native.Nat.{ℕ, zero, suc, ◌+◌, ◌-◌, ◌≤◌, ◌<◌}
use native.Mathlib.Nat.{add-zero}
use native.Mathlib.Omega.{arith}
use borrow.Author.Tests.{eqb-true, eq-eqb}
use lib.ListN.{length, take, get_or}
use lib.Dec.{eqb}
use Rattle.lists.specs.Lists.{same, up_from, concat, any, filter}
use Rattle.rules.specs.Op.{Op, replicas, count_in, replica_of, own_count, seq_of}
use Rattle.rules.specs.File.{Log, ops_of, op_at, counts_of, append}
use Rattle.convergence.specs.Exchange.{has, op_numbered, in_order, arrange}
use Rattle.lists.proofs.BoolLaws.{never, both_ways, and_left, and_right, and_both, fails, or_cases}
use Rattle.rules.proofs.ReplicaLaws.{map_replicas}
use Rattle.rules.proofs.AppendLaws.{append_extends, seq_positive}
use Rattle.rules.proofs.StructureLaws.{GoodLog, HeldOps, count_held, good_ops}
use Rattle.lists.proofs.ListLaws.{same_eq}
use Rattle.convergence.proofs.HasLaws.{has_head, has_tail, has_last, has_new, has_old, has_at, at_has, has_part, part_has}
use Rattle.rules.proofs.FileLaws.{log_eta}
use Rattle.rules.proofs.InLaws.{OpIn, in_append, in_more, new_in, op_in}

-- the ops of the list are those of the log
pub record Tracks (log : Log) (ops : List Op) : Type 0 where
  pub inside : (r : Op) → has ops r ≡ true → OpIn log r
  pub outside : (r : Op) → OpIn log r → has ops r ≡ true

-- the ops of a log, replica by replica, are those in it
module _ (log : Log) (held : HeldOps log) (eight : length log ≡ 8) (r : Op) where
  listed_in : has (concat log) r ≡ true → OpIn log r
  unfolding replicas op_at
  listed_in e =
      let (s, l, u, h) = has_part (ops_of log) r 8 1 (rw (log_eta log eight) e) in
      let (i, b, g) = has_at (ops_of log s) r h in
      let c : count_in (counts_of log) s ≡ length (ops_of log s) = count_held log s in
      let k : suc i - 1 ≡ i = omega arith in
      let o = op_in log held s (suc i) l (omega arith) (omega arith) (omega arith) in
      rw (k, g) at o

  in_listed : OpIn log r → has (concat log) r ≡ true
  unfolding replicas op_at
  in_listed h =
      let c : count_in (counts_of log) (replica_of r) ≡ length (ops_of log (replica_of r)) = count_held log (replica_of r) in
      let a : has (ops_of log (replica_of r)) r ≡ true =
      rw h.there at (at_has (ops_of log (replica_of r)) (seq_of r - 1) (omega (arith, h.here, seq_positive r))) in
      rw (log_eta log eight) at (part_has (ops_of log) r 8 1 (replica_of r) h.low (omega (arith, h.high)) a)

  pub tracks_listed : (ops : List Op) → Tracks log ops → has (concat log) r ≡ has ops r
  tracks_listed ops t = both_ways _ _ (λ e. t.outside r (listed_in e)) (λ e. in_listed (t.inside r e))

pub tracks_log : (log : Log) → GoodLog log → Tracks log (concat log)
tracks_log log good = record {
  inside = listed_in log (good_ops good) good.eight;
  outside = in_listed log (good_ops good) good.eight;
}

---- one op more

module _ (log : Log) (r : Op) (eight : length log ≡ 8) (lo : 1 ≤ replica_of r) (hi : replica_of r ≤ 8)
    (next : own_count r ≡ length (ops_of log (replica_of r))) where
  pub tracks_append : (ops : List Op) → Tracks log ops → Tracks (append log r) (ops ++ (r ∷ []))
  tracks_append ops t = record {
    inside = λ x e. ⊎_elim (λ (i : has ops x ≡ true). in_more log (append log r) (append_extends log r eight lo hi) x (t.inside x i))
        (λ (i : same x r ≡ true). rw (same_eq x r i) (new_in log r eight lo hi next))
        (or_cases (has ops x) (same x r) (sym (has_last ops r x) ∙ e));
    outside = λ x i. ⊎_elim (λ (o : OpIn log x). has_old ops (r ∷ []) x (t.outside x o)) (λ (e : x ≡ r). rw e (has_new ops r))
        (in_append log r eight lo hi next x i);
  }

---- the arrangement of a list of ops

-- the only op that passes a test
first_pass : (p : Op → Bool) (r : Op) → p r ≡ true → (ops : List Op) → has ops r ≡ true → ((x : Op) → has ops x ≡ true → p x ≡ true → x ≡ r)
    → take 1 (filter p ops) ≡ r ∷ []
unfolding has any filter
first_pass p r pr [] e h = never e
first_pass p r pr (x ∷ ops) e h = go (p x) refl (first_pass p r pr ops)
  where
    go : (b : Bool) → p x ≡ b → (has ops r ≡ true → ((y : Op) → has ops y ≡ true → p y ≡ true → y ≡ r) → take 1 (filter p ops) ≡ r ∷ [])
        → take 1 (cond b (x ∷ filter p ops) (filter p ops)) ≡ r ∷ []
    go true q ih = ap (λ (y : Op). y ∷ []) (h x (has_head x ops) q)
    go false q ih =
        ih (⊎_elim (λ (z : same r x ≡ true). never (sym q ∙ rw (same_eq r x z) at pr)) (λ (z : has ops r ≡ true). z)
        (or_cases (same r x) (has ops r) e)) (λ y i. h y (has_tail x ops y i))

none_pass : (p : Op → Bool) (ops : List Op) → ((x : Op) → has ops x ≡ true → p x ≡ false) → filter p ops ≡ []
unfolding has any filter
none_pass p [] h = refl
none_pass p (x ∷ ops) h = rw (h x (has_head x ops)) (none_pass p ops (λ y i. h y (has_tail x ops y i)))

shift : (a i : ℕ) → suc a + i ≡ a + suc i
shift a i = omega arith

-- numbers from a on: op after op, and then nothing
collect : (g : ℕ → List Op) (n a : ℕ) (ops : List Op) → length ops ≤ n → ((i : ℕ) → i < length ops → g (a + i) ≡ get_or ops i [] ∷ [])
    → ((i : ℕ) → length ops ≤ i → g (a + i) ≡ []) → concat (map g (up_from a n)) ≡ ops
unfolding concat up_from
collect g zero a [] l h k = refl
collect g zero a (r ∷ ops) l h k = absurd (omega arith)
collect g (suc n) a [] l h k =
    let e : g a ≡ [] = rw (add-zero a) at (k 0 (omega arith)) in
    rw e (collect g n (suc a) [] (omega arith) (λ i j. absurd (omega arith)) (λ i j. rw (shift a i) (k (suc i) (omega arith))))
collect g (suc n) a (r ∷ ops) l h k =
    let e : g a ≡ r ∷ [] = rw (add-zero a) at (h 0 (omega arith)) in
    rw (
      e,
      collect g n (suc a) ops (omega arith) (λ i j. rw (shift a i) (h (suc i) (omega arith)))
          (λ i j. rw (shift a i) (k (suc i) (omega arith))),
    )

module _ (log : Log) (ops : List Op) (t : Tracks log ops) (held : HeldOps log) (s : ℕ) (l : 1 ≤ s) (u : s ≤ 8) where
  numbered : (q : ℕ) → 1 ≤ q → q ≤ count_in (counts_of log) s → op_numbered ops s q ≡ op_at log s q ∷ []
  unfolding op_numbered
  numbered q lq uq =
      let x = held s q l u lq uq in
      first_pass (λ r. eqb (replica_of r) s && eqb (seq_of r) q) (op_at log s q) (and_both (eq-eqb _ _ x.origin) (eq-eqb _ _ x.number))
      ops (t.outside _ (op_in log held s q l u lq uq)) (λ y i p.
      let es : replica_of y ≡ s = eqb-true _ _ (and_left (eqb (replica_of y) s) _ p) in
      let eq : seq_of y ≡ q = eqb-true _ _ (and_right (eqb (replica_of y) s) _ p) in
      sym (rw (es, eq) at (t.inside y i).there))

  unnumbered : (q : ℕ) → count_in (counts_of log) s < q → op_numbered ops s q ≡ []
  unfolding op_numbered
  unnumbered q uq =
      ap (take 1) (none_pass _ ops (λ y i. fails _ (λ p.
      let es : replica_of y ≡ s = eqb-true _ _ (and_left (eqb (replica_of y) s) _ p) in
      let eq : seq_of y ≡ q = eqb-true _ _ (and_right (eqb (replica_of y) s) _ p) in
      let b : q ≤ count_in (counts_of log) s = rw (es, eq) at (t.inside y i).here in
      omega arith)))

  in_order_law : count_in (counts_of log) s ≤ 255 → in_order ops s ≡ ops_of log s
  unfolding in_order op_at
  in_order_law full =
      let c : count_in (counts_of log) s ≡ length (ops_of log s) = count_held log s in
      collect (op_numbered ops s) _ _ (ops_of log s) (omega arith)
      (λ i j. let k : 1 + i - 1 ≡ i = omega arith in rw k at (numbered (1 + i) (omega arith) (omega arith)))
      (λ i j. unnumbered (1 + i) (omega arith))

-- the arrangement of a log's ops is the log
pub arrange_log : (log : Log) (ops : List Op) → Tracks log ops → HeldOps log → length log ≡ 8
    → ((s : ℕ) → 1 ≤ s → s ≤ 8 → count_in (counts_of log) s ≤ 255) → arrange ops ≡ log
unfolding arrange
arrange_log log ops t held eight full =
    map_replicas (in_order ops) (ops_of log) (λ s l u. in_order_law log ops t held s l u (full s l u)) ∙ log_eta log eight
