-- The order of a cut's ops: timestamps rise, and what holds of every op of the cut holds all along.
use Prim.Native.Nat.{suc, zero, ℕ, ◌≤◌, ◌<◌, ◌+◌, ◌-◌}
use borrow.Author.Tests.{eqb-true}
use lib.ListN.{take, get_or, length}
use mathlib.Core.List.{[], List, map, ◌∷◌, ◌++◌, map-append}
use mathlib.Core.Path.{◌≡◌}
use native.Mathlib.Nat.{le_refl}
use native.Mathlib.Omega.{arith}
use Rattle.lists.proofs.BoolLaws.{and_left}
use Rattle.lists.proofs.EachLaws.{Each, each_map, each_append, each_filter, each_down, each_test, each_up}
use Rattle.lists.specs.Lists.{up_from, concat}
use Rattle.rules.specs.File.{Log, op_at, ops_of}
use Rattle.rules.specs.Op.{Vector, replicas, Op, count_in}
use Rattle.rules.specs.Replay.{Stamped, stamped, of_time, of_replica, ops_within, of_kind, stamp, ordered, by_time}

module _ (P : Stamped → Type 0) where
  -- the ops that a vector counts
  each_taken : (log : Log) (n : ℕ) (rs : List Op) → ((i : ℕ) → i < n → i < length rs → P (stamp log (get_or rs i [])))
      → Each P (map (stamp log) (take n rs))
  each_taken log zero rs h = tt
  each_taken log (suc n) [] h = tt
  each_taken log (suc n) (r ∷ rs) h = (
    h 0 (omega arith) (omega arith),
    each_taken log n rs
        (λ i a b. h (suc i) (omega arith) (omega arith)),
  )

  each_part : (log : Log) (F : ℕ → List Op) (n a : ℕ) → ((s : ℕ) → a ≤ s → s < a + n → Each P (map (stamp log) (F s)))
      → Each P (map (stamp log) (concat (map F (up_from a n))))
  unfolding up_from concat
  each_part log F zero a h = tt
  each_part log F (suc n) a h =
      rw map-append (each_append P (map (stamp log) (F a)) _ (h a (le_refl a) (omega arith))
      (each_part log F n (suc a) (λ s l u. h s (omega arith) (omega arith))))

  each_stamped : (log : Log) (v : Vector) → ((s q : ℕ) → 1 ≤ s → s ≤ 8 → 1 ≤ q → q ≤ count_in v s → P (stamp log (op_at log s q)))
      → Each P (stamped log v)
  unfolding stamped ops_within replicas op_at
  each_stamped log v h =
      each_part log (λ s. take (count_in v s) (ops_of log s)) 8 1 (λ s l u. each_taken log (count_in v s) (ops_of log s) (λ i a b.
      let k : i + 1 - 1 ≡ i = omega arith in
      rw k at (h s (i + 1) l (omega arith) (omega arith) (omega arith))))

---- times rise

-- no op stands before one with a smaller timestamp
abbrev pub RisingTimes : List Stamped → Type 0
RisingTimes [] = Unit {0}
RisingTimes (x ∷ xs) = Each (λ y. x.time ≤ y.time) xs × RisingTimes xs

rising_append : (b : ℕ) (xs ys : List Stamped) → RisingTimes xs → RisingTimes ys → Each (λ x. x.time ≤ b) xs → Each (λ y. b ≤ y.time) ys
    → RisingTimes (xs ++ ys)
rising_append b [] ys r s lo hi = s
rising_append b (x ∷ xs) ys r s lo hi =
    (each_append _ xs ys r.0 (each_map _ _ ys (λ y h. omega (arith, lo.0)) hi), rising_append b xs ys r.1 s lo.1 hi)

rising_same : (t : ℕ) (xs : List Stamped) → Each (λ x. x.time ≡ t) xs → RisingTimes xs
rising_same t [] h = tt
rising_same t (x ∷ xs) h = (each_map _ _ xs (λ y e. omega (arith, h.0)) h.1, rising_same t xs h.1)

rising_up : (F : ℕ → List Stamped) → ((t : ℕ) → Each (λ x. x.time ≡ t) (F t)) → (n a : ℕ) → RisingTimes (concat (map F (up_from a n)))
unfolding up_from concat
rising_up F h zero a = tt
rising_up F h (suc n) a =
    rising_append a (F a) _ (rising_same a (F a) (h a)) (rising_up F h n (suc a)) (each_map _ _ (F a) (λ x e. omega arith) (h a))
    (each_up (λ y. a ≤ y.time) F n (suc a) (λ t l u. each_map _ _ (F t) (λ x e. omega arith) (h t)))

of_time_law : (xs : List Stamped) (t : ℕ) → Each (λ x. x.time ≡ t) (of_time xs t)
unfolding of_time of_kind of_replica
of_time_law xs t =
    each_up (λ x. x.time ≡ t) (of_kind xs t) 4 1 (λ k a b. each_down (λ x. x.time ≡ t) (of_replica xs t k) 8
    (λ s. each_test (λ x. x.time ≡ t) _ xs (λ x e. eqb-true _ _ (and_left _ _ (and_left _ _ e)))))

module _ (log : Log) (cut : Vector) where
  pub ordered_rising : RisingTimes (ordered log cut)
  unfolding ordered by_time
  ordered_rising = rising_up (of_time (stamped log cut)) (of_time_law (stamped log cut)) _ 1

  pub ordered_each : (P : Stamped → Type 0)
      → ((s q : ℕ) → 1 ≤ s → s ≤ 8 → 1 ≤ q → q ≤ count_in cut s → P (stamp log (op_at log s q))) → Each P (ordered log cut)
  unfolding ordered by_time of_time of_kind of_replica
  ordered_each P h =
      each_up P (of_time (stamped log cut)) _ 1 (λ t a b.
      each_up P (of_kind (stamped log cut) t) 4 1 (λ k c d.
      each_down P (of_replica (stamped log cut) t k) 8 (λ s. each_filter P _ (stamped log cut) (each_stamped P log cut h))))
