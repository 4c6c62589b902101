-- The ops of a log beyond another's counts, in the order of replay: each of them once, in causal order, so many of each replica.
use Prim.Native.Nat.{ℕ, ◌+◌, ◌*◌, ◌-◌, ◌≤◌, ◌<◌}
use borrow.Author.Tests.{ltb-true, lt-ltb, eq-eqb, ne_eqb}
use lib.Dec.{ltb, eqb}
use lib.ListN.{length, take, get_or, length-map}
use mathlib.Core.Bool.{Bool, true, false, cond, ◌&&◌}
use mathlib.Core.List.{List, [], ◌∷◌, map}
use mathlib.Core.Logic.{⊎_elim}
use mathlib.Core.Path.{◌≡◌, refl, sym, ap, ◌∙◌}
use native.Mathlib.Nat.{le_refl}
use native.Mathlib.Omega.{arith}
use Rattle.lists.proofs.BoolLaws.{and_both, and_true, and_false, never, or_cases}
use Rattle.lists.proofs.EachLaws.{Each, each_both, each_filter, each_map, each_of_map, each_passed}
use Rattle.lists.proofs.FilterLaws.{filter_both, filter_concat, filter_map, filter_none, filter_part, some_passes, passing_above}
use Rattle.lists.proofs.GreatestLaws.{some_greatest}
use Rattle.lists.proofs.ListLaws.{length_concat, same_eq, same_refl}
use Rattle.lists.specs.Lists.{up_from, sum, greatest, same, any, filter}
use Rattle.order.proofs.LevelLaws.{whole_cut, counted_value, earlier}
use Rattle.order.proofs.OnceLaws.{ordered_once}
use Rattle.order.proofs.OrderLaws.{RisingTimes, ordered_rising, ordered_each}
use Rattle.rules.proofs.AppendLaws.{seq_positive}
use Rattle.rules.proofs.BundleLaws.{whole, bodies, long}
use Rattle.rules.proofs.FileLaws.{count_map, Wide, WideLog, wide_at, wide_op}
use Rattle.rules.proofs.InLaws.{OpIn, op_in}
use Rattle.rules.proofs.ReplicaLaws.{map_replicas}
use Rattle.rules.proofs.StructureLaws.{GoodLog, good_ops, count_held}
use Rattle.rules.proofs.TurnLaws.{CausalOrder}
use Rattle.rules.specs.Bundle.{beyond_counts, is_beyond, ops_beyond, bundle_of, bodies_in, ops_by, whole_bundle}
use Rattle.rules.specs.File.{Log, ops_of, op_at, counts_of}
use Rattle.rules.specs.Op.{Op, Vector, replicas, count_in, replica_of, seq_of, vector_of}
use Rattle.rules.specs.Replay.{Stamped, ops_within, stamp, stamped, ordered, timestamp}

times_filter : (p : Stamped → Bool) (xs : List Stamped) → RisingTimes xs → RisingTimes (filter p xs)
unfolding filter
times_filter p [] h = tt
times_filter p (x ∷ xs) h = go (p x) (times_filter p xs h.1)
  where
    go : (b : Bool) → RisingTimes (filter p xs) → RisingTimes (cond b (x ∷ filter p xs) (filter p xs))
    go true ih = (each_filter _ p xs h.0, ih)
    go false ih = ih

---- ops of a log by rising timestamps are in causal order

-- an op of the log with its timestamp
record Sent (log : Log) (x : Stamped) : Type 0 where
  op_of : OpIn log x.op
  stamp_of : x.time ≡ timestamp log x.op

found : (P : Stamped → Type 0) (r : Op) (xs : List Stamped) → Each P xs → any (same r) (map (λ (x : Stamped). x.op) xs) ≡ true
    → (x : Stamped) × P x × (x.op ≡ r)
unfolding any
found P r [] h e = never e
found P r (x ∷ xs) h e =
    ⊎_elim (λ (q : same r x.op ≡ true). (x, h.0, sym (same_eq r x.op q)))
    (λ (q : any (same r) (map (λ (y : Stamped). y.op) xs) ≡ true). found P r xs h.1 q) (or_cases (same r x.op) _ e)

rising_causal : (log : Log) → GoodLog log → (xs : List Stamped) → Each (Sent log) xs → RisingTimes xs
    → CausalOrder log (map (λ (x : Stamped). x.op) xs)
rising_causal log good [] ts ri = tt
rising_causal log good (x ∷ xs) ts ri = (before, rising_causal log good xs ts.1 ri.1)
  where
    no_earlier : Each (λ y. Sent log y × (x.time ≤ y.time)) (x ∷ xs)
    no_earlier = ((ts.0, le_refl _), each_both (Sent log) (λ y. x.time ≤ y.time) xs ts.1 ri.0)

    before : (s q : ℕ) → 1 ≤ s → s ≤ 8 → 1 ≤ q → q ≤ count_in (vector_of x.op) s
        → any (same (op_at log s q)) (map (λ (y : Stamped). y.op) (x ∷ xs)) ≡ true → ⊥
    before s q l u lq uq e =
        let o = ts.0.op_of in
        let (y, (t, late), same_op) = found (λ y. Sent log y × (x.time ≤ y.time)) (op_at log s q) (x ∷ xs) no_earlier e in
        let at : y.time ≡ timestamp log (op_at log s q) = t.stamp_of ∙ ap (timestamp log) same_op in
        let own : timestamp log (op_at log (replica_of x.op) (seq_of x.op)) ≡ x.time = ap (timestamp log) o.there
        ∙ sym ts.0.stamp_of in
        omega (
          arith,
          earlier log good (replica_of x.op) (seq_of x.op) o.low o.high (seq_positive x.op) o.here s q l u lq
              (rw o.there uq),
        )

---- the ops beyond the counts v

module _ (log : Log) (good : GoodLog log) (v : Vector) where
  abbrev all_held : Vector
  all_held = counts_of log

  -- with their timestamps
  unfoldable beyond : List Stamped
  beyond = filter (is_beyond v) (ordered log all_held)

  beyond_ops : ops_beyond log v ≡ map (λ (x : Stamped). x.op) beyond
  unfolding ops_beyond beyond
  beyond_ops = refl

  beyond_rising : RisingTimes beyond
  unfolding beyond
  beyond_rising = times_filter (is_beyond v) (ordered log all_held) (ordered_rising log all_held)

  is_beyond_so : (s q : ℕ) → 1 ≤ s → s ≤ 8 → 1 ≤ q → q ≤ count_in all_held s → is_beyond v (stamp log (op_at log s q)) ≡ ltb (count_in v s) q
  unfolding is_beyond stamp
  is_beyond_so s q l u lq uq = let x = good_ops good s q l u lq uq in rw (x.origin, x.number)

  beyond_each : (P : Stamped → Type 0) → ((s q : ℕ) → 1 ≤ s → s ≤ 8 → 1 ≤ q → q ≤ count_in all_held s → count_in v s < q
      → P (stamp log (op_at log s q))) → Each P beyond
  unfolding beyond
  beyond_each P h =
      each_passed P (is_beyond v) (ordered log all_held) (ordered_each log all_held (λ x. is_beyond v x ≡ true → P x) (λ s q l u lq uq e.
      h s q l u lq uq (ltb-true _ _ (sym (is_beyond_so s q l u lq uq) ∙ e))))

  beyond_sent : Each (Sent log) beyond
  unfolding stamp
  beyond_sent =
      beyond_each (Sent log) (λ s q l u lq uq b. record { op_of = op_in log (good_ops good) s q l u lq uq; stamp_of = refl })

  pub beyond_in : Each (OpIn log) (ops_beyond log v)
  beyond_in =
      rw beyond_ops (each_of_map (OpIn log) (λ (x : Stamped). x.op) beyond (each_map (Sent log) _ beyond (λ x t. t.op_of) beyond_sent))

  pub beyond_causal : CausalOrder log (ops_beyond log v)
  beyond_causal = rw beyond_ops (rising_causal log good beyond beyond_sent beyond_rising)

  -- as many of them pass a test as of all ops that are beyond
  count_beyond : (P : Stamped → Bool) → length (filter P beyond) ≡ length (filter (λ x. is_beyond v x && P x) (stamped log all_held))
  unfolding beyond
  count_beyond P =
      ap length (sym (filter_both (is_beyond v) P (ordered log all_held)))
      ∙ ordered_once log good all_held (whole_cut log good) (λ x. is_beyond v x && P x)

  pub beyond_has : (s q : ℕ) → 1 ≤ s → s ≤ 8 → 1 ≤ q → q ≤ count_in all_held s → count_in v s < q
      → any (same (op_at log s q)) (ops_beyond log v) ≡ true
  unfolding stamped stamp
  beyond_has s q l u lq uq b =
      let r : Op = op_at log s q in
      let p : Stamped → Bool = λ x. is_beyond v x && same r x.op in
      let one : p (stamp log r) ≡ true = and_both (is_beyond_so s q l u lq uq ∙ lt-ltb _ _ b) (same_refl r) in
      let some : ◌≡◌ {A = ℕ} (cond (p (stamp log r)) 1 0) 1 = rw one in
      let great : 1 ≤ greatest (map (λ (y : Op). cond (p (stamp log y)) 1 0) (ops_within log all_held)) =
      omega (arith, counted_value log all_held (λ y. cond (p (stamp log y)) 1 0) s q l u lq uq uq) in
      let n : 1 ≤ length (filter (λ (x : Stamped). same r x.op) beyond) =
      rw (count_beyond (λ x. same r x.op), filter_map p (stamp log) (ops_within log all_held), length-map)
      (some_greatest (λ y. p (stamp log y)) (ops_within log all_held) great) in
      some_passes (same r) (ops_beyond log v) (rw (beyond_ops, filter_map (same r) (λ (x : Stamped). x.op) beyond, length-map) n)

  ---- how many there are of each replica

  abbrev part : ℕ → List Op
  part s = take (count_in all_held s) (ops_of log s)

  at_place : (s i : ℕ) → get_or (ops_of log s) i [] ≡ op_at log s (i + 1)
  unfolding op_at
  at_place s i = let e : i + 1 - 1 ≡ i = omega arith in rw e

  module _ (s : ℕ) (l : 1 ≤ s) (u : s ≤ 8) where
    -- a test that the ops of replica s pass from the other's count on
    count_part : (p : Op → Bool) → ((q : ℕ) → 1 ≤ q → q ≤ count_in all_held s → p (op_at log s q) ≡ ltb (count_in v s) q)
        → length (filter p (part s)) ≡ count_in all_held s - count_in v s
    count_part p h =
        passing_above p [] (count_in v s) (count_in all_held s) 0 (ops_of log s) (omega (arith, count_held log s)) (λ i b.
        rw (at_place s i) (h (i + 1) (omega arith) (omega arith) ∙ ap (ltb (count_in v s)) (omega arith))) ∙ omega arith

    pub beyond_by : ops_by (ops_beyond log v) s ≡ count_in (beyond_counts log v) s
    unfolding ops_by beyond_counts stamped ops_within replicas stamp
    beyond_by =
        let p : Stamped → Bool = λ x. is_beyond v x && eqb (replica_of x.op) s in
        let one : filter p (stamped log all_held) ≡ filter p (map (stamp log) (part s)) =
        filter_part p (stamp log) part 8 1 s l (omega arith) (λ t a b ne.
        filter_none p (stamp log) [] (count_in all_held t) (ops_of log t) (λ i c d.
        rw (at_place t i, (good_ops good t (i + 1) a (omega arith) (omega arith) (omega arith)).origin, ne_eqb t s ne, and_false))) in
        rw (
          beyond_ops,
          filter_map (λ r. eqb (replica_of r) s) (λ (x : Stamped). x.op) beyond,
          length-map,
          count_beyond (λ x. eqb (replica_of x.op) s),
          one,
          filter_map p (stamp log) (part s),
          length-map,
          count_map (λ t. count_in all_held t - count_in v t) s l u,
        )
        (count_part (λ r. p (stamp log r)) (λ q lq uq.
        rw ((good_ops good s q l u lq uq).origin, eq-eqb s s refl, and_true) (is_beyond_so s q l u lq uq)))

  pub beyond_length : length (ops_beyond log v) ≡ sum (beyond_counts log v)
  unfolding beyond beyond_counts stamped ops_within
  beyond_length =
      let p : Op → Bool = λ r. is_beyond v (stamp log r) in
      rw (beyond_ops, length-map) (ordered_once log good all_held (whole_cut log good) (is_beyond v)
      ∙ rw (filter_map (is_beyond v) (stamp log) (ops_within log all_held), length-map, filter_concat p part replicas)
      (length_concat (λ s. filter p (part s)) replicas ∙ ap sum (map_replicas _ _ (λ s l u.
      count_part s l u p (λ q lq uq. is_beyond_so s q l u lq uq)))))

  ---- the bundle's bytes

  module _ (w : ℕ) (wide : WideLog w log) where
    wide_ops : (xs : List Stamped) → Each (λ x. length x.op ≡ w) xs → Wide w (map (λ (x : Stamped). x.op) xs)
    wide_ops [] h = tt
    wide_ops (x ∷ xs) h = (h.0, wide_ops xs h.1)

    beyond_wide : Wide w (ops_beyond log v)
    unfolding op_at ops_of stamp
    beyond_wide =
        rw beyond_ops (wide_ops beyond (beyond_each (λ x. length x.op ≡ w) (λ s q l u lq uq b.
        wide_op w (ops_of log s) (q - 1) (wide_at w log (s - 1) wide) (omega (arith, count_held log s)))))

    eight : length (beyond_counts log v) ≡ 8
    unfolding beyond_counts replicas up_from
    eight = refl

    -- it passes test 12, its bodies are the ops beyond, and its length follows from the counts
    pub bundle_whole : whole_bundle w (bundle_of log v) ≡ true
    unfolding bundle_of
    bundle_whole = whole w (beyond_counts log v) (ops_beyond log v) eight beyond_wide beyond_length beyond_by

    pub bundle_bodies : bodies_in w (bundle_of log v) ≡ ops_beyond log v
    unfolding bundle_of
    bundle_bodies = bodies w (beyond_counts log v) (ops_beyond log v) eight beyond_wide beyond_length

    pub bundle_length : length (bundle_of log v) ≡ 1 + length (filter (ltb 0) (beyond_counts log v)) + w * sum (beyond_counts log v)
    unfolding bundle_of
    bundle_length = long w (beyond_counts log v) (ops_beyond log v) eight beyond_wide beyond_length
