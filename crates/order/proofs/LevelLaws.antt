-- The order of replay is that of the levels.
use mathlib.Core.Path.{◌≡◌, refl, ap, ap₂, ◌∙◌}
use mathlib.Core.Logic.{◌⊎◌, inl, inr, ⊎_elim}
use mathlib.Core.Bool.{Bool, true, false, cond, ◌&&◌}
use mathlib.Core.List.{List, ◌∷◌, ◌++◌, map, map-append, append-nil, []}
use Prim.Native.Nat.{ℕ, zero, suc, ◌+◌, ◌-◌, ◌≤◌, ◌<◌}
use native.Mathlib.Nat.{le_refl}
use native.Mathlib.Omega.{arith}
use native.Mathlib.Decide.{ℕ_discrete, dec_le}
use borrow.Author.Tests.{leb-false, ltb-true, ltb-false, eq-eqb, ne_eqb}
use lib.ListN.{take, get_or}
use lib.Dec.{leb, ltb, eqb}
use Rattle.lists.specs.Lists.{up_from, greatest, concat, filter}
use Rattle.rules.specs.Op.{Op, Vector, replicas, count_in, kind_of, replica_of, vector_of}
use Rattle.rules.specs.File.{Log, ops_of, op_at, counts_of, within}
use Rattle.rules.specs.Log.{covered, closed}
use Rattle.rules.specs.Tree.{slots}
use Rattle.rules.specs.Replay.{Stamped, ops_within, timestamp_in, timestamp, stamp, stamped, of_replica, of_kind, of_time, by_time, ordered}
use Rattle.rules.proofs.ReplicaLaws.{replica_fails}
use Rattle.lists.proofs.BoolLaws.{and_false, and_true}
use Rattle.rules.proofs.CausalLaws.{Le, within_le, count_none, total_small, own, counted_le}
use Rattle.rules.proofs.TimeLaws.{timestamp_equation}
use Rattle.lists.proofs.GreatestLaws.{greatest_take, greatest_bound, greatest_part, greatest_parts}
use Rattle.lists.proofs.FilterLaws.{filter_none, filter_one, filter_part}
use Rattle.lists.proofs.RangeLaws.{map_up_from, map_down_from, up_from_add, concat_nothing, concat_none}
use Rattle.lists.proofs.ListLaws.{concat_append}
use Rattle.rules.proofs.StructureLaws.{count_held, held_in, GoodLog, good_ops, counts_covered, counts_closed}
use Rattle.rules.proofs.FileLaws.{count_map}
use Rattle.order.specs.Levels.{ready, next_at, ready_ops, advanced_at, advanced, ready_op, level_kind, level, levels, nothing}
use Rattle.rules.proofs.ClimbLaws.{up}

pub count_nothing : (s : ℕ) → 1 ≤ s → s ≤ 8 → count_in nothing s ≡ 0
unfolding nothing
count_nothing = count_none

-- a function's greatest value on what a vector counts
module _ (log : Log) (v : Vector) (g : Op → ℕ) where
  pub counted_value : (s q : ℕ) → 1 ≤ s → s ≤ 8 → 1 ≤ q → q ≤ count_in v s → q ≤ count_in (counts_of log) s
      → g (op_at log s q) ≤ greatest (map g (ops_within log v))
  unfolding ops_within op_at replicas
  counted_value s q l u lq uq hq =
      omega (
        arith,
        greatest_part g (λ r. take (count_in v r) (ops_of log r)) 8 1 s l (omega arith),
        greatest_take g [] (count_in v s)
            (ops_of log s) (q - 1) (omega arith) (omega (arith, count_held log s)),
      )

  pub counted_bound : (b : ℕ) → ((s q : ℕ) → 1 ≤ s → s ≤ 8 → 1 ≤ q → q ≤ count_in v s → g (op_at log s q) ≤ b)
      → greatest (map g (ops_within log v)) ≤ b
  unfolding ops_within op_at replicas
  counted_bound b h =
      greatest_parts g (λ r. take (count_in v r) (ops_of log r)) 8 1 b (λ s l u.
      greatest_bound g [] (count_in v s) b (ops_of log s) (λ i a c.
      let k : i + 1 - 1 ≡ i = omega arith in
      rw k at (h s (i + 1) l (omega arith) (omega arith) (omega arith))))

pub timestamp_bound : (k : ℕ) (log : Log) (r : Op) → timestamp_in k log r ≤ k
unfolding timestamp_in
timestamp_bound zero log r = omega arith
timestamp_bound (suc k) log r = omega (
  arith,
  counted_bound log (vector_of r) (timestamp_in k log) k
      (λ s q l u lq uq. timestamp_bound k log (op_at log s q)),
)

-- a time past the greatest has no ops
filter_past : (xs : List Stamped) (t k s : ℕ) → greatest (map (λ (x : Stamped). x.time) xs) < t → of_replica xs t k s ≡ []
unfolding of_replica filter greatest
filter_past [] t k s h = refl
filter_past (x ∷ xs) t k s h =
    let a : greatest (map (λ (x : Stamped). x.time) xs) < t = omega arith in
    rw (ne_eqb x.time t (λ e. omega arith)) (filter_past xs t k s a)

time_past : (xs : List Stamped) (t : ℕ) → greatest (map (λ (x : Stamped). x.time) xs) < t → of_time xs t ≡ []
unfolding of_time of_kind
time_past xs t h = concat_nothing (of_kind xs t) 4 1 (λ k a b. concat_none (of_replica xs t k) 8 (λ s l u. filter_past xs t k s h))

pub by_time_more : (xs : List Stamped) (n : ℕ) → greatest (map (λ (x : Stamped). x.time) xs) ≤ n
    → by_time xs ≡ concat (map (of_time xs) (up_from 1 n))
unfolding by_time
by_time_more xs n h =
    let g : ℕ = greatest (map (λ (x : Stamped). x.time) xs) in
    let e : n ≡ g + (n - g) = omega arith in
    let past : concat (map (of_time xs) (up_from (1 + g) (n - g))) ≡ [] = concat_nothing (of_time xs) (n - g) (1 + g)
    (λ t a b. time_past xs t (omega arith)) in
    rw (e, up_from_add 1 g (n - g), map-append, concat_append, past, append-nil)

pub stamped_times : (log : Log) (rs : List Op) → map (λ (x : Stamped). x.time) (map (stamp log) rs) ≡ map (timestamp log) rs
unfolding stamp
stamped_times log [] = refl
stamped_times log (r ∷ rs) = ap (◌∷◌ (timestamp log r)) (stamped_times log rs)

-- the test of a time, kind and replica
abbrev pub matches : (t k s : ℕ) → Stamped → Bool
matches t k s x = eqb x.time t && eqb (kind_of x.op) k && eqb (replica_of x.op) s

-- what is asked of a cut: its ops are held, and it is closed
pub record Cut (log : Log) (cut : Vector) : Type 0 where
  pub is_covered : covered log cut ≡ true
  pub is_closed : closed log cut ≡ true

pub whole_cut : (log : Log) → GoodLog log → Cut log (counts_of log)
whole_cut log good = record { is_covered = counts_covered log; is_closed = counts_closed log good }

module _ (log : Log) (good : GoodLog log) where
  abbrev pub time_of : ℕ → ℕ → ℕ
  time_of s q = timestamp log (op_at log s q)

  abbrev pub vec : ℕ → ℕ → Vector
  vec s q = vector_of (op_at log s q)

  module _ (s q : ℕ) (l : 1 ≤ s) (u : s ≤ 8) (lq : 1 ≤ q) (uq : q ≤ count_in (counts_of log) s) where
    pub equation : time_of s q ≡ 1 + greatest (map (timestamp log) (ops_within log (vec s q)))
    equation =
        let x = good_ops good s q l u lq uq in
        timestamp_equation log (good_ops good) (op_at log s q) x.is_covered x.is_closed
        (total_small (vec s q) (λ r a b. omega (arith, held_in log (vec s q) x.is_covered r a b, good.counts r a b)))

    -- what the op's vector counts is earlier
    pub earlier : (r p : ℕ) → 1 ≤ r → r ≤ 8 → 1 ≤ p → p ≤ count_in (vec s q) r → time_of r p < time_of s q
    earlier r p a b lp up =
        let x = good_ops good s q l u lq uq in
        omega (
          arith,
          equation,
          counted_value log (vec s q) (timestamp log) r p a b lp up
              (omega (arith, held_in log (vec s q) x.is_covered r a b)),
        )

    -- and the op is no later than it must be
    no_later : (t : ℕ) → 1 ≤ t → ((r p : ℕ) → 1 ≤ r → r ≤ 8 → 1 ≤ p → p ≤ count_in (vec s q) r → time_of r p < t) → time_of s q ≤ t
    no_later t lt h =
        omega (arith, equation, counted_bound log (vec s q) (timestamp log) (t - 1) (λ r p a b lp up. omega (arith, h r p a b lp up)))

    pub positive : 1 ≤ time_of s q
    positive = omega (arith, equation)

  own_count_law : (s q : ℕ) → 1 ≤ s → s ≤ 8 → 1 ≤ q → q ≤ count_in (counts_of log) s → count_in (vec s q) s + 1 ≡ q
  own_count_law = own log (good_ops good)

  -- timestamps rise along a replica
  pub rising : (s q p : ℕ) → 1 ≤ s → s ≤ 8 → 1 ≤ q → q < p → p ≤ count_in (counts_of log) s → time_of s q < time_of s p
  rising s q p l u lq h up =
      earlier s p l u (omega arith) up s q l u lq (omega (arith, own_count_law s p l u (omega arith) up))

  module _ (cut : Vector) (is : Cut log cut) where
    -- done counts the ops of the cut with a timestamp below t
    pub record AtLevel (t : ℕ) (done : Vector) : Type 0 where
      pub inside : Le done cut
      pub low : (s q : ℕ) → 1 ≤ s → s ≤ 8 → 1 ≤ q → q ≤ count_in done s → time_of s q < t
      pub high : (s q : ℕ) → 1 ≤ s → s ≤ 8 → count_in done s < q → q ≤ count_in cut s → t ≤ time_of s q

    held_cut : (s : ℕ) → 1 ≤ s → s ≤ 8 → count_in cut s ≤ count_in (counts_of log) s
    held_cut = held_in log cut is.is_covered

    ---- the ops of a time, kind and replica

    abbrev part : ℕ → List Op
    part r = take (count_in cut r) (ops_of log r)

    -- what is known of the op at place i
    at_place : (r i : ℕ) → 1 ≤ r → r ≤ 8 → i < count_in cut r
        → (replica_of (get_or (ops_of log r) i []) ≡ r) × (timestamp log (get_or (ops_of log r) i []) ≡ time_of r (i + 1))
    unfolding op_at
    at_place r i a b h =
        let e : i + 1 - 1 ≡ i = omega arith in
        let x = good_ops good r (i + 1) a b (omega arith) (omega (arith, held_cut r a b)) in
        (rw e at x.origin, rw e)

    other : (t k s r : ℕ) → 1 ≤ r → r ≤ 8 → (r ≡ s → ⊥) → filter (matches t k s) (map (stamp log) (part r)) ≡ []
    unfolding stamp
    other t k s r a b ne =
        filter_none (matches t k s) (stamp log) [] (count_in cut r) (ops_of log r) (λ i h c.
        rw ((at_place r i a b h).0, ne_eqb r s ne, and_false))

    -- only the replica's own ops can pass
    pub of_replica_law : (t k s : ℕ) → 1 ≤ s → s ≤ 8 → of_replica (stamped log cut) t k s ≡ filter (matches t k s) (map (stamp log) (part s))
    unfolding of_replica stamped ops_within replicas
    of_replica_law t k s l u =
        filter_part (matches t k s) (stamp log) part 8 1 s l (omega arith) (λ r a b ne. other t k s r a (omega arith) ne)

    -- an op of another time does not
    pub off_time : (t k s i : ℕ) → 1 ≤ s → s ≤ 8 → i < count_in cut s → (time_of s (i + 1) ≡ t → ⊥)
        → matches t k s (stamp log (get_or (ops_of log s) i [])) ≡ false
    unfolding stamp
    off_time t k s i l u h ne = rw ((at_place s i l u h).1, ne_eqb (time_of s (i + 1)) t ne)

    module _ (t : ℕ) (lt : 1 ≤ t) (done : Vector) (at : AtLevel t done) where
      module _ (s : ℕ) (l : 1 ≤ s) (u : s ≤ 8) where
        -- an op that is ready has time t
        ready_time : count_in done s < count_in cut s → within (vec s (count_in done s + 1)) done ≡ true → time_of s (count_in done s + 1) ≡ t
        ready_time h w =
            let v : Vector = vec s (count_in done s + 1) in
            let a = at.high s (count_in done s + 1) l u (omega arith) (omega arith) in
            let b = no_later s (count_in done s + 1) l u (omega arith) (omega (arith, held_cut s l u)) t lt
            (λ r p c d lp up. at.low r p c d lp (omega (arith, within_le v done w r c d))) in
            omega arith

        -- and one that is not is later
        late_time : count_in done s < count_in cut s → within (vec s (count_in done s + 1)) done ≡ false → t < time_of s (count_in done s + 1)
        unfolding within
        late_time h w =
            let v : Vector = vec s (count_in done s + 1) in
            let (r, a, b, f) = replica_fails (λ z. leb (count_in v z) (count_in done z)) w in
            let f' = leb-false (count_in v r) (count_in done r) f in
            let hs = held_cut s l u in
            let c = counted_le log (good_ops good) cut is.is_covered is.is_closed s (count_in done s + 1) l u (omega arith)
            (omega arith) r a b in
            let e = earlier s (count_in done s + 1) l u (omega arith) (omega arith) r (count_in done r + 1) a b (omega arith) (omega arith) in
            let g = at.high r (count_in done r + 1) a b (omega arith) (omega arith) in
            omega arith

      pub next_count : (s : ℕ) → 1 ≤ s → s ≤ 8 → count_in (ready_ops log cut done) s ≡ next_at log cut done s
      unfolding ready_ops
      next_count s l u = count_map (next_at log cut done) s l u

      pub done_count : (s : ℕ) → 1 ≤ s → s ≤ 8 → count_in (advanced done (ready_ops log cut done)) s ≡ cond (ready log cut done s)
          (count_in done s + 1) (count_in done s)
      unfolding advanced advanced_at next_at
      done_count s l u = count_map (advanced_at done (ready_ops log cut done)) s l u ∙ go (ready log cut done s) refl
        where
          go : (b : Bool) → ready log cut done s ≡ b → advanced_at done (ready_ops log cut done) s ≡ cond b (count_in done s + 1)
              (count_in done s)
          go true e = rw (next_count s l u, e, ne_eqb (count_in done s + 1) 0 (λ z. omega arith))
          go false e = rw (next_count s l u, e)

      -- a replica's next op is ready and has time t, or is not and is later
      pub status : (s : ℕ) → 1 ≤ s → s ≤ 8
          → ((ready log cut done s ≡ true) × (count_in done s < count_in cut s) × (time_of s (count_in done s + 1) ≡ t))
          ⊎ ((ready log cut done s ≡ false) × (count_in done s < count_in cut s → t < time_of s (count_in done s + 1)))
      unfolding ready
      status s l u = go (ltb (count_in done s) (count_in cut s)) refl (within (vec s (count_in done s + 1)) done) refl
        where
          go : (a : Bool) → ltb (count_in done s) (count_in cut s) ≡ a → (b : Bool) → within (vec s (count_in done s + 1)) done ≡ b
              → (((a && b) ≡ true) × (count_in done s < count_in cut s) × (time_of s (count_in done s + 1) ≡ t))
              ⊎ (((a && b) ≡ false) × (count_in done s < count_in cut s → t < time_of s (count_in done s + 1)))
          go true ea true eb = inl (refl, ltb-true _ _ ea, ready_time s l u (ltb-true _ _ ea) eb)
          go true ea false eb = inr (refl, λ h. late_time s l u h eb)
          go false ea b eb = inr (refl, λ h. absurd (omega (arith, ltb-false (count_in done s) (count_in cut s) ea)))

      -- the next level
      pub next_level : AtLevel (suc t) (advanced done (ready_ops log cut done))
      next_level = record {
        inside = λ s l u. ⊎_elim
            (λ x. rw (done_count s l u, x.0) (omega (arith, x.1)))
            (λ x. rw (done_count s l u, x.0) (at.inside s l u))
            (status s l u);
        low = λ s q l u lq uq. ⊎_elim
            (λ x. let e = rw (done_count s l u, x.0) at uq in elim (ℕ_discrete q (count_in done s + 1)) [
              | yes z ↦ rw z (omega (arith, x.2))
              | no nz ↦ omega (arith, at.low s q l u lq (omega arith))
            ])
            (λ x. let e = rw (done_count s l u, x.0) at uq in omega (arith, at.low s q l u lq e))
            (status s l u);
        high = λ s q l u lq uq. ⊎_elim
            (λ x. let e = rw (done_count s l u, x.0) at lq in omega (
              arith,
              x.2,
              rising s (count_in done s + 1) q l u (omega arith)
                  (omega arith) (omega (arith, held_cut s l u)),
            ))
            (λ x. let e = rw (done_count s l u, x.0) at lq in elim (ℕ_discrete q (count_in done s + 1)) [
              | yes z ↦ rw z (x.1 (omega arith))
              | no nz ↦ omega (
                arith,
                x.1 (omega arith),
                rising s (count_in done s + 1) q l u (omega arith) (omega arith)
                    (omega (arith, held_cut s l u)),
              )
            ])
            (status s l u);
      }

      module _ (k s : ℕ) (l : 1 ≤ s) (u : s ≤ 8) where
        same_time : (i : ℕ) → i < count_in cut s → (i ≡ count_in done s → ⊥) → time_of s (i + 1) ≡ t → ⊥
        same_time i h ne e = elim (dec_le (count_in done s) i) [
          | yes g ↦ omega (
            arith,
            at.high s (count_in done s + 1) l u (omega arith) (omega arith),
            rising s (count_in done s + 1) (i + 1) l u
                (omega arith) (omega arith) (omega (arith, held_cut s l u)),
          )
          | no g ↦ omega (arith, at.low s (i + 1) l u (omega arith) (omega arith))
        ]

        place : get_or (ops_of log s) (count_in done s) [] ≡ op_at log s (count_in done s + 1)
        unfolding op_at
        place = let e : count_in done s + 1 - 1 ≡ count_in done s = omega arith in rw e

        one_ready : of_replica (stamped log cut) t k s ≡ ready_op log t (ready_ops log cut done) k s
        unfolding ready_op next_at stamp
        one_ready = of_replica_law t k s l u ∙ ⊎_elim
            (λ x. filter_one (matches t k s) (stamp log) [] (count_in cut s) (count_in done s) (ops_of log s) x.1
            (omega (arith, x.1, held_cut s l u, count_held log s)) (λ i h c ne. off_time t k s i l u h (same_time i h ne))
            ∙ rw (
              next_count s l u,
              x.0,
              place,
              x.2,
              eq-eqb t t refl,
              (good_ops good s (count_in done s + 1) l u (omega arith)
                  (omega (arith, x.1, held_cut s l u))).origin,
              eq-eqb s s refl,
              ne_eqb (count_in done s + 1) 0 (λ z. omega arith),
              and_true,
            ))
            (λ x. filter_none (matches t k s) (stamp log) [] (count_in cut s) (ops_of log s)
            (λ i h c. off_time t k s i l u h (λ e. elim (ℕ_discrete i (count_in done s)) [
              | yes z ↦ omega (arith, x.1 (omega arith), ap (λ (j : ℕ). time_of s (j + 1)) z)
              | no nz ↦ same_time i h nz e
            ])) ∙ rw (next_count s l u, x.0))
            (status s l u)

      one_kind : (k : ℕ) → of_kind (stamped log cut) t k ≡ level_kind log t (ready_ops log cut done) k
      unfolding of_kind level_kind
      one_kind k = ap concat (map_down_from (of_replica (stamped log cut) t k) (ready_op log t (ready_ops log cut done) k) 8 (one_ready k))

      -- a level is what has time t
      pub one_level : of_time (stamped log cut) t ≡ level log t (ready_ops log cut done)
      unfolding of_time level
      one_level = ap concat (map_up_from (of_kind (stamped log cut) t) (level_kind log t (ready_ops log cut done)) 4 1 (λ k a b. one_kind k))

    all_levels : (n t : ℕ) → 1 ≤ t → (done : Vector) → AtLevel t done
        → concat (map (of_time (stamped log cut)) (up_from t n)) ≡ levels n log cut t done
    unfolding up_from concat levels
    all_levels zero t lt done at = refl
    all_levels (suc n) t lt done at =
        ap₂ ◌++◌ (one_level t lt done at) (all_levels n (suc t) (omega arith) (advanced done (ready_ops log cut done))
        (next_level t lt done at))

    pub first_level : AtLevel 1 nothing
    first_level = record {
      inside = λ s l u. omega (arith, count_nothing s l u);
      low = λ s q l u lq uq. absurd (omega (arith, count_nothing s l u));
      high = λ s q l u lq uq. positive s q l u (omega arith) (omega (arith, held_cut s l u));
    }

    -- (2) the order of replay is that of the levels
    pub ordered_levels : ordered log cut ≡ levels slots log cut 1 nothing
    unfolding ordered stamped timestamp
    ordered_levels = by_time_more (stamped log cut) slots times ∙ all_levels slots 1 (le_refl 1) nothing first_level
      where
        times : greatest (map (λ (x : Stamped). x.time) (stamped log cut)) ≤ slots
        times = rw (stamped_times log (ops_within log cut)) (counted_bound log cut (timestamp log) slots
            (λ s q l u lq uq. timestamp_bound slots log (op_at log s q)))
