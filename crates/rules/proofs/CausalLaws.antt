-- Causality in a sound log: what a closed vector counts has smaller vectors. From this: some missing op is not early.
use mathlib.Core.Path.{◌≡◌, refl, sym, ap, subst, ◌∙◌}
use mathlib.Core.Bool.{Bool, true, false}
use mathlib.Core.List.{map}
use Prim.Native.Nat.{ℕ, zero, suc, ◌+◌, ◌*◌, ◌-◌, ◌≤◌, ◌<◌}
use native.Mathlib.Nat.{le_refl, add-zero, mul-le-mul_left}
use native.Mathlib.Omega.{arith}
use borrow.Author.Tests.{le-leb, leb-true, leb-false, eq-eqb, ne_eqb}
use lib.Dec.{leb}
use lib.ListN.{length, length-take, replicate, take}
use Rattle.lists.specs.Lists.{sum}
use Rattle.rules.specs.Op.{Vector, replicas, count_in, vector_of, seq_of, own_count}
use Rattle.rules.specs.File.{Log, op_at, ops_of, counts_of, end_of, largest, within}
use Rattle.rules.specs.Log.{covered, closed_at, closed}
use Rattle.rules.specs.Replay.{ops_within}
use Rattle.lists.proofs.ListLaws.{length_concat}
use Rattle.lists.proofs.NumberLaws.{mul_step}
use Rattle.lists.proofs.RangeLaws.{sum_le, sum_less}
use Rattle.rules.proofs.FileLaws.{vector_eta}
use Rattle.rules.proofs.ReplicaLaws.{all_replicas, replica_passes, replica_fails, replica_cases, map_replicas}
use Rattle.rules.proofs.StructureLaws.{count_held, held_in, HeldOps}

-- a vector nowhere greater than another
abbrev pub Le : Vector → Vector → Type 0
Le v u = (s : ℕ) → 1 ≤ s → s ≤ 8 → count_in v s ≤ count_in u s

pub within_le : (v u : Vector) → within v u ≡ true → Le v u
unfolding within
within_le v u e s l h = leb-true _ _ (replica_passes (λ t. leb (count_in v t) (count_in u t)) e s l h)

pub le_within : (v u : Vector) → Le v u → within v u ≡ true
unfolding within
le_within v u h = all_replicas _ (λ s l b. le-leb (count_in v s) (count_in u s) (h s l b))

pub within_trans : (v u o : Vector) → within v u ≡ true → within u o ≡ true → within v o ≡ true
within_trans v u o a b = le_within v o (λ s l h. omega (arith, within_le v u a s l h, within_le u o b s l h))

-- a vector that counts so many ops of each replica; nothing
count_same : (n s : ℕ) → 1 ≤ s → s ≤ 8 → count_in (replicate 8 n) s ≡ n
unfolding count_in
count_same n = replica_cases (λ s. count_in (replicate 8 n) s ≡ n) refl refl refl refl refl refl refl refl

pub count_none : (s : ℕ) → 1 ≤ s → s ≤ 8 → count_in (replicate 8 0) s ≡ 0
count_none = count_same 0

pub none_within : (v : Vector) → within (replicate 8 0) v ≡ true
none_within v = le_within _ v (λ s l u. omega (arith, count_none s l u))

pub closed_zero : (log : Log) (v : Vector) (s : ℕ) → count_in v s ≡ 0 → closed_at log v s ≡ true
unfolding closed_at
closed_zero log v s e = rw (eq-eqb (count_in v s) 0 e)

pub none_closed : (log : Log) → closed log (replicate 8 0) ≡ true
unfolding closed
none_closed log = all_replicas (closed_at log (replicate 8 0)) (λ s l u. closed_zero log _ s (count_none s l u))

-- the number of ops that a vector counts
unfoldable pub total : Vector → ℕ
total v = sum (map (count_in v) replicas)

total_le : (v u : Vector) → Le v u → total v ≤ total u
unfolding total replicas
total_le v u b = sum_le (count_in v) (count_in u) 8 1 (λ s l h. b s l (omega arith))

total_less : (v u : Vector) → Le v u → (s : ℕ) → 1 ≤ s → s ≤ 8 → count_in v s < count_in u s → total v < total u
unfolding total replicas
total_less v u b s l h = sum_less (count_in v) (count_in u) 8 1 (λ s l h. b s l (omega arith)) s l (omega arith)

pub total_sum : (v : Vector) → length v ≡ 8 → total v ≡ sum v
unfolding total
total_sum v e = ap sum (vector_eta v e)

---- at most 255 ops of each replica

abbrev full : Vector
full = replicate 8 255

abbrev pub Small : Vector → Type 0
Small v = (s : ℕ) → 1 ≤ s → s ≤ 8 → count_in v s ≤ 255

le_full : (v : Vector) → Small v → Le v full
le_full v b s l h = rw (count_same 255 s l h) (b s l h)

pub total_small : (v : Vector) → Small v → total v ≤ 2040
unfolding sum
total_small v b = let all_in : total full ≡ 2040 = total_sum full refl in omega (arith, total_le v full (le_full v b))

---- where a file ends, by its counts

module _ (w : ℕ) where
  pub end_later : (v u : Vector) → length v ≡ 8 → length u ≡ 8 → Le v u → (s : ℕ) → 1 ≤ s → s ≤ 8 → count_in v s < count_in u s
      → end_of w v + w ≤ end_of w u
  unfolding end_of
  end_later v u ev eu b s l h few =
      let less : total v < total u = total_less v u b s l h few in
      let fits : w * (sum v + 1) ≤ w * sum u = mul-le-mul_left w (omega (arith, total_sum v ev, total_sum u eu)) in
      omega (arith, mul_step w (sum v))

  -- within the largest file; with room for one more op, if not all are counted
  module _ (v : Vector) (e : length v ≡ 8) (b : Small v) where
    pub end_most : end_of w v ≤ largest w
    unfolding end_of
    end_most =
        let fits : w * sum v ≤ w * 2040 = mul-le-mul_left w (omega (arith, total_small v b, total_sum v e)) in
        omega arith

    pub end_room : (s : ℕ) → 1 ≤ s → s ≤ 8 → count_in v s < 255 → end_of w v + w ≤ largest w
    unfolding end_of sum
    end_room s l h few = end_later v full e refl (le_full v b) s l h (rw (count_same 255 s l h) few)

pub within_length : (log : Log) (v : Vector) → covered log v ≡ true → length (ops_within log v) ≡ total v
unfolding ops_within total
within_length log v c =
    length_concat (λ s. take (count_in v s) (ops_of log s)) replicas ∙ ap sum (map_replicas _ (count_in v) (λ s l u.
    rw length-take (omega (arith, held_in log v c s l u, count_held log s))))

closed_le : (log : Log) (v : Vector) → closed log v ≡ true → (s : ℕ) → 1 ≤ s → s ≤ 8 → 1 ≤ count_in v s
    → Le (vector_of (op_at log s (count_in v s))) v
unfolding closed closed_at
closed_le log v c s l u p =
    within_le _ v (rw (ne_eqb (count_in v s) 0 (λ e. omega arith)) at (replica_passes (closed_at log v) c s l u))

module _ (log : Log) (ops : HeldOps log) where
  -- the vector of replica s's op q
  abbrev vec : ℕ → ℕ → Vector
  vec s q = vector_of (op_at log s q)

  pub own : (s q : ℕ) → 1 ≤ s → s ≤ 8 → 1 ≤ q → q ≤ count_in (counts_of log) s → count_in (vec s q) s + 1 ≡ q
  unfolding seq_of own_count
  own s q l u lq uq = let x = ops s q l u lq uq in rw x.origin at x.number

  later : (s q d : ℕ) → 1 ≤ s → s ≤ 8 → 1 ≤ q → q + d ≤ count_in (counts_of log) s → Le (vec s q) (vec s (q + d))
  later s q zero l u lq uq = rw (add-zero q) (λ t a b. le_refl _)
  later s q (suc d) l u lq uq =
      let v : Vector = vec s (q + suc d) in
      let k : count_in v s ≡ q + d = omega (arith, own s (q + suc d) l u (omega arith) uq) in
      let c : Le (vec s (count_in v s)) v = closed_le log v (ops s (q + suc d) l u (omega arith) uq).is_closed s l u (omega arith) in
      let c' : Le (vec s (q + d)) v = subst (λ (j : ℕ). Le (vec s j) v) k c in
      λ t a b. omega (arith, later s q d l u lq (omega arith) t a b, c' t a b)

  -- an op that a closed and held vector counts
  module _ (v : Vector) (cv : covered log v ≡ true) (cl : closed log v ≡ true) (s q : ℕ) (l : 1 ≤ s) (u : s ≤ 8) (lq : 1 ≤ q)
      (uq : q ≤ count_in v s) where
    held_q : q ≤ count_in (counts_of log) s
    held_q = omega (arith, held_in log v cv s l u)

    pub counted_le : Le (vec s q) v
    counted_le t a b =
        let d : ℕ = count_in v s - q in
        let k : q + d ≡ count_in v s = omega arith in
        let c : Le (vec s (q + d)) v = subst (λ (j : ℕ). Le (vec s j) v) (sym k) (closed_le log v cl s l u (omega arith)) in
        omega (arith, later s q d l u lq (omega (arith, held_in log v cv s l u)) t a b, c t a b)

    pub counted_less : total (vec s q) < total v
    counted_less = total_less (vec s q) v counted_le s l u (omega (arith, own s q l u lq held_q))

-- the op number q of replica s is in a and not in b
pub record Missing (a b : Log) (s q : ℕ) : Type 0 where
  pub low : 1 ≤ s
  pub high : s ≤ 8
  pub first : 1 ≤ q
  pub here : q ≤ count_in (counts_of a) s
  pub not_there : count_in (counts_of b) s < q

module _ (a b : Log) (ops : HeldOps a) where
  -- of what is missing, something is not early
  pub some_ready : (n s q : ℕ) → Missing a b s q → total (vector_of (op_at a s q)) < n
      → (t : ℕ) × (k : ℕ) × Missing a b t k × (covered b (vector_of (op_at a t k)) ≡ true)
  unfolding covered within
  some_ready zero s q x h = absurd (omega arith)
  some_ready (suc n) s q x h = go (covered b v) refl (some_ready n)
    where
      v : Vector
      v = vector_of (op_at a s q)

      go : (c : Bool) → covered b v ≡ c → ((t k : ℕ) → Missing a b t k → total (vector_of (op_at a t k)) < n
          → (t : ℕ) × (k : ℕ) × Missing a b t k × (covered b (vector_of (op_at a t k)) ≡ true))
          → (t : ℕ) × (k : ℕ) × Missing a b t k × (covered b (vector_of (op_at a t k)) ≡ true)
      go true e ih = (s, q, x, e)
      go false e ih =
          let (t, lt, ut, f) = replica_fails (λ r. leb (count_in v r) (count_in (counts_of b) r)) e in
          let y = ops s q x.low x.high x.first x.here in
          let k : ℕ = count_in (counts_of b) t + 1 in
          let m : k ≤ count_in v t = omega (arith, leb-false (count_in v t) (count_in (counts_of b) t) f) in
          let i : k ≤ count_in (counts_of a) t = omega (arith, held_in a v y.is_covered t lt ut) in
          ih t k (record { low = lt; high = ut; first = omega arith; here = i; not_there = omega arith })
          (omega (arith, counted_less a ops v y.is_covered y.is_closed t k lt ut (omega arith) m))
