-- The timestamp's equation: in a sound log the bound on the depth does not matter.
use mathlib.Core.Path.{◌≡◌, refl, ap, ap₂}
use mathlib.Core.Bool.{true}
use mathlib.Core.List.{List, [], ◌∷◌, map, map-append}
use Prim.Native.Nat.{ℕ, zero, suc, ◌+◌, ◌-◌, ◌≤◌, ◌<◌}
use native.Mathlib.Nat.{le_refl, not-suc-le-zero}
use native.Mathlib.Omega.{arith}
use lib.ListN.{length, take, get_or}
use Rattle.lists.specs.Lists.{up_from, greatest, concat}
use Rattle.rules.specs.Op.{Op, Vector, replicas, count_in, vector_of}
use Rattle.rules.specs.File.{Log, ops_of, op_at}
use Rattle.rules.specs.Log.{covered, closed}
use Rattle.rules.specs.Replay.{ops_within, timestamp_in, timestamp}
use Rattle.rules.proofs.StructureLaws.{held_in, HeldOps}
use Rattle.rules.proofs.CausalLaws.{total, counted_less}

module _ {A : Type 0} (g h : Op → A) where
  map_take : (n : ℕ) (ops : List Op) → ((i : ℕ) → i < n → i < length ops → g (get_or ops i []) ≡ h (get_or ops i []))
      → map g (take n ops) ≡ map h (take n ops)
  map_take zero ops e = refl
  map_take (suc n) [] e = refl
  map_take (suc n) (r ∷ rs) e =
      ap₂ ◌∷◌ (e zero (omega arith) (omega arith)) (map_take n rs (λ i a b. e (suc i) (omega arith) (omega arith)))

  map_parts : (F : ℕ → List Op) (n a : ℕ) → ((s : ℕ) → a ≤ s → s < a + n → map g (F s) ≡ map h (F s))
      → map g (concat (map F (up_from a n))) ≡ map h (concat (map F (up_from a n)))
  unfolding up_from concat
  map_parts F zero a e = refl
  map_parts F (suc n) a e =
      rw (map-append, map-append, e a (le_refl a) (omega arith), map_parts F n (suc a) (λ s l u. e s (omega arith) (omega arith)))

  -- two functions that agree on what a vector counts
  pub map_within : (log : Log) (v : Vector) → ((s q : ℕ) → 1 ≤ s → s ≤ 8 → 1 ≤ q → q ≤ count_in v s → g (op_at log s q) ≡ h (op_at log s q))
      → map g (ops_within log v) ≡ map h (ops_within log v)
  unfolding ops_within replicas op_at
  map_within log v e =
      map_parts (λ s. take (count_in v s) (ops_of log s)) 8 1 (λ s l u.
      map_take (count_in v s) (ops_of log s) (λ i a b.
      let k : i + 1 - 1 ≡ i = omega arith in
      rw k at (e s (i + 1) l (omega arith) (omega arith) (omega arith))))

module _ (log : Log) (ops : HeldOps log) where
  -- bounds above the number of ops counted give the same
  enough : (k j : ℕ) (r : Op) → covered log (vector_of r) ≡ true → closed log (vector_of r) ≡ true → total (vector_of r) < k
      → total (vector_of r) < j → timestamp_in k log r ≡ timestamp_in j log r
  unfolding timestamp_in
  enough zero j r cv cl a b = absurd (not-suc-le-zero a)
  enough (suc k) zero r cv cl a b = absurd (not-suc-le-zero b)
  enough (suc k) (suc j) r cv cl a b =
      ap (λ xs. 1 + greatest xs) (map_within (timestamp_in k log) (timestamp_in j log) log (vector_of r) (λ s q l u lq uq.
      let x = ops s q l u lq (omega (arith, held_in log (vector_of r) cv s l u)) in
      let less = counted_less log ops (vector_of r) cv cl s q l u lq uq in
      enough k j (op_at log s q) x.is_covered x.is_closed (omega arith) (omega arith)))

  module _ (r : Op) (cv : covered log (vector_of r) ≡ true) (cl : closed log (vector_of r) ≡ true) where
    bounded : (k : ℕ) → total (vector_of r) < suc k
        → timestamp_in (suc k) log r ≡ 1 + greatest (map (timestamp_in (suc k) log) (ops_within log (vector_of r)))
    unfolding timestamp_in
    bounded k h =
        ap (λ xs. 1 + greatest xs) (map_within (timestamp_in k log) (timestamp_in (suc k) log) log (vector_of r) (λ s q l u lq uq.
        let x = ops s q l u lq (omega (arith, held_in log (vector_of r) cv s l u)) in
        let less = counted_less log ops (vector_of r) cv cl s q l u lq uq in
        enough k (suc k) (op_at log s q) x.is_covered x.is_closed (omega arith) (omega arith)))

    pub timestamp_equation : total (vector_of r) ≤ 2040 → timestamp log r ≡ 1 + greatest (map (timestamp log) (ops_within log (vector_of r)))
    unfolding timestamp
    timestamp_equation h = bounded 2040 (omega arith)
