-- Every op of a replay finds the nodes that it names hung, and the tree stays a tree: runs of ops, levels, the whole.
use Rattle.order.proofs.LevelLaws.{AtLevel, Cut, count_nothing, done_count, first_level, next_count, next_level, ordered_levels, status, timestamp_bound}
use Rattle.order.proofs.GrowLaws.{Finds, Tree, finds, tree_added, tree_kept, tree_passed, tree_same}
use Rattle.rules.proofs.StructureLaws.{GoodLog, held_in}
use Rattle.rules.proofs.CausalLaws.{Le, within_le}
use Rattle.rules.specs.File.{Log, counts_of, op_at}
use Rattle.rules.proofs.KnownLaws.{Named, known_later, known_reads, named_valid}
use Rattle.rules.proofs.ClimbLaws.{Reaches, short, up}
use Rattle.rules.specs.Replay.{Stamped, State, ordered, replay, start, step, timestamp}
use Rattle.rules.specs.Op.{Vector, count_in, kind_of, replicas, vector_of}
use Rattle.order.specs.Levels.{advanced, ready_op, level, level_kind, levels, next_at, ready_ops, nothing, ready}
use Rattle.lists.proofs.BoolLaws.{and_right}
use Rattle.lists.specs.Lists.{concat, down_from, up_from}
use Rattle.rules.proofs.FileLaws.{count_map}
use Rattle.rules.specs.Tree.{no_parent, slots}
use mathlib.Core.Bool.{Bool, cond, false, true}
use mathlib.Core.List.{List, [], ◌++◌, ◌∷◌, foldl, foldl-append, map}
use Prim.Native.Nat.{◌+◌, ◌/◌, ◌<◌, ◌≤◌, suc, zero, ℕ}
use mathlib.Core.Path.{◌∙◌, ◌≡◌, refl, sym}
use native.Mathlib.Nat.{add-suc, add-zero, le_refl, suc-add}
use native.Mathlib.Omega.{arith}
use native.Mathlib.Decide.{dec_le, ℕ_discrete}
use borrow.Author.Tests.{eq-eqb, le-leb, lt-leb, ne_eqb}
use lib.Dec.{eqb, leb, ltb}
use lib.ListN.{get_or, get_or-replicate}
use mathlib.Core.Logic.{inl, inr, ⊎_elim}

---- a run of ops

-- every op finds its nodes at its moment
abbrev pub Along : State → List Stamped → Type 0
Along st [] = Unit {0}
Along st (x ∷ xs) = Finds st x × Along (step st x) xs

pub record Run (log : Log) (D : Vector) (st : State) (xs : List Stamped) : Type 0 where
  pub along : Along st xs
  pub tree : Tree log D (foldl step st xs)

along_append : (st : State) (xs ys : List Stamped) → Along st xs → Along (foldl step st xs) ys → Along st (xs ++ ys)
along_append st [] ys a b = b
along_append st (x ∷ xs) ys a b = (a.0, along_append (step st x) xs ys a.1 b)

pub along_at : (st : State) (xs : List Stamped) (x : Stamped) (ys : List Stamped) → Along st (xs ++ (x ∷ ys)) → Finds (foldl step st xs) x
along_at st [] x ys a = a.0
along_at st (y ∷ xs) x ys a = along_at (step st y) xs x ys a.1

pub join : (log : Log) (D E : Vector) (st : State) (xs ys : List Stamped) → Run log D st xs
    → (Tree log D (foldl step st xs) → Run log E (foldl step st xs) ys) → Run log E st (xs ++ ys)
join log D E st xs ys a b =
    let c = b a.tree in
    record { along = along_append st xs ys a.along c.along; tree = rw foldl-append c.tree }

le_tree : (log : Log) (D E : Vector) (st : State) → Le D E → Le E D → Tree log D st → Tree log E st
le_tree log D E st a b x = tree_same log D E st a (known_later log E D b) x

module _ (log : Log) (good : GoodLog log) (cut : Vector) (is : Cut log cut) (t : ℕ) (lt : 1 ≤ t) (done : Vector)
    (at : AtLevel log good cut is t done) where
  abbrev next : Vector
  next = ready_ops log cut done

  abbrev after : Vector
  after = advanced done next

  -- done for the replicas up to n, the next done for those above
  mix_at : ℕ → ℕ → ℕ
  mix_at n s = cond (leb s n) (count_in done s) (count_in after s)

  mix : ℕ → Vector
  mix n = map (mix_at n) replicas

  mix_low : (n s : ℕ) → 1 ≤ s → s ≤ 8 → s ≤ n → count_in (mix n) s ≡ count_in done s
  unfolding mix mix_at
  mix_low n s l u h = count_map (mix_at n) s l u ∙ rw (le-leb s n h)

  mix_high : (n s : ℕ) → 1 ≤ s → s ≤ 8 → n < s → count_in (mix n) s ≡ count_in after s
  unfolding mix mix_at
  mix_high n s l u h = count_map (mix_at n) s l u ∙ rw (lt-leb s n h)

  done_after : Le done after
  done_after s l u = rw (done_count log good cut is t lt done at s l u) (go (ready log cut done s))
    where
      go : (b : Bool) → count_in done s ≤ cond b (count_in done s + 1) (count_in done s)
      go true = omega arith
      go false = le_refl _

  done_mix : (n : ℕ) → Le done (mix n)
  done_mix n s l u = elim (dec_le s n) [
    | yes h ↦ rw (mix_low n s l u h) (le_refl _)
    | no h ↦ rw (mix_high n s l u (omega arith)) (done_after s l u)
  ]

  mix_step : (n z : ℕ) → 1 ≤ z → z ≤ 8 → (z ≡ suc n → ⊥) → count_in (mix n) z ≡ count_in (mix (suc n)) z
  mix_step n z l u ne = elim (dec_le z n) [
    | yes h ↦ mix_low n z l u h ∙ sym (mix_low (suc n) z l u (omega arith))
    | no h ↦ mix_high n z l u (omega arith) ∙ sym (mix_high (suc n) z l u (omega arith))
  ]

  mix_more : (n : ℕ) → suc n ≤ 8 → Le (mix (suc n)) (mix n)
  mix_more n b z l u = elim (ℕ_discrete z (suc n)) [
    | yes e ↦ omega (arith, mix_low (suc n) z l u (omega arith), mix_high n z l u (omega arith), done_after z l u)
    | no ne ↦ omega (arith, mix_step n z l u ne)
  ]

  ready_le : (s : ℕ) → ready log cut done s ≡ true → Le (vector_of (op_at log s (count_in done s + 1))) done
  unfolding ready
  ready_le s e = within_le _ done (and_right (ltb (count_in done s) (count_in cut s)) _ e)

  held_cut : (s : ℕ) → 1 ≤ s → s ≤ 8 → count_in cut s ≤ count_in (counts_of log) s
  held_cut = held_in log cut is.is_covered

  -- where the replica's op is ready, and where none is
  pub op_ready : (k s : ℕ) → 1 ≤ s → s ≤ 8 → ready log cut done s ≡ true
      → ready_op log t next k s ≡ cond (eqb (kind_of (op_at log s (count_in done s + 1))) k)
      (record { time = t; op = op_at log s (count_in done s + 1) } ∷ []) []
  unfolding ready_op next_at
  op_ready k s l u e = rw (next_count log good cut is t lt done at s l u, e, ne_eqb (count_in done s + 1) 0 (λ z. omega arith))

  pub op_none : (k s : ℕ) → 1 ≤ s → s ≤ 8 → ready log cut done s ≡ false → ready_op log t next k s ≡ []
  unfolding ready_op next_at
  op_none k s l u e = rw (next_count log good cut is t lt done at s l u, e)

  after_ready : (s : ℕ) → 1 ≤ s → s ≤ 8 → ready log cut done s ≡ true → count_in after s ≡ count_in done s + 1
  after_ready s l u e = done_count log good cut is t lt done at s l u ∙ rw e

  after_none : (s : ℕ) → 1 ≤ s → s ≤ 8 → ready log cut done s ≡ false → count_in after s ≡ count_in done s
  after_none s l u e = done_count log good cut is t lt done at s l u ∙ rw e

  -- the adds, one replica
  add_run : (n : ℕ) → suc n ≤ 8 → (st : State) → Tree log (mix (suc n)) st → Run log (mix n) st (ready_op log t next 1 (suc n))
  add_run n b st tree = ⊎_elim
      (λ x.
      let q : ℕ = count_in done (suc n) + 1 in
      let l : 1 ≤ suc n = omega arith in
      let uq : q ≤ count_in (counts_of log) (suc n) = omega (arith, x.1, held_cut (suc n) l b) in
      let low : count_in (mix (suc n)) (suc n) ≡ count_in done (suc n) = mix_low (suc n) (suc n) l b (le_refl _) in
      let there : count_in (mix n) (suc n) ≡ q = mix_high n (suc n) l b (omega arith) ∙ after_ready (suc n) l b x.0 in
      let le : Le (vector_of (op_at log (suc n) q)) (mix (suc n)) = λ z a c. omega (
        arith,
        ready_le (suc n) x.0 z a c,
        done_mix
            (suc n) z a c,
      ) in
      rw (op_ready 1 (suc n) l b x.0) (elim (ℕ_discrete (kind_of (op_at log (suc n) q)) 1) [
        | yes k ↦ rw (eq-eqb _ 1 k) (record {
          along = (finds log good (suc n) q l b (omega arith) uq t (mix (suc n)) le st tree, tt);
          tree = tree_added log good (suc n) q l b (omega arith) uq t (mix (suc n)) le st tree (mix n) (mix_more n b) (omega arith) there
              (mix_step n) k (omega arith);
        })
        | no k ↦ rw (ne_eqb _ 1 k) (record {
          along = tt;
          tree = tree_passed log good (suc n) q l b (omega arith) uq t (mix (suc n)) le st tree (mix n) (mix_more n b) (omega arith) there
              (mix_step n) k (omega arith);
        })
      ]))
      (λ x.
      let l : 1 ≤ suc n = omega arith in
      rw (op_none 1 (suc n) l b x.0) (record {
        along = tt;
        tree = le_tree log (mix (suc n)) (mix n) st (mix_more n b) (λ z a c. elim (ℕ_discrete z (suc n)) [
          | yes e ↦ rw e (omega (arith, mix_high n (suc n) l b (omega arith), after_none (suc n) l b x.0, done_mix (suc n) (suc n) l b))
          | no ne ↦ omega (arith, mix_step n z a c ne)
        ]) tree;
      }))
      (status log good cut is t lt done at (suc n) (omega arith) b)

  adds_run : (n : ℕ) → n ≤ 8 → (st : State) → Tree log (mix n) st → Run log (mix 0) st (concat (map (ready_op log t next 1) (down_from n)))
  unfolding concat down_from
  adds_run zero b st tree = record { along = tt; tree = tree }
  adds_run (suc n) b st tree =
      join log (mix n) (mix 0) st (ready_op log t next 1 (suc n)) (concat (map (ready_op log t next 1) (down_from n))) (add_run n b st tree)
      (adds_run n (omega arith) _)

  -- another kind, one replica
  other_run : (k : ℕ) → 2 ≤ k → (s : ℕ) → 1 ≤ s → s ≤ 8 → (st : State) → Tree log (mix 0) st → Run log (mix 0) st (ready_op log t next k s)
  other_run k lk s l u st tree = ⊎_elim
      (λ x.
      let q : ℕ = count_in done s + 1 in
      let uq : q ≤ count_in (counts_of log) s = omega (arith, x.1, held_cut s l u) in
      let le : Le (vector_of (op_at log s q)) (mix 0) = λ z a c. omega (arith, ready_le s x.0 z a c, done_mix 0 z a c) in
      rw (op_ready k s l u x.0) (elim (ℕ_discrete (kind_of (op_at log s q)) k) [
        | yes e ↦ rw (eq-eqb _ k e) (record {
          along = (finds log good s q l u (omega arith) uq t (mix 0) le st tree, tt);
          tree = tree_kept log good s q l u (omega arith) uq t (mix 0) le st tree (λ z. omega arith);
        })
        | no ne ↦ rw (ne_eqb _ k ne) (record { along = tt; tree = tree })
      ]))
      (λ x. rw (op_none k s l u x.0) (record { along = tt; tree = tree }))
      (status log good cut is t lt done at s l u)

  others_run : (k : ℕ) → 2 ≤ k → (n : ℕ) → n ≤ 8 → (st : State) → Tree log (mix 0) st
      → Run log (mix 0) st (concat (map (ready_op log t next k) (down_from n)))
  unfolding concat down_from
  others_run k lk zero b st tree = record { along = tt; tree = tree }
  others_run k lk (suc n) b st tree =
      join log (mix 0) (mix 0) st (ready_op log t next k (suc n)) (concat (map (ready_op log t next k) (down_from n)))
      (other_run k lk (suc n) (omega arith) b st tree) (others_run k lk n (omega arith) _)

  kinds_run : (n k : ℕ) → 2 ≤ k → (st : State) → Tree log (mix 0) st → Run log (mix 0) st (concat (map (level_kind log t next) (up_from k n)))
  unfolding concat up_from level_kind
  kinds_run zero k lk st tree = record { along = tt; tree = tree }
  kinds_run (suc n) k lk st tree =
      join log (mix 0) (mix 0) st (level_kind log t next k) (concat (map (level_kind log t next) (up_from (suc k) n)))
      (others_run k lk 8 (le_refl 8) st tree) (kinds_run n (suc k) (omega arith) _)

  -- a level
  level_run : (st : State) → Tree log done st → Run log after st (level log t next)
  unfolding level concat up_from level_kind
  level_run st tree =
      let first : Tree log (mix 8) st = le_tree log done (mix 8) st (done_mix 8) (λ s l u. omega (arith, mix_low 8 s l u u)) tree in
      let run = join log (mix 0) (mix 0) st (level_kind log t next 1) (concat (map (level_kind log t next) (up_from 2 3)))
      (adds_run 8 (le_refl 8) st first) (kinds_run 3 2 (le_refl 2) _) in
      record {
        along = run.along;
        tree = le_tree log (mix 0) after _ (λ s l u. omega (arith, mix_high 0 s l u l)) (λ s l u. omega (arith, mix_high 0 s l u l))
            run.tree;
      }

---- the whole replay

module _ (log : Log) (good : GoodLog log) (cut : Vector) (is : Cut log cut) where
  levels_run : (n t : ℕ) → 1 ≤ t → (done : Vector) → AtLevel log good cut is t done → (st : State) → Tree log done st
      → (end : Vector) × AtLevel log good cut is (t + n) end × Run log end st (levels n log cut t done)
  unfolding levels
  levels_run zero t lt done at st tree = (done, rw add-zero at, record { along = tt; tree = tree })
  levels_run (suc n) t lt done at st tree =
      let run = level_run log good cut is t lt done at st tree in
      let (end, last, rest) = levels_run n (suc t) (omega arith) (advanced done (ready_ops log cut done))
      (next_level log good cut is t lt done at) _ run.tree in
      (end, rw (add-suc, ← suc-add) last, join log (advanced done (ready_ops log cut done)) end st _ _ run (λ x. rest))

  start_bare : (i : ℕ) → 0 < i → i < slots → get_or start.parents i 0 ≡ no_parent
  unfolding start
  start_bare zero p b = absurd (omega arith)
  start_bare (suc i) p b = get_or-replicate 2040 i no_parent 0 (omega arith)

  tree_start : Tree log nothing start
  unfolding start up
  tree_start = record {
    size = refl;
    way = λ m w. (0, record { root = zero_only m w; on = λ j h. rw (let z : j ≡ 0 = omega arith in z) w });
    root = refl;
    bare = λ i p b none. start_bare i p b;
  }
    where
      zero_only : (m : ℕ) → Named log nothing m → m ≡ 0
      zero_only m (inl e) = e
      zero_only m (inr e) =
          let h = (known_reads log nothing m e).0 in
          absurd (omega (arith, h.first, h.last, count_nothing (m / 256) h.low h.high))

  -- (3) every op of the replay finds its nodes, and at the end every added node has a way to the root
  pub replay_run : Run log cut start (ordered log cut)
  unfolding timestamp
  replay_run =
      let (end, last, run) = levels_run slots 1 (le_refl 1) nothing (first_level log good cut is) start tree_start in
      let le : Le cut end = λ s l u. elim (dec_le (count_in cut s) (count_in end s)) [
        | yes h ↦ h
        | no h ↦ absurd (omega (
          arith,
          last.high s (count_in cut s) l u (omega arith) (le_refl _),
          timestamp_bound slots log
              (op_at log s (count_in cut s)),
        ))
      ] in
      rw (ordered_levels log good cut is) (record { along = run.along; tree = le_tree log end cut _ last.inside le run.tree })

  -- in at most 2040 steps
  pub replay_reaches : (m : ℕ) → Named log cut m → (j : ℕ) × (j ≤ 2040) × Reaches (Named log cut) (replay log cut).parents j m × ((k : ℕ)
      → k < j → up (replay log cut).parents k m ≡ 0 → ⊥)
  unfolding replay
  replay_reaches m w = let (i, r) = replay_run.tree.way m w in short (Named log cut) (named_valid log cut) _ i m r
