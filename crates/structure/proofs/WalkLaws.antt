-- The tests of all ops, by a walk through the file with a marker.
use mathlib.Core.Path.{◌≡◌, refl, sym, ap, ◌∙◌}
use mathlib.Core.Bool.{Bool, true, false, cond, ◌&&◌, and_assoc}
use mathlib.Core.List.{List, [], ◌∷◌, ◌++◌, map}
use Prim.Native.Nat.{ℕ, suc, ◌+◌, ◌-◌, ◌^◌, ◌≤◌, ◌<◌}
use native.Mathlib.Omega.{arith}
use native.Mathlib.Nat.{mul-add, mul-one, mul-zero}
use lib.ListN.{length, get_or, drop, replicate}
use lib.Dec.{leb}
use native.Mathlib.Decide.{dec_le, ℕ_discrete}
use borrow.Author.Rules.{rules}
use borrow.Author.Tests.{leb-true, le-leb, lt-leb, lt-ltb, le-ltb}
use Rattle.lists.specs.Lists.{up_from, concat, all}
use Rattle.rules.specs.Op.{Op, Vector, replicas, vector_of}
use Rattle.rules.specs.File.{Log, count_at, header_counts, ops_of, log_of, op_at}
use Rattle.rules.specs.Log.{sound_log, sound_ops, sound_op}
use Rattle.lists.proofs.BoolLaws.{tested}
use Rattle.lists.proofs.RangeLaws.{map_up_from}
use Rattle.rules.proofs.ReplicaLaws.{all_alike}
use Rattle.oplog.specs.declared.marker.Marker.{Marker}
use Rattle.oplog.specs.Places.{InFile, Stands, next_marker, next_place, place_of}
use Rattle.oplog.proofs.FieldLaws.{fields_at, op_fits}
use Rattle.oplog.proofs.HeaderLaws.{laid_long, start_after, start_first}
use Rattle.oplog.proofs.MarkerLaws.{Walk, left, left_end, left_first, left_next, onward, row, togo}
use Rattle.structure.specs.Tests.{LaidOut, OpHere, Before, vector_before, next_before, Turned, sound_at, sound_here}

-- every test passes
abbrev pub every : List Bool → Bool
every bs = all (λ b. b) bs

-- the tests of all ops
every_append : (bs cs : List Bool) → every (bs ++ cs) ≡ (every bs && every cs)
unfolding all
every_append [] cs = refl
every_append (b ∷ bs) cs = rw (every_append bs cs) (sym (and_assoc b (every bs) (every cs)))

every_concat : (F : ℕ → List Bool) (ss : List ℕ) → every (concat (map F ss)) ≡ all (λ s. every (F s)) ss
unfolding all concat
every_concat F [] = refl
every_concat F (s ∷ ss) = rw (every_append (F s) (concat (map F ss)), every_concat F ss)

module _ (log : Log) (s : ℕ) where
  abbrev test_in : List Op → ℕ → ℕ → Bool
  test_in rs q i = sound_op log s i (get_or rs (i - q) [])

  tests : (q : ℕ) (rs : List Op) → sound_ops log s q rs ≡ every (map (test_in rs q) (up_from q (length rs)))
  unfolding sound_ops up_from all
  tests q [] = refl
  tests q (r ∷ rs) =
      let z : q - q ≡ 0 = omega arith in
      rw (z, tests (suc q) rs, map_up_from (test_in (r ∷ rs) q) (test_in rs (suc q)) (length rs) (suc q) (λ i l u. next i l))
    where
      next : (i : ℕ) → suc q ≤ i → test_in (r ∷ rs) q i ≡ test_in rs (suc q) i
      next i l = let e : i - q ≡ suc (i - suc q) = omega arith in rw e

sound_row : (log : Log) (s : ℕ) → sound_ops log s 1 (ops_of log s) ≡ every (row log (sound_at log) s 1)
unfolding row op_at
sound_row log s =
    let n : length (ops_of log s) + 1 - 1 ≡ length (ops_of log s) = omega arith in
    rw n (tests log s 1 (ops_of log s))

left_sound : (log : Log) → sound_log log ≡ every (left log (sound_at log) 1 1)
unfolding sound_log
left_sound log =
    all_alike _ _ (λ s l u. sound_row log s)
    ∙ sym (every_concat (λ s. row log (sound_at log) s 1) replicas)
    ∙ ap every (left_first log (sound_at log))

---- the tests along the walk

module _ (w : ℕ) (f : List ℕ) (m : Marker) where
  pub here_none : leb m.sequence (count_at f m.replica) ≡ false → true ≡ sound_here w f m
  unfolding sound_here
  here_none e = rw e

  module _ (e : leb m.sequence (count_at f m.replica) ≡ true) where
    pub here_some : (b : Bool) → b ≡ sound_at (log_of w f) m.replica m.sequence → b ≡ sound_here w f m
    unfolding sound_here
    here_some b h = rw e h

    module _ (at : ℕ) (t : Stands w f m at) where
      pub stands_there : InFile w f m.replica m.sequence
      stands_there = record {
        wide = t.wide;
        is_laid = t.is_laid;
        low = t.low;
        high = t.high;
        first = t.first;
        last = leb-true _ _ e;
      }

      pub here_op : (counts before : Vector) → counts ≡ header_counts f → Before (log_of w f) m.replica m.sequence before
          → OpHere w f counts before m.replica m.sequence
      here_op counts before c b = record { there = stands_there; held = c; last = b }

      pub place_sum : length f < 2 ^ 64 → at + w < 2 ^ 64
      place_sum h = omega (arith, op_fits w f _ _ stands_there at t.place)

---- what goes with the next marker; n is the count that was read

module _ (w : ℕ) (f : List ℕ) (m : Marker) where
  module _ (n : ℕ) (e : n ≡ count_at f m.replica) (h : m.sequence < n) (at : ℕ) (t : Stands w f m at) where
    more_there : InFile w f m.replica m.sequence
    more_there = stands_there w f m (le-leb m.sequence (count_at f m.replica) (omega arith)) at t

    pub more_fits : at + 14 ≤ length f
    more_fits = omega (arith, op_fits w f _ _ more_there at t.place, t.wide)

    pub more_sum : length f < 2 ^ 64 → at + w < 2 ^ 64
    more_sum l = omega (arith, op_fits w f _ _ more_there at t.place)

  module _ (at : ℕ) where
    pub place_same : leb m.sequence (count_at f m.replica) ≡ false → at ≡ next_place w f m at
    unfolding next_place
    place_same e = rw e

    pub place_behind : leb m.sequence (count_at f m.replica) ≡ true → at + w ≡ next_place w f m at
    unfolding next_place
    place_behind e = rw e

  module _ (n : ℕ) (e : n ≡ count_at f m.replica) (m' : Marker) (i : m' ≡ next_marker f m) (at : ℕ) where
    pub turn_last : n ≤ m.sequence → (p : ℕ) → p ≡ next_place w f m at
        → Turned w f m at (record { marker = m'; at = p; before = replicate 8 0 })
    unfolding next_before
    turn_last h p j = record { marker = i; place = j; before = rw (← e, le-ltb m.sequence n h) }

    pub turn_more : m.sequence < n → Stands w f m at → (v : Vector) → v ≡ vector_of (drop at f)
        → Turned w f m at (record { marker = m'; at = at + w; before = v })
    unfolding next_before next_place
    turn_more h t v iv = record {
      marker = i;
      place = rw (← e, le-leb m.sequence n (omega arith));
      before = rw (← e, lt-ltb m.sequence n h) (iv ∙ sym (fields_at w f _ _ (more_there n e h at t) at t.place).vector);
    }

---- the walk with all that goes along

-- the ops before the marker are sound; the place of its op, and the vector of its replica's op before
pub record Walked (w : ℕ) (f : List ℕ) (m : Marker) (p : ℕ) (before : Vector) : Type 0 where
  pub at : Walk m
  pub most : m.sequence ≤ count_at f m.replica + 1
  pub place : p ≡ place_of w f m.replica m.sequence
  pub last : Before (log_of w f) m.replica m.sequence before
  pub rest : sound_log (log_of w f) ≡ every (left (log_of w f) (sound_at (log_of w f)) m.replica m.sequence)

-- at the first op of a replica
none_before : (log : Log) (s : ℕ) → Before log s 1 (replicate 8 0)
unfolding vector_before
none_before log s = record { is = refl; is_sound_so = λ h. absurd (omega arith) }

-- behind a sound op
after_op : (log : Log) (s q : ℕ) → 1 ≤ q → sound_at log s q ≡ true → Before log s (q + 1) (vector_of (op_at log s q))
unfolding vector_before
after_op log s q l e =
    let z : q + 1 - 1 ≡ q = omega arith in
    record { is = rw (lt-ltb 1 (q + 1) (omega arith), z); is_sound_so = λ h. rw z e }

-- where the next op starts, of the same replica and of the next
next_in : (w : ℕ) (f : List ℕ) (s q : ℕ) → 1 ≤ q → place_of w f s q + w ≡ place_of w f s (q + 1)
next_in w f s q l =
    let e : q + 1 - 1 ≡ q - 1 + 1 = omega arith in
    rw (e, mul-add w (q - 1) 1, mul-one w) (omega arith)

next_replica_at : (w : ℕ) (f : List ℕ) (s q : ℕ) → 1 ≤ s → s ≤ 8 → q ≡ count_at f s + 1 → place_of w f s q ≡ place_of w f (s + 1) 1
next_replica_at w f s q l u e =
    let z : q - 1 ≡ count_at f s = omega arith in
    rw (z, mul-zero) (omega (arith, start_after w f s l u))

module _ (w : ℕ) (f : List ℕ) (m : Marker) where
  pub walk_first : (p : ℕ) (before : Vector) → (m.replica ≡ 1) × (m.sequence ≡ 1) × (p ≡ 32) × (before ≡ replicate 8 0)
      → Walked w f m p before
  walk_first p before (s, q, at, none) = record {
    at = record { first = omega arith; last = omega arith; low = omega arith; high = omega arith };
    most = omega arith;
    place = at ∙ rw (s, q, mul-zero) (omega (arith, start_first w (header_counts f)));
    last = rw (s, q, none) (none_before (log_of w f) 1);
    rest = rw (s, q) (left_sound (log_of w f));
  }

  module _ (p : ℕ) (before : Vector) (t : Walked w f m p before) where
    pub walk_last : 8 < m.replica → true ≡ sound_log (log_of w f)
    unfolding all
    walk_last h = sym (t.rest ∙ ap every (left_end (log_of w f) _ m.replica m.sequence h))

    module _ (counts : Vector) (g : LaidOut w f counts) (u : m.replica ≤ 8) where
      pub walk_stands : Stands w f m p
      walk_stands = record {
        wide = g.wide;
        is_laid = g.is_laid;
        low = t.at.low;
        high = u;
        first = t.at.first;
        place = t.place;
      }

      turn : (m' : Marker) → m' ≡ next_marker f m
          → sound_log (log_of w f) ≡ (sound_here w f m && every (left (log_of w f) (sound_at (log_of w f)) m'.replica m'.sequence))
      unfolding all sound_here
      turn m' e =
          let log : Log = log_of w f in
          let rest : List Bool = left log (sound_at log) m'.replica m'.sequence in
          t.rest ∙ ap every (left_next w f g.is_laid m m' e t.at u (sound_at log))
          ∙ go (leb m.sequence (count_at f m.replica)) (sound_at log m.replica m.sequence) rest
        where
          go : (h b : Bool) (bs : List Bool) → every (cond h (b ∷ bs) bs) ≡ (cond h b true && every bs)
          go true b bs = refl
          go false b bs = refl

      pub walk_fails : sound_here w f m ≡ false → false ≡ sound_log (log_of w f)
      walk_fails e = sym (turn (next_marker f m) refl ∙ rw e)

      module _ (m' : Marker) (e : m' ≡ next_marker f m) where
        pub walk_less : togo m' < togo m
        walk_less = (onward w f g.is_laid m m' e t.at u).less

        place_next : (p' : ℕ) → p' ≡ next_place w f m p → p' ≡ place_of w f m'.replica m'.sequence
        unfolding next_marker next_place
        place_next p' i =
            let s : ℕ = m.replica in
            let q : ℕ = m.sequence in
            let n : ℕ = count_at f s in
            rw (e, i, t.place) (elim (dec_le (q + 1) n) [
              | yes k ↦ rw (lt-ltb q n (omega arith), le-leb q n (omega arith)) (next_in w f s q t.at.first)
              | no k ↦ rw (le-ltb q n (omega arith)) (elim (ℕ_discrete q n) [
                | yes z ↦ rw (le-leb q n (omega arith), next_in w f s q t.at.first)
                    (next_replica_at w f s (q + 1) t.at.low u (omega arith))
                | no nz ↦ rw (lt-leb q n (omega arith)) (next_replica_at w f s q t.at.low u (omega (arith, t.most)))
              ])
            ])

        most_next : m'.sequence ≤ count_at f m'.replica + 1
        unfolding next_marker
        most_next = rw e (elim (dec_le (m.sequence + 1) (count_at f m.replica)) [
          | yes k ↦ rw (lt-ltb m.sequence (count_at f m.replica) (omega arith)) (omega arith)
          | no k ↦ rw (le-ltb m.sequence (count_at f m.replica) (omega arith)) (omega arith)
        ])

        module _ (h : sound_here w f m ≡ true) (after : Vector) (i : after ≡ next_before w f m) where
          before_next : Before (log_of w f) m'.replica m'.sequence after
          unfolding next_marker next_before vector_before sound_here
          before_next =
              let s : ℕ = m.replica in
              let q : ℕ = m.sequence in
              let n : ℕ = count_at f s in
              rw (e, i) (elim (dec_le (q + 1) n) [
                | yes k ↦ rw (lt-ltb q n (omega arith)) (after_op (log_of w f) s q t.at.first (rw (le-leb q n (omega arith)) at h))
                | no k ↦ rw (le-ltb q n (omega arith)) (none_before (log_of w f) (s + 1))
              ])

          pub walk_next : (p' : ℕ) → p' ≡ next_place w f m p → Walked w f m' p' after
          walk_next p' j = record {
            at = (onward w f g.is_laid m m' e t.at u).at;
            most = most_next;
            place = place_next p' j;
            last = before_next;
            rest = turn m' e ∙ rw h;
          }

---- what the code of the walk needs: search walking
pub ruleset here = (here_none, here_some, here_op)

pub ruleset carrying = (place_same, place_behind, place_sum, more_fits, more_sum, turn_last, turn_more)

pub ruleset walking = (rules, tested, laid_long, here, carrying, walk_first, walk_stands, walk_fails, walk_less, walk_next, walk_last)
