-- A walk through all ops with a marker, in file order. E says something of replica s's op number q; what is left at a
-- marker is what E says of the ops from there on.
use mathlib.Core.Path.{◌≡◌, sym, ◌∙◌}
use mathlib.Core.Bool.{Bool, true, cond}
use mathlib.Core.List.{List, [], ◌∷◌, ◌++◌, map}
use Prim.Native.Nat.{ℕ, zero, suc, ◌+◌, ◌*◌, ◌-◌, ◌≤◌, ◌<◌}
use native.Mathlib.Omega.{arith}
use native.Mathlib.Numerals.{add-one}
use lib.ListN.{length}
use lib.Dec.{leb}
use native.Mathlib.Decide.{dec_le, ℕ_discrete}
use borrow.Author.Rules.{rules}
use borrow.Author.Tests.{le-leb, lt-leb, lt-ltb, le-ltb}
use Rattle.lists.specs.Lists.{up_from, concat}
use Rattle.rules.specs.Op.{replicas}
use Rattle.rules.specs.File.{Log, count_at, ops_of, log_of}
use Rattle.rules.specs.Log.{laid}
use Rattle.rules.proofs.StructureLaws.{count_held, laid_reads}
use Rattle.oplog.specs.declared.marker.Marker.{Marker}
use Rattle.oplog.specs.Places.{next_marker}
use Rattle.oplog.proofs.FieldLaws.{counts_in}

module _ {A : Type 0} (log : Log) (E : ℕ → ℕ → A) where
  -- the ops of replica s from number q on; those of the replicas above it
  unfoldable pub row : ℕ → ℕ → List A
  row s q = map (E s) (up_from q (length (ops_of log s) + 1 - q))

  above : ℕ → List A
  above s = concat (map (λ r. row r 1) (up_from (s + 1) (8 - s)))

  pub left : ℕ → ℕ → List A
  left s q = cond (leb s 8) (row s q ++ above s) []

  pub left_end : (s q : ℕ) → 8 < s → left s q ≡ []
  unfolding left
  left_end s q h = rw (lt-leb s 8 h)

  above_next : (s : ℕ) → s ≤ 8 → above s ≡ left (s + 1) 1
  unfolding above left up_from concat
  above_next s h = elim (dec_le (s + 1) 8) [
    | yes l ↦ let e : 8 - s ≡ suc (8 - (s + 1)) = omega arith in rw (le-leb (s + 1) 8 l, e, ← add-one (s + 1))
    | no l ↦ let e : 8 - s ≡ 0 = omega arith in rw (lt-leb (s + 1) 8 (omega arith), e)
  ]

  pub left_first : concat (map (λ s. row s 1) replicas) ≡ left 1 1
  unfolding replicas above
  left_first = above_next 0 (omega arith)

  module _ (s q : ℕ) (h : s ≤ 8) (lq : 1 ≤ q) where
    left_more : q < length (ops_of log s) → left s q ≡ E s q ∷ left s (q + 1)
    unfolding left row up_from
    left_more u =
        let e : length (ops_of log s) + 1 - q ≡ suc (length (ops_of log s) + 1 - (q + 1)) = omega arith in
        rw (le-leb s 8 h, e, ← add-one q)

    left_last : q ≡ length (ops_of log s) → left s q ≡ E s q ∷ left (s + 1) 1
    unfolding left row up_from
    left_last u =
        let e : length (ops_of log s) + 1 - q ≡ suc zero = omega arith in
        rw (← above_next s h, le-leb s 8 h, e)

    left_none : length (ops_of log s) < q → left s q ≡ left (s + 1) 1
    unfolding left row up_from
    left_none u =
        let e : length (ops_of log s) + 1 - q ≡ 0 = omega arith in
        rw (← above_next s h, le-leb s 8 h, e)

---- a step of the marker; n is the count that was read

module _ (f : List ℕ) (m : Marker) (n : ℕ) (e : n ≡ count_at f m.replica) where
  pub in_file_read : leb m.sequence n ≡ leb m.sequence (count_at f m.replica)
  in_file_read = rw e

  pub next_more : m.sequence < n → record { replica = m.replica; sequence = m.sequence + 1 } ≡ next_marker f m
  unfolding next_marker
  next_more h = rw (← e, lt-ltb m.sequence n h)

  pub next_replica : n ≤ m.sequence → record { replica = m.replica + 1; sequence = 1 } ≡ next_marker f m
  unfolding next_marker
  next_replica h = rw (← e, le-ltb m.sequence n h)

---- a turn of the walk

-- a marker on its way, or past the last op
pub record Walk (m : Marker) : Type 0 where
  pub first : 1 ≤ m.sequence
  pub last : m.sequence ≤ 255
  pub low : 1 ≤ m.replica
  pub high : m.replica ≤ 9

-- falls with every step
abbrev pub togo : Marker → ℕ
togo m = (10 - m.replica) * 256 - m.sequence

pub record Onward (m m' : Marker) : Type 0 where
  pub at : Walk m'
  pub less : togo m' < togo m

module _ (w : ℕ) (f : List ℕ) (good : laid w f ≡ true) (m m' : Marker) (e : m' ≡ next_marker f m) (at : Walk m) (u : m.replica ≤ 8) where
  abbrev is_there : Bool
  is_there = leb m.sequence (count_at f m.replica)

  pub onward : Onward m m'
  unfolding next_marker
  onward = rw e (elim (dec_le (m.sequence + 1) (count_at f m.replica)) [
    | yes h ↦
        let k : count_at f m.replica ≤ 255 = (laid_reads w f good).counts m.replica at.low u in
        rw (lt-ltb m.sequence (count_at f m.replica) (omega arith)) (record {
          at = record { first = omega arith; last = omega arith; low = at.low; high = omega arith };
          less = omega (arith, at);
        })
    | no h ↦ rw (le-ltb m.sequence (count_at f m.replica) (omega arith)) (record {
      at = record { first = omega arith; last = omega arith; low = omega arith; high = omega arith };
      less = omega (arith, at);
    })
  ])

  -- the op at the marker comes first, if it is there
  pub left_next : {A : Type 0} (E : ℕ → ℕ → A) → let rest = left (log_of w f) E m'.replica m'.sequence in
      left (log_of w f) E m.replica m.sequence ≡ cond is_there (E m.replica m.sequence ∷ rest) rest
  unfolding next_marker
  left_next E =
      let s : ℕ = m.replica in
      let q : ℕ = m.sequence in
      let n : ℕ = count_at f s in
      let l : length (ops_of (log_of w f) s) ≡ n = sym (count_held (log_of w f) s) ∙ counts_in w f s at.low u in
      rw e (elim (dec_le (q + 1) n) [
        | yes h ↦ rw (lt-ltb q n (omega arith), le-leb q n (omega arith)) (left_more (log_of w f) E s q u at.first (omega arith))
        | no h ↦ rw (le-ltb q n (omega arith)) (elim (ℕ_discrete q n) [
          | yes z ↦ rw (le-leb q n (omega arith)) (left_last (log_of w f) E s q u at.first (omega arith))
          | no nz ↦ rw (lt-leb q n (omega arith)) (left_none (log_of w f) E s q u at.first (omega arith))
        ])
      ])

---- what the code of the marker needs: search stepping
pub ruleset stepping = (rules, in_file_read, next_more, next_replica)
