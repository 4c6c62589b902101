-- What the contracts over a file ask and say: places of ops in a laid-out file of ops of w bytes.
use Rattle.std.specs.Prelude.{ℕ, ◌+◌, ◌*◌, ◌-◌, ◌≤◌, ◌≡◌, true, cond, List, leb, ltb}
use Rattle.rules.specs.Op.{Vector, count_in}
use Rattle.rules.specs.File.{count_at, header_counts, start_of}
use Rattle.rules.specs.Log.{laid}
use Rattle.oplog.specs.declared.marker.Marker.{Marker}

-- where the body of replica s's op q starts
abbrev pub place_of : ℕ → List ℕ → ℕ → ℕ → ℕ
place_of w f s q = start_of w (header_counts f) s + w * (q - 1)

-- a laid-out file has an op number q of replica s
pub record InFile (w : ℕ) (f : List ℕ) (s q : ℕ) : Type 0 where
  pub wide : 14 ≤ w
  pub is_laid : laid w f ≡ true
  pub low : 1 ≤ s
  pub high : s ≤ 8
  pub first : 1 ≤ q
  pub last : q ≤ count_at f s

-- a laid-out file has the ops that a vector counts
pub record Held (w : ℕ) (f : List ℕ) (v : Vector) : Type 0 where
  pub wide : 14 ≤ w
  pub is_laid : laid w f ≡ true
  pub each : (s : ℕ) → 1 ≤ s → s ≤ 8 → count_in v s ≤ count_at f s

-- a marker at a replica of a laid-out file, and where its op starts
pub record Stands (w : ℕ) (f : List ℕ) (m : Marker) (at : ℕ) : Type 0 where
  pub wide : 14 ≤ w
  pub is_laid : laid w f ≡ true
  pub low : 1 ≤ m.replica
  pub high : m.replica ≤ 8
  pub first : 1 ≤ m.sequence
  pub place : at ≡ place_of w f m.replica m.sequence

-- the next marker in file order
unfoldable pub next_marker : List ℕ → Marker → Marker
next_marker f m =
    cond (ltb m.sequence (count_at f m.replica))
    (record { replica = m.replica; sequence = m.sequence + 1 })
    (record { replica = m.replica + 1; sequence = 1 })

-- where its op starts: behind the op at this one, if there is one
unfoldable pub next_place : ℕ → List ℕ → Marker → ℕ → ℕ
next_place w f m at = cond (leb m.sequence (count_at f m.replica)) (at + w) at
