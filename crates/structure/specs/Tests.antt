-- The tests of an op against a log, as the code makes them: by the fields of the op.
use Rattle.std.specs.Prelude.{ℕ, ◌+◌, ◌-◌, ◌≤◌, ◌<◌, ◌≡◌, Bool, true, cond, ◌&&◌, ◌||◌, not, List, leb, ltb, eqb, replicate}
use Rattle.lists.specs.Lists.{all}
use Rattle.rules.specs.Op.{Vector, count_in, replicas, vector_of}
use Rattle.rules.specs.File.{Log, count_at, header_counts, log_of, op_at, within}
use Rattle.rules.specs.Log.{laid, known_parent, covered, closed_at, closed, sound_op}
use Rattle.rules.specs.Marks.{is_known, knowledge}
use Rattle.codec.specs.Asked.{kind_fits}
use Rattle.vector.specs.Packed.{is_step}
use Rattle.oplog.specs.Places.{InFile, next_marker, next_place}
use Rattle.structure.specs.declared.turn.Turn.{Turn}
use Rattle.oplog.specs.declared.marker.Marker.{Marker}

-- a laid-out file and its counts
pub record LaidOut (w : ℕ) (f : List ℕ) (counts : Vector) : Type 0 where
  pub wide : 14 ≤ w
  pub is_laid : laid w f ≡ true
  pub held : counts ≡ header_counts f

-- number 7 by the fields of an op; own is the number of the node that the op makes, if it is an add
unfoldable pub names_by : Log → Vector → ℕ → ℕ → ℕ → ℕ → Bool
names_by log v kind node parent own =
    cond (eqb kind 1) (known_parent log v parent && eqb node own)
    (is_known (knowledge log v node) && (eqb kind 2 || known_parent log v parent && not (eqb parent node)))

-- number 7 of a move: node and parent are known, and the parent is not the node
unfoldable pub move_names : Log → Vector → ℕ → ℕ → Bool
move_names log v node parent = is_known (knowledge log v node) && (known_parent log v parent && not (eqb parent node))

-- the tests 3 and 7 of an op
unfoldable pub passes_by : Log → Vector → ℕ → ℕ → ℕ → ℕ → Bool
passes_by log v kind node parent own = kind_fits kind parent && names_by log v kind node parent own

-- the sequence q and the tests 5 and 6, by the vector of an op of replica s
unfoldable pub vector_by : Log → Vector → ℕ → ℕ → Bool
vector_by log v s q = eqb (count_in v s + 1) q && covered log v && closed log v

-- replica s's op number q passes all tests
abbrev pub sound_at : Log → ℕ → ℕ → Bool
sound_at log s q = sound_op log s q (op_at log s q)

---- along a replica

-- the vector of replica s's op before number q; before the first nothing is counted
unfoldable pub vector_before : Log → ℕ → ℕ → Vector
vector_before log s q = cond (ltb 1 q) (vector_of (op_at log s (q - 1))) (replicate 8 0)

-- this is it, and that op is sound
pub record Before (log : Log) (s q : ℕ) (before : Vector) : Type 0 where
  pub is : before ≡ vector_before log s q
  pub is_sound_so : 1 < q → sound_at log s (q - 1) ≡ true

-- the op number q of replica s of a file of these counts, and the vector before it
pub record OpHere (w : ℕ) (f : List ℕ) (counts before : Vector) (s q : ℕ) : Type 0 where
  pub there : InFile w f s q
  pub held : counts ≡ header_counts f
  pub last : Before (log_of w f) s q before

-- the own count alone has changed, by one
unfoldable pub own_alone : Vector → Vector → ℕ → ℕ → Bool
own_alone before v s q = ltb 1 q && is_step before v s

-- a vector is closed at the count of another replica than the own, if that has changed
unfoldable pub change_closed : Log → Vector → Vector → ℕ → ℕ → Bool
change_closed log before v own t = eqb t own || (eqb (count_in v t) (count_in before t) || closed_at log v t)

unfoldable pub changes_closed : Log → Vector → Vector → ℕ → Bool
changes_closed log before v own = all (change_closed log before v own) replicas

-- a vector is nowhere less than the one before, and closed at every other replica's count that has changed
unfoldable pub risen : Log → Vector → Vector → ℕ → Bool
risen log before v own = within before v && changes_closed log before v own

---- along the file

-- the op at a marker, if the file has one there, passes all tests
unfoldable pub sound_here : ℕ → List ℕ → Marker → Bool
sound_here w f m =
    cond (leb m.sequence (count_at f m.replica)) (sound_at (log_of w f) m.replica m.sequence) true

-- the vector before the next marker
unfoldable pub next_before : ℕ → List ℕ → Marker → Vector
next_before w f m =
    cond (ltb m.sequence (count_at f m.replica)) (vector_of (op_at (log_of w f) m.replica m.sequence)) (replicate 8 0)

-- a turn leads to the next marker, the place of its op and the vector before it
pub record Turned (w : ℕ) (f : List ℕ) (m : Marker) (at : ℕ) (t : Turn) : Type 0 where
  pub marker : t.marker ≡ next_marker f m
  pub place : t.at ≡ next_place w f m at
  pub before : t.before ≡ next_before w f m
