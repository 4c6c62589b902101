-- The log (the document's collection): the ops of each replica in sequence order, and its layout in bytes.
use Rattle.rules.specs.Op.{Op, Vector, count_in, replica_of, replicas}
use Rattle.lists.specs.Lists.{all, concat, sum}
use Rattle.rules.specs.Bytes.{word, word_at}
use Rattle.std.specs.Prelude.{Bool, List, [], ◌++◌, ◌∷◌, map, ◌*◌, ◌+◌, ◌-◌, ◌≤◌, suc, zero, ℕ, ◌≡◌, drop, get_or, length, replicate, set, take, leb}

-- a list of ops for each of the replicas 1 to 8
abbrev pub Log : Type 0
Log = List (List Op)

unfoldable pub empty_log : Log
empty_log = replicate 8 []

unfoldable pub ops_of : Log → ℕ → List Op
ops_of log s = get_or log (s - 1) []

-- replica s's op number q, from 1
unfoldable pub op_at : Log → ℕ → ℕ → Op
op_at log s q = get_or (ops_of log s) (q - 1) []

-- the held counts
unfoldable pub counts_of : Log → Vector
counts_of log = map length log

-- the log with one op more, last among its replica's
unfoldable pub append : Log → Op → Log
append log r = set log (replica_of r - 1) (ops_of log (replica_of r) ++ (r ∷ []))

-- a log that holds every op of another
pub record Extends (log more : Log) : Type 0 where
  pub counts : (s : ℕ) → 1 ≤ s → s ≤ 8 → count_in (counts_of log) s ≤ count_in (counts_of more) s
  pub ops : (s q : ℕ) → 1 ≤ s → s ≤ 8 → 1 ≤ q → q ≤ count_in (counts_of log) s → op_at more s q ≡ op_at log s q

-- two logs that agree: an op of a replica and number that both hold is the same in both
abbrev pub Agree : Log → Log → Type 0
Agree a b = (s q : ℕ) → 1 ≤ s → s ≤ 8 → 1 ≤ q → q ≤ count_in (counts_of a) s → q ≤ count_in (counts_of b) s → op_at b s q ≡ op_at a s q

---- layout

-- the bytes of an op; the layout is stated for ops of w bytes
abbrev pub width : ℕ
width = 14

-- the count and the start that the header (the document's table of contents) gives for replica s
unfoldable pub count_at : List ℕ → ℕ → ℕ
count_at f s = word_at f (4 * (s - 1))

unfoldable pub start_at : List ℕ → ℕ → ℕ
start_at f s = word_at f (4 * (s - 1) + 2)

unfoldable pub header_counts : List ℕ → Vector
header_counts f = map (count_at f) replicas

-- "a start is 32 + 14 x the records of all lower seats"; "the file ends at 32 + 14 x all records"
unfoldable pub start_of : ℕ → Vector → ℕ → ℕ
start_of w counts s = 32 + w * sum (take (s - 1) counts)

unfoldable pub end_of : ℕ → Vector → ℕ
end_of w counts = 32 + w * sum counts

-- the largest file: 255 ops of each replica
abbrev pub largest : ℕ → ℕ
largest w = 32 + w * 2040

unfoldable pub file_end : ℕ → List ℕ → ℕ
file_end w f = end_of w (header_counts f)

-- n bodies of w bytes from the front of bytes; the bodies of each replica
unfoldable pub chunks : ℕ → ℕ → List ℕ → List Op
chunks w zero bs = []
chunks w (suc n) bs = take w bs ∷ chunks w n (drop w bs)

unfoldable pub chunks_of : ℕ → List ℕ → List ℕ → Log
chunks_of w [] bs = []
chunks_of w (n ∷ ns) bs = chunks w n bs ∷ chunks_of w ns (drop (w * n) bs)

-- the log that bytes hold
unfoldable pub log_of : ℕ → List ℕ → Log
log_of w f = chunks_of w (header_counts f) (drop 32 f)

-- the header: for each replica a two-byte count and a two-byte start
unfoldable pub header_entry : ℕ → Vector → ℕ → List ℕ
header_entry w counts s = word (count_in counts s) ++ word (start_of w counts s)

unfoldable pub header_of : ℕ → Vector → List ℕ
header_of w counts = concat (map (header_entry w counts) replicas)

-- a log as bytes: the header, then the bodies, replica by replica in sequence order
unfoldable pub file_of : ℕ → Log → List ℕ
file_of w log = header_of w (counts_of log) ++ concat (concat log)

-- the buffer with one op more; what lies past the new file end stays
unfoldable pub appended : ℕ → List ℕ → Op → List ℕ
appended w f r = file_of w (append (log_of w f) r) ++ drop (file_end w f + w) f

---- vectors

-- a vector nowhere greater than another
unfoldable pub within : Vector → Vector → Bool
within v u = all (λ s. leb (count_in v s) (count_in u s)) replicas
