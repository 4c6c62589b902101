-- "The record, 14 bytes". An op (the document's record): its fields, and the test of its form (number 3).
-- An op is the list of its bytes; a version vector (the document's context) is a list of eight counts.
use Rattle.std.specs.Prelude.{ℕ, ◌+◌, ◌*◌, ◌-◌, Bool, ◌&&◌, ◌||◌, not, List, take, drop, get_or, leb, ltb, eqb}
use Rattle.rules.specs.Bytes.{byte, word_at}
use Rattle.lists.specs.Lists.{up_from}

abbrev pub Op : Type 0
Op = List ℕ

-- counts of replicas 1 to 8, in this order: count k of a replica says that its first k ops are there
abbrev pub Vector : Type 0
Vector = List ℕ

-- the replicas (the document's seats)
unfoldable pub replicas : List ℕ
replicas = up_from 1 8

unfoldable pub is_replica : ℕ → Bool
is_replica s = leb 1 s && leb s 8

-- the count of replica s in a vector
unfoldable pub count_in : Vector → ℕ → ℕ
count_in v s = get_or v (s - 1) 0

-- the fields; kind 1 is an add, 2 a remove, 3 an upward move, 4 a downward move
unfoldable pub kind_of : Op → ℕ
kind_of r = byte r 0

unfoldable pub replica_of : Op → ℕ
replica_of r = byte r 1

unfoldable pub node_of : Op → ℕ
node_of r = word_at r 2

unfoldable pub parent_of : Op → ℕ
parent_of r = word_at r 4

unfoldable pub vector_of : Op → Vector
vector_of r = take 8 (drop 6 r)

-- the origin's own count in its vector; the sequence, which is not written, is one more
unfoldable pub own_count : Op → ℕ
own_count r = count_in (vector_of r) (replica_of r)

unfoldable pub seq_of : Op → ℕ
seq_of r = own_count r + 1

-- a vector counts an op
abbrev pub counted : Vector → Op → Bool
counted v r = leb (seq_of r) (count_in v (replica_of r))

-- the node that replica s's op q makes, if it is an add: 256 x seat + sequence
unfoldable pub node_number : ℕ → ℕ → ℕ
node_number s q = 256 * s + q

unfoldable pub is_add : Op → Bool
is_add r = eqb (kind_of r) 1

unfoldable pub is_remove : Op → Bool
is_remove r = eqb (kind_of r) 2

-- a move, upward or downward
unfoldable pub is_move : Op → Bool
is_move r = eqb (kind_of r) 3 || eqb (kind_of r) 4

-- number 3: replica 1 to 8, kind 1 to 4, own count below 255, and a remove has parent 0
unfoldable pub well_formed : Op → Bool
well_formed r =
    is_replica (replica_of r)
    && (leb 1 (kind_of r) && leb (kind_of r) 4)
    && ltb (own_count r) 255
    && (not (is_remove r) || eqb (parent_of r) 0)
