-- The tests of an op against a log (numbers 5, 6 and 7), and structural soundness.
use Rattle.rules.specs.File.{header_counts, start_of, counts_of, start_at, op_at, within, file_end, log_of, ops_of, count_at, Log}
use Rattle.std.specs.Prelude.{ℕ, suc, Bool, true, cond, ◌&&◌, ◌||◌, not, List, [], ◌∷◌, length, leb, eqb}
use Rattle.lists.specs.Lists.{all}
use Rattle.rules.specs.Op.{Op, Vector, replicas, count_in, replica_of, node_of, parent_of, vector_of, seq_of, node_number, is_add, is_remove, well_formed}
use Rattle.rules.specs.Marks.{is_known, knowledge}

---- the tests of an op against a log

-- number 5: no count of the vector is above what is held
unfoldable pub covered : Log → Vector → Bool
covered log v = within v (counts_of log)

-- number 6, closed: for each replica with a count k above 0, the vector of that replica's op k is nowhere greater than this one
unfoldable pub closed_at : Log → Vector → ℕ → Bool
closed_at log v s = eqb (count_in v s) 0 || within (vector_of (op_at log s (count_in v s))) v

unfoldable pub closed : Log → Vector → Bool
closed log v = all (closed_at log v) replicas

-- "the root is known as parent only"
unfoldable pub known_parent : Log → Vector → ℕ → Bool
known_parent log v n = eqb n 0 || is_known (knowledge log v n)

-- number 7: of an add the parent is known and the node has its number; of a remove the node is known; of a move node
-- and parent are known, and the parent is not the node
unfoldable pub names_known : Log → Op → Bool
names_known log r =
    cond (is_add r) (known_parent log (vector_of r) (parent_of r) && eqb (node_of r) (node_number (replica_of r) (seq_of r)))
    (is_known (knowledge log (vector_of r) (node_of r))
    && (is_remove r || known_parent log (vector_of r) (parent_of r) && not (eqb (parent_of r) (node_of r))))

---- structural soundness: the layout, and tests 3, 5, 6 and 7 on every body

-- replica s's body number q "has its own seat and sequence", and passes the tests for numbers 3, 5, 6 and 7
unfoldable pub sound_op : Log → ℕ → ℕ → Op → Bool
sound_op log s q r =
    eqb (replica_of r) s && eqb (seq_of r) q && well_formed r && covered log (vector_of r) && closed log (vector_of r) && names_known log r

unfoldable pub sound_ops : Log → ℕ → ℕ → List Op → Bool
sound_ops log s q [] = true
sound_ops log s q (r ∷ rs) = sound_op log s q r && sound_ops log s (suc q) rs

unfoldable pub sound_log : Log → Bool
sound_log log = all (λ s. sound_ops log s 1 (ops_of log s)) replicas

-- "counts are at most 255, starts are right"
unfoldable pub sound_header : ℕ → List ℕ → Bool
sound_header w f = all (λ s. leb (count_at f s) 255 && eqb (start_at f s) (start_of w (header_counts f) s)) replicas

-- "at least 32 bytes", the header, and "it fits its buffer"
unfoldable pub laid : ℕ → List ℕ → Bool
laid w f = leb 32 (length f) && sound_header w f && leb (file_end w f) (length f)

unfoldable pub structural : ℕ → List ℕ → Bool
structural w f = laid w f && sound_log (log_of w f)
