-- "Every record issued is read back as it was meant" (demand 2), as one statement.
use Rattle.std.specs.Prelude.{ℕ, ◌+◌, ◌≤◌, ◌≡◌, true, false, List, Ok, length, take}
use Rattle.rules.specs.Answer.{accepted}
use Rattle.rules.specs.Op.{count_in, kind_of, replica_of, node_of, parent_of, vector_of, seq_of, node_number}
use Rattle.rules.specs.File.{Log, counts_of, Extends, width, file_end, log_of}
use Rattle.rules.specs.Sound.{sound}
use Rattle.rules.specs.Deliver.{is_held, deliver_answer}
use Rattle.rules.specs.Replay.{parents_of}
use Rattle.rules.specs.Issue.{Request, add, remove, move, issue_answer, issue_out}
use Rattle.rules.specs.Tree.{move_kind}
use Rattle.codec.specs.declared.op.Fields.{Fields}
use Rattle.codec.specs.Read.{read_of}

-- what was meant by a request of replica s
unfoldable pub kind_meant : Log → Request → ℕ
kind_meant log (add p) = 1
kind_meant log (remove n) = 2
kind_meant log (move n p) = move_kind (parents_of log) n p

unfoldable pub node_meant : Log → ℕ → Request → ℕ
node_meant log s (add p) = node_number s (count_in (counts_of log) s + 1)
node_meant log s (remove n) = n
node_meant log s (move n p) = n

unfoldable pub parent_meant : Request → ℕ
parent_meant (add p) = p
parent_meant (remove n) = 0
parent_meant (move n p) = p

abbrev pub fields_meant : Log → ℕ → Request → Fields
fields_meant log s q = record {
  kind = kind_meant log q;
  replica = s;
  sequence = count_in (counts_of log) s + 1;
  node = node_meant log s q;
  parent = parent_meant q;
}

-- what the bytes r say that replica s put out at a log
pub record ReadsBack (log : Log) (s : ℕ) (q : Request) (r : List ℕ) : Type 0 where
  pub long : length r ≡ width
  pub kind : kind_of r ≡ kind_meant log q
  pub origin : replica_of r ≡ s
  pub sequence : seq_of r ≡ count_in (counts_of log) s + 1
  pub node : node_of r ≡ node_meant log s q
  pub parent : parent_of r ≡ parent_meant q
  pub vector : vector_of r ≡ counts_of log
  -- the op reader, `read_op`, answers an op with these fields
  pub reads : read_of width r ≡ Ok (fields_meant log s q)
  -- every sound log that holds what its vector counts, and not the op, accepts it where there is room
  pub accepted_by : (g : List ℕ) → sound width g ≡ true → Extends log (log_of width g) → is_held (log_of width g) r ≡ false
      → file_end width g + width ≤ length g → deliver_answer width g r ≡ accepted (file_end width g + width)

abbrev pub IssuedReadsBack : Type 0
IssuedReadsBack =
    (f out : List ℕ) (s : ℕ) (q : Request) (n : ℕ) → issue_answer width f (length out) s q ≡ accepted n
    → ReadsBack (log_of width f) s q (take width (issue_out width f out s q))
