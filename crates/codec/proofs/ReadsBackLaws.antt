-- An issued op reads back as it was meant.
use mathlib.Core.Path.{◌≡◌, refl, ◌∙◌}
use mathlib.Core.Bool.{true}
use Prim.Native.Nat.{ℕ, ◌+◌}
use lib.ListN.{length, take}
use borrow.Author.Tests.{eq-eqb}
use Rattle.rules.specs.Issue.{Request, add, remove, move, issue_out, op_bytes, issued}
use Rattle.rules.specs.Op.{Op, count_in, seq_of, kind_of, replica_of, own_count, vector_of, node_of, parent_of, well_formed}
use Rattle.rules.specs.File.{Log, log_of, counts_of, width}
use Rattle.rules.proofs.IssueLaws.{counts_eight, issue_admitted, bytes_node, bytes_vector, bytes_parent}
use Rattle.rules.proofs.SoundLaws.{sound_good}
use Rattle.rules.proofs.StructureLaws.{GoodLog}
use Rattle.rules.proofs.PutOutLaws.{put_out_law, put_out_next}
use Rattle.codec.specs.Read.{read_of}
use Rattle.codec.specs.ReadsBack.{kind_meant, node_meant, parent_meant, fields_meant, IssuedReadsBack}
use Rattle.std.specs.Prelude.{Ok}

module _ (log : Log) (g : GoodLog log) (s : ℕ) (q : Request) where
  abbrev meant : Op
  meant = op_bytes (kind_meant log q) s (node_meant log s q) (parent_meant q) (counts_of log)

  kind_back : kind_of meant ≡ kind_meant log q
  unfolding kind_of op_bytes
  kind_back = refl

  origin_back : replica_of meant ≡ s
  unfolding replica_of op_bytes
  origin_back = refl

  vector_back : vector_of meant ≡ counts_of log
  vector_back = bytes_vector _ s _ _ (counts_of log) (counts_eight log g)

  sequence_back : seq_of meant ≡ count_in (counts_of log) s + 1
  unfolding seq_of own_count
  sequence_back = rw (vector_back, origin_back)

  node_back : node_of meant ≡ node_meant log s q
  node_back = bytes_node _ s _ _ (counts_of log)

  parent_back : parent_of meant ≡ parent_meant q
  parent_back = bytes_parent _ s _ _ (counts_of log)

  reads_back : length meant ≡ width → well_formed meant ≡ true → read_of width meant ≡ Ok (fields_meant log s q)
  unfolding read_of
  reads_back long formed =
      rw (eq-eqb (length meant) width long, formed, kind_back, origin_back, sequence_back, node_back, parent_back)

-- an issued op is made of what was meant
issued_is : (log : Log) (g : GoodLog log) (s : ℕ) (q : Request) → issued log s q ≡ meant log g s q
unfolding issued kind_meant node_meant parent_meant
issued_is log g s (add p) = refl
issued_is log g s (remove n) = refl
issued_is log g s (move n p) = refl

pub issued_reads_back : IssuedReadsBack
issued_reads_back f out s q n e =
    let log : Log = log_of width f in
    let a = issue_admitted f (length out) s q n e in
    let g = sound_good width f a.is_sound_so in
    let next = put_out_next f out s q n e in
    let is : take width (issue_out width f out s q) ≡ meant log g s q = put_out_law f out s q n e ∙ issued_is log g s q in
    record {
      long = rw (put_out_law f out s q n e) a.long;
      kind = rw is (kind_back log g s q);
      origin = next.origin;
      sequence = next.sequence;
      node = rw is (node_back log g s q);
      parent = rw is (parent_back log g s q);
      vector = rw is (vector_back log g s q);
      reads = rw is (reads_back log g s q (rw (← issued_is log g s q) a.long) (rw (← issued_is log g s q) a.admits.formed));
      accepted_by = next.accepted_by;
    }
