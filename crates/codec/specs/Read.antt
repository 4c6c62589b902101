-- What the op reader answers.
use Rattle.std.specs.Prelude.{ℕ, List, Result, Ok, Err, cond, length, eqb}
use Rattle.rules.specs.Op.{kind_of, replica_of, node_of, parent_of, seq_of, well_formed}
use Rattle.codec.specs.declared.op.Fields.{Fields}
use Rattle.codec.specs.declared.answer.Refusal.{Refusal}
use Rattle.codec.specs.declared.answer.Refusal.TheVariants.{Length, Malformed}

abbrev pub fields_of : List ℕ → Fields
fields_of b = record { kind = kind_of b; replica = replica_of b; sequence = seq_of b; node = node_of b; parent = parent_of b }

-- an op of w bytes
unfoldable pub read_of : ℕ → List ℕ → Result Fields Refusal
read_of w b = cond (eqb (length b) w) (cond (well_formed b) (Ok (fields_of b)) (Err Malformed)) (Err Length)
