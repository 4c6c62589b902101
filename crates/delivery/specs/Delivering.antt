-- What the steps of delivering ask of a buffer and an op.
use Rattle.rules.specs.File.{Log, width, log_of}
use Rattle.std.specs.Prelude.{ℕ, ◌≡◌, Bool, true, false, List, length}
use Rattle.rules.specs.Deliver.{is_held}
use Rattle.rules.specs.Op.{Vector, node_number, well_formed}
use Rattle.rules.specs.Sound.{sound}
use Rattle.structure.specs.Tests.{names_by}
use Rattle.codec.specs.Read.{fields_of}
use Rattle.codec.specs.declared.op.Fields.{Fields}
use Rattle.soundness.specs.Asked.{Tallied}

-- number 7 by the fields of an op
unfoldable pub names_in : Log → Vector → Fields → Bool
names_in log v x = names_by log v x.kind x.node x.parent (node_number x.replica x.sequence)

-- the tests 1, 2 and 3 passed, and the op reads as x
pub record Readable (f op : List ℕ) (x : Fields) : Type 0 where
  pub is_sound_so : sound width f ≡ true
  pub long : length op ≡ width
  pub formed : well_formed op ≡ true
  pub fields : fields_of op ≡ x

-- and its sequence is held
pub record Again (f op : List ℕ) (x : Fields) : Type 0 where
  pub reads : Readable f op x
  pub is_held_so : is_held (log_of width f) op ≡ true

-- or is not; u are the held counts
pub record Fresh (f op : List ℕ) (x : Fields) (u : Vector) : Type 0 where
  pub reads : Readable f op x
  pub tallied : Tallied f u
  pub is_new : is_held (log_of width f) op ≡ false
