-- What the functions that write a bundle's bodies ask and leave.
use Rattle.std.specs.Prelude.{All, ℕ, ◌+◌, ◌≤◌, cond, true, List, [], ◌++◌, map, ◌≡◌, ltb, drop, length, take}
use Rattle.lists.specs.Lists.{concat}
use Rattle.rules.specs.Bundle.{ops_beyond}
use Rattle.rules.specs.File.{Log, log_of, width}
use Rattle.rules.specs.Op.{Vector, count_in}
use Rattle.rules.specs.Sound.{sound}
use Rattle.tree.specs.Slots.{InSlot, op_in, replica_in, sequence_in}
use Rattle.schedule.specs.declared.entries.Entry.{Entry}

-- lent bytes, and the place behind those that are written
pub record Output : Type 0 where
  pub bytes : List ℕ
  pub behind : ℕ

abbrev pub output : List ℕ → ℕ → Output
output bytes n = record { bytes = bytes; behind = n }

-- bytes laid over those from a place on
unfoldable pub laid_over : (out : List ℕ) (at : ℕ) (bytes : List ℕ) → Output
laid_over out at xs = output (take at out ++ (xs ++ drop (at + length xs) out)) (at + length xs)

-- the op of a slot, if it is beyond the counts
unfoldable pub body_of : Log → Vector → ℕ → List ℕ
body_of log v n = cond (ltb (count_in v (replica_in n)) (sequence_in n)) (op_in log n) []

-- those of the slots of entries
unfoldable pub bodies_along : Log → Vector → List Entry → List ℕ
bodies_along log v es = concat (map (λ (e : Entry). body_of log v e.slot) es)

-- the body at a place of the file, copied to a place of the lent bytes
unfoldable pub copied : (f : List ℕ) (from : ℕ) (out : List ℕ) (at : ℕ) → List ℕ
copied f from out at = take at out ++ (take width (drop from f) ++ drop (at + width) out)

---- what the functions ask

pub record Copied (f : List ℕ) (from : ℕ) (out : List ℕ) (at : ℕ) : Type 0 where
  pub source : from + width ≤ length f
  pub room : at + width ≤ length out

pub record BodyRoom (f : List ℕ) (counts : Vector) (slot : ℕ) (out : List ℕ) (at : ℕ) : Type 0 where
  pub in_slot : InSlot width f slot
  pub room : at + length (body_of (log_of width f) counts slot) ≤ length out

pub record BodiesRoom (f : List ℕ) (counts : Vector) (es : List Entry) (out : List ℕ) : Type 0 where
  pub in_slots : All (λ (e : Entry). InSlot width f e.slot) es
  pub room : length (bodies_along (log_of width f) counts es) ≡ length out

pub record WholeRoom (f : List ℕ) (counts : Vector) (out : List ℕ) : Type 0 where
  pub is_sound_so : sound width f ≡ true
  pub room : length (concat (ops_beyond (log_of width f) counts)) ≡ length out
