-- What a call adds, and what every list of calls comes to: the file of the held ops, which the calls and the buffer's length alone settle.
use Rattle.std.specs.Prelude.{ℕ, ◌+◌, ◌*◌, ◌≤◌, ◌≡◌, true, false, List, ◌∷◌, length, drop}
use Rattle.rules.specs.Answer.{Answer, accepted, if_accepted}
use Rattle.lists.specs.Lists.{concat}
use Rattle.rules.specs.Bundle.{bundle_call}
use Rattle.rules.specs.Op.{Op, Vector}
use Rattle.rules.specs.File.{width, file_end}
use Rattle.rules.specs.Judge.{judge}
use Rattle.rules.specs.Path.{path_call}
use Rattle.rules.specs.Views.{View}
use Rattle.rules.specs.Listing.{listing}
use Rattle.convergence.specs.Exchange.{Call, make, Site, answer, buffer_after, begun, added, Adds, lent, run, reply, replies, file_in, standing, has, times, Agreed, arrange, filed}

---- one call

pub record CallsAdd : Type 0 where
  -- an accepted call leaves what delivering the ops that it adds, in turn, would leave, each being accepted; it answers the new file end
  pub adds : (x : Site) (c : Call) (n : ℕ) → answer x.buffer c ≡ accepted n
      → Adds (begun x c).buffer (added x.buffer c) (buffer_after x.buffer c)
  pub ends : (f : List ℕ) (c : Call) (n : ℕ) → answer f c ≡ accepted n → file_end width (buffer_after f c) ≡ n
  -- any other call changes no byte
  pub keeps : (f : List ℕ) (c : Call) → if_accepted (answer f c) true false ≡ false → buffer_after f c ≡ f

---- a list of calls

-- a buffer that holds just what is held
pub record Stored (x : Site) : Type 0 where
  -- "the file is, to its end, the table and bodies of the held records, laid out as above"
  pub file : x.buffer ≡ filed x.held x.buffer
  -- one op of each replica and sequence, once: so arranging drops none, and an op is in the arranged log exactly if it is held
  pub agrees : Agreed x.held x.held
  pub once : (r : Op) → times x.held r ≤ 1
  pub every : (r : Op) → has (concat (arrange x.held)) r ≡ has x.held r

-- "after every list"
abbrev pub ListsFile : Type 0
ListsFile = (f : List ℕ) (calls : List Call) → 32 ≤ length f → Stored (run f calls)

-- two lists that hold the same ops, in whatever order they came
abbrev pub SameHeld : Site → Site → Type 0
SameHeld x y = (r : Op) → has x.held r ≡ has y.held r

-- a file may stay where it is: its buffer is one that it stands in
abbrev pub StaysPut : Type 0
StaysPut = (x : Site) → standing x (drop (file_end width x.buffer) x.buffer) ≡ x

-- strong eventual consistency: the same ops are the same file
abbrev pub SameOpsSameFile : Type 0
SameOpsSameFile =
    (f g : List ℕ) (a b : List Call) → 32 ≤ length f → 32 ≤ length g
    → SameHeld (run f a) (run g b) → file_in (run f a) ≡ file_in (run g b)

-- "each answer and each issued record follow by the rules above from the call and the records held before it"; the
-- buffer's length is part of the call. So do the ops that a call adds
abbrev pub HeldSettles : Type 0
HeldSettles =
    (f g : List ℕ) (a b : List Call) → 32 ≤ length f → length f ≡ length g
    → SameHeld (run f a) (run g b) → (c : Call)
    → (reply (run f a).buffer c ≡ reply (run g b).buffer c) × (added (run f a).buffer c ≡ added (run g b).buffer c)

-- "so the calls alone settle what is held": two buffers of one length, whatever they held
abbrev pub CallsSettle : Type 0
CallsSettle =
    (f g : List ℕ) (calls : List Call) → 32 ≤ length f → length f ≡ length g
    → (replies (lent f) (make ∷ calls) ≡ replies (lent g) (make ∷ calls)) × ((run f calls).held ≡ (run g calls).held)

-- judging, path, listing and making a bundle, which only read, are settled by the held ops too, in buffers of any length
pub record ReadAlike (f g : List ℕ) : Type 0 where
  pub judging : (parents outcomes : List ℕ) → judge width f parents outcomes ≡ judge width g parents outcomes
  pub paths : (n : ℕ) (out : List ℕ) → path_call width f n out ≡ path_call width g n out
  pub listings : (view : View) (out : List ℕ) → listing width f view out ≡ listing width g view out
  pub bundles : (v : Vector) (out : List ℕ) → bundle_call width f v out ≡ bundle_call width g v out

abbrev pub ReadsSettle : Type 0
ReadsSettle =
    (f g : List ℕ) (a b : List Call) → 32 ≤ length f → 32 ≤ length g
    → SameHeld (run f a) (run g b) → ReadAlike (run f a).buffer (run g b).buffer

-- "bytes past the end are neither read nor changed, but for the 14 that an accepted record adds": that they are not
-- read is said above; a call answers the end that it began with and 14 for each op that it adds, what lies past that
-- is as before, and a call that is not accepted changes nothing
pub record PastKept (f after : List ℕ) (start : ℕ) (ops : List Op) (a : Answer) : Type 0 where
  pub size : length after ≡ length f
  pub end : (n : ℕ) → a ≡ accepted n → file_end width after ≡ n
  pub grown : (n : ℕ) → a ≡ accepted n → n ≡ start + width * length ops
  pub past : (n : ℕ) → a ≡ accepted n → drop n after ≡ drop n f
  pub refused : if_accepted a false true ≡ true → after ≡ f

abbrev pub CallsKeepPast : Type 0
CallsKeepPast =
    (f : List ℕ) (c : Call)
    → PastKept f (buffer_after f c) (file_end width (begun (lent f) c).buffer) (added f c) (answer f c)
