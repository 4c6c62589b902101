-- What the program writes.
use Rattle.std.specs.Prelude.{ℕ, ◌≤◌, ◌<◌, length, take, List, ◌≡◌}
use Rattle.rules.specs.Answer.{Answer, refused, had_it, waiting, done, accepted}
use Rattle.rules.specs.File.{largest, width}
use Rattle.rules.specs.Listing.{outline}
use Rattle.outline.specs.Reading.{ReadFrom}

-- how many bytes an answer counts
abbrev pub counted : Answer → ℕ
counted (refused why) = 0
counted had_it = 0
counted waiting = 0
counted done = 0
counted (accepted n) = n

-- what is lent for a text: a buffer for more than the largest file, of which n bytes were read, and room for every output
pub record Readable (buf : List ℕ) (n : ℕ) (out : List ℕ) : Type 0 where
  pub within : n ≤ length buf
  pub buf_size : largest width < length buf
  pub out_size : 24492 ≤ length out

-- what is printed for every input of which these bytes were read
abbrev pub TextOf : (buf : List ℕ) (n : ℕ) (text : List ℕ) → Type 0
TextOf buf n text = (input : List ℕ) → ReadFrom buf n input → text ≡ outline width input

-- the first n bytes are what is printed for some input
abbrev pub Printed : (bytes : List ℕ) (n : ℕ) → Type 0
Printed bytes n = (n ≤ length bytes) × (input : List ℕ) × (take n bytes ≡ outline width input)
