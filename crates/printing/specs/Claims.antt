-- What the program prints for every input, and that short buffers are unsound.
use Rattle.std.specs.Prelude.{ℕ, ◌≤◌, ◌<◌, ◌≡◌, false, List, [], length}
use Rattle.rules.specs.File.{empty_log, file_of, largest, width}
use Rattle.rules.specs.Listing.{line_of, outline, refused_line}
use Rattle.rules.specs.Sound.{sound}

-- "an input of no bytes is read by the program as the collection without records, and it prints the root's line": depth 0, node 0, not
-- removed
abbrev pub NoBytes : Type 0
NoBytes = (w : ℕ) → (outline w [] ≡ outline w (file_of w empty_log)) × (outline w [] ≡ line_of 0 0 false)

-- "lengths 1 to 31 are still refused by 1"
abbrev pub ShortRefused : Type 0
ShortRefused = (w : ℕ) (f : List ℕ) → 1 ≤ length f → length f ≤ 31 → outline w f ≡ refused_line

-- what is longer than the largest file is refused, so one byte more than that of an input settles what is printed
abbrev pub LongRefused : Type 0
LongRefused = (w : ℕ) (f : List ℕ) → largest w < length f → outline w f ≡ refused_line

-- "in the library a buffer of length zero remains unsound", as all of fewer than 32 bytes are
abbrev pub ShortUnsound : Type 0
ShortUnsound = (w : ℕ) (f : List ℕ) → length f < 32 → sound w f ≡ false

-- no output has more than 24,492 bytes: 2,041 lines of 12
abbrev pub OutlineFits : Type 0
OutlineFits = (f : List ℕ) → length (outline width f) ≤ 24492
