-- What the line writers ask, and what they leave behind.
use Rattle.std.specs.Prelude.{ℕ, ◌+◌, ◌<◌, ◌≤◌, List, ◌++◌, length, take, drop}
use Rattle.pen.specs.declared.line.Pen.{Pen}

-- bytes with a text at a place
abbrev pub written : List ℕ → ℕ → List ℕ → List ℕ
written out at text = take at out ++ (text ++ drop (at + length text) out)

-- there is room for a line behind what a pen has written
pub record Asked (out : List ℕ) (pen : Pen) (line : List ℕ) : Type 0 where
  pub room : pen.bytes + length line ≤ length out
  pub few : pen.lines < 65536

-- the bytes, and the pen that wrote them
pub record Penned : Type 0 where
  pub out : List ℕ
  pub pen : Pen

-- a line behind what a pen has written, and the pen with the line counted
unfoldable pub penned : (out : List ℕ) (pen : Pen) (line : List ℕ) → Penned
penned out pen line = record {
  out = written out pen.bytes line;
  pen = record { bytes = pen.bytes + length line; lines = pen.lines + 1 };
}
