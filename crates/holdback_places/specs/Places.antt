-- What the functions on a holdback's places ask.
use Rattle.std.specs.Prelude.{ℕ, suc, ◌+◌, ◌*◌, ◌<◌, ◌≤◌, true, List, ◌++◌, ◌≡◌, length, take, drop, replicate}
use Rattle.rules.specs.Bytes.{byte}
use Rattle.rules.specs.File.{width}
use Rattle.rules.specs.Holdback.{places, sound_holdback}
use Rattle.rules.specs.Op.{Op}

-- the ops but the one at place i
unfoldable pub without : List Op → ℕ → List Op
without ops i = take i ops ++ drop (suc i) ops

-- bytes over those from a place on
unfoldable pub put_at : (h : List ℕ) (at : ℕ) (op : List ℕ) → List ℕ
put_at h at op = take at h ++ (op ++ drop (at + length op) h)

-- the bytes from a place on, moved down by an op, and zero bytes
unfoldable pub close_at : (h : List ℕ) (at : ℕ) → List ℕ
close_at h at = take at h ++ (drop (at + width) h ++ replicate width 0)

-- a sound holdback, and an op's bytes
pub record Compared (h op : List ℕ) : Type 0 where
  pub is_holdback : sound_holdback width h ≡ true
  pub long : length op ≡ width

-- and a place for it
pub record Roomy (h op : List ℕ) : Type 0 where
  pub compared : Compared h op
  pub room : byte h 0 < places

-- a sound holdback, in which an op waits at place i; the place lies within it
pub record Occupied (h : List ℕ) (i : ℕ) : Type 0 where
  pub is_holdback : sound_holdback width h ≡ true
  pub inside : i < byte h 0
  pub fits : 1 + width * i + width ≤ length h
