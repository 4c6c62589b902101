-- Bytes and numbers: what the rules compute with.
use Rattle.std.specs.Prelude.{ℕ, ◌+◌, ◌*◌, ◌/◌, ◌%◌, List, [], ◌∷◌, get_or}

-- byte i of a list, 0 past its end
abbrev pub byte : List ℕ → ℕ → ℕ
byte f i = get_or f i 0

-- the two-byte number at i, high byte first
unfoldable pub word_at : List ℕ → ℕ → ℕ
word_at f i = byte f i * 256 + byte f (i + 1)

-- a number as two bytes, high byte first
unfoldable pub word : ℕ → List ℕ
word n = n / 256 ∷ n % 256 ∷ []
