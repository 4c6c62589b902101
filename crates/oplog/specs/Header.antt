-- The entries of the header as the code tests and writes them.
use Rattle.std.specs.Prelude.{ℕ, ◌+◌, ◌*◌, Bool, ◌&&◌, List, ◌++◌, leb, eqb, take, drop}
use Rattle.rules.specs.Bytes.{word}
use Rattle.rules.specs.File.{count_at, start_at}

-- the entry of replica s: "counts are at most 255, starts are right", where the right start is given
unfoldable pub entry_right : List ℕ → ℕ → ℕ → Bool
entry_right f s start = leb (count_at f s) 255 && eqb (start_at f s) start

-- bytes with entry i, from 0, written over them
unfoldable pub with_entry : List ℕ → ℕ → ℕ → ℕ → List ℕ
with_entry b i count start = take (4 * i) b ++ ((word count ++ word start) ++ drop (4 * i + 4) b)
