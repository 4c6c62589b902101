-- One number for each answer, for callers in other languages.
use Rattle.std.specs.Prelude.{ℕ, ◌+◌, ◌*◌}
use Rattle.rules.specs.Answer.{Answer, refused, had_it, waiting, done, accepted}

-- a refusal by the document's number; 128 had it, 129 done, 130 waiting, above every refusal that may come; from 256 on, 256 and the value
unfoldable pub number : Answer → ℕ
number (refused n) = n
number had_it = 128
number done = 129
number waiting = 130
number (accepted n) = 256 + n

-- with a page: that number, which is below 65536, and 65536 for each op that was taken back
unfoldable pub page_number : Answer → (taken : ℕ) → ℕ
page_number a taken = number a + 65536 * taken
