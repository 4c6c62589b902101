-- What a log in a buffer comes to: where its file ends, and how many ops of each replica it holds. Tests 1, 8.
use Rattle.std.specs.Prelude.{ℕ, List, ◌++◌, length, drop, leb}
use Rattle.rules.specs.Answer.{Answer, accepted, require, if_accepted}
use Rattle.rules.specs.File.{counts_of, file_end, log_of}
use Rattle.rules.specs.Path.{Written}
use Rattle.rules.specs.Sound.{sound}

unfoldable pub end_answer : ℕ → (file : List ℕ) → Answer
end_answer w f = require (sound w f) 1 (accepted (file_end w f))

-- the answer is how many counts there are; room is how many bytes are lent
unfoldable pub counts_answer : ℕ → (file : List ℕ) → (room : ℕ) → Answer
counts_answer w f room = require (sound w f) 1 (require (leb 8 room) 8 (accepted 8))

unfoldable pub counts_call : ℕ → (file out : List ℕ) → Written
counts_call w f out =
    let a = counts_answer w f (length out) in
    record { answer = a; out = if_accepted a (counts_of (log_of w f) ++ drop 8 out) out }
