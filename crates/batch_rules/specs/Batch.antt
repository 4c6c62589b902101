-- A batch (the document's column): up to 16 moves to one parent, which a replica issues by one call. Tests 1, 2, 3, and then for each move
-- in turn those of issuing from 9 on.
use Rattle.std.specs.Prelude.{ℕ, ◌*◌, Bool, ◌&&◌, length, drop, leb}
use mathlib.Core.List.{List, [], ◌∷◌, ◌++◌, foldl}
use Rattle.lists.specs.Lists.{concat}
use Rattle.rules.specs.Answer.{Answer, accepted, require, unless_refused, if_accepted}
use Rattle.rules.specs.Op.{Op, is_replica}
use Rattle.rules.specs.File.{file_end, log_of}
use Rattle.rules.specs.Sound.{sound}
use Rattle.rules.specs.Issue.{Issued, move, issued, issue_answer, issue_buffer}

-- "up to 16 articles"
abbrev pub most_moves : ℕ
most_moves = 16

---- "the moves are issued one after another in the list's order, each tested in the tree left by those before"

-- the buffer after one move, and after all
unfoldable pub move_buffer : ℕ → (buffer : List ℕ) (replica node parent : ℕ) → List ℕ
move_buffer w f s n p = issue_buffer w f w s (move n p)

unfoldable pub moves_buffer : ℕ → (buffer : List ℕ) (replica : ℕ) (nodes : List ℕ) (parent : ℕ) → List ℕ
moves_buffer w f s ns p = foldl (λ g n. move_buffer w g s n p) f ns

-- the first refusal, or the file end
unfoldable pub moves_answer : ℕ → (buffer : List ℕ) (replica : ℕ) (nodes : List ℕ) (parent : ℕ) → Answer
moves_answer w f s [] p = accepted (file_end w f)
moves_answer w f s (n ∷ ns) p = unless_refused (issue_answer w f w s (move n p)) (moves_answer w (move_buffer w f s n p) s ns p)

-- the ops, where all are accepted
unfoldable pub moves_ops : ℕ → (buffer : List ℕ) (replica : ℕ) (nodes : List ℕ) (parent : ℕ) → List Op
moves_ops w f s [] p = []
moves_ops w f s (n ∷ ns) p = issued (log_of w f) s (move n p) ∷ moves_ops w (move_buffer w f s n p) s ns p

---- the call; room is the length of what is lent for the ops

-- number 2: neither "more than 16", nor "fewer than 14 bytes of output per move"
unfoldable pub batch_fits : ℕ → (moves room : ℕ) → Bool
batch_fits w n room = leb n most_moves && leb (w * n) room

-- "after tests 1, 2 and 3 an empty list is accepted"
unfoldable pub batch_answer : ℕ → (buffer : List ℕ) (room replica : ℕ) (nodes : List ℕ) (parent : ℕ) → Answer
batch_answer w f room s ns p =
    require (sound w f) 1
    (require (batch_fits w (length ns) room) 2
    (require (is_replica s) 3 (moves_answer w f s ns p)))

-- "if any is refused, its number is returned and no lent byte changes"
unfoldable pub batch_buffer : ℕ → (buffer : List ℕ) (room replica : ℕ) (nodes : List ℕ) (parent : ℕ) → List ℕ
batch_buffer w f room s ns p = if_accepted (batch_answer w f room s ns p) (moves_buffer w f s ns p) f

unfoldable pub batch_out : ℕ → (buffer out : List ℕ) (replica : ℕ) (nodes : List ℕ) (parent : ℕ) → List ℕ
batch_out w f out s ns p =
    if_accepted (batch_answer w f (length out) s ns p) (concat (moves_ops w f s ns p) ++ drop (w * length ns) out) out

abbrev pub issue_moves : ℕ → (buffer out : List ℕ) (replica : ℕ) (nodes : List ℕ) (parent : ℕ) → Issued
issue_moves w f out s ns p = record {
  answer = batch_answer w f (length out) s ns p;
  buffer = batch_buffer w f (length out) s ns p;
  out = batch_out w f out s ns p;
}
