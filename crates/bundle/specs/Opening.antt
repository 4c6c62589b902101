-- What the functions that open a bundle ask and answer.
use Rattle.std.specs.Prelude.{ℕ, ◌≤◌, cond, true, List, ◌⊎◌, ◌≡◌, leb, length, take}
use Rattle.rules.specs.Answer.{Answer, accepted, unless_refused}
use Rattle.rules.specs.Bundle.{bodies_in, turns_answer, turns_buffer, whole_bundle}
use Rattle.rules.specs.Deliver.{Result, deliver_answer, deliver_buffer}
use Rattle.rules.specs.File.{file_end, largest, width}
use Rattle.rules.specs.Op.{Op}
use Rattle.rules.specs.Sound.{sound}
use Rattle.codec.specs.Asked.{is_accepted}

-- one body: it is refused, or the answer is the file end afterwards
unfoldable pub body_answer : List ℕ → Op → Answer
body_answer f r = unless_refused (deliver_answer width f r) (accepted (file_end width (deliver_buffer width f r)))

abbrev pub take_body : List ℕ → Op → Result
take_body f r = record { answer = body_answer f r; buffer = deliver_buffer width f r }

-- the bodies delivered in turn to f: the answer, and the buffer g if it is accepted
pub record Tried (f : List ℕ) (ops : List Op) (a : Answer) (g : List ℕ) : Type 0 where
  pub answered : a ≡ turns_answer width f ops
  pub left : is_accepted a ≡ true → g ≡ turns_buffer width f ops

-- the tests 1 and 12 passed
pub record Openable (f bundle : List ℕ) : Type 0 where
  pub is_sound_so : sound width f ≡ true
  pub is_whole : whole_bundle width bundle ≡ true

---- the copy: as much of a buffer as the largest file can take

unfoldable pub reach_of : (len : ℕ) → ℕ
reach_of len = cond (leb len (largest width)) len (largest width)

-- the first n bytes of a buffer with a sound log reach as far
pub record Reaches (w n : ℕ) (f : List ℕ) : Type 0 where
  pub is_sound_so : sound w f ≡ true
  pub inside : file_end w f ≤ n
  pub short : n ≤ length f
  pub enough : (n ≡ length f) ⊎ (largest w ≤ n)

pub record Trial (f bundle copy : List ℕ) : Type 0 where
  pub openable : Openable f bundle
  pub reaches : Reaches width (length copy) f

-- the bodies were tried there, with this answer
pub record Ended (f bundle copy : List ℕ) (a : Answer) : Type 0 where
  pub trial : Trial f bundle copy
  pub tried : Tried (take (length copy) f) (bodies_in width bundle) a copy
