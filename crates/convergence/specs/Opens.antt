-- "A parcel for a visiting seat": what opening a bundle comes to.
use Rattle.std.specs.Prelude.{ℕ, ◌≤◌, ◌<◌, max, true, cond, List, ◌∷◌, ◌++◌, map, ◌≡◌, leb, length, take, drop}
use Rattle.lists.specs.Lists.{all}
use Rattle.rules.specs.Answer.{Answer, refused, accepted}
use Rattle.rules.specs.Bytes.{byte}
use Rattle.rules.specs.Op.{Op, Vector, replicas, count_in}
use Rattle.rules.specs.File.{Log, counts_of, end_of, file_end, log_of, file_of, width, within, Extends, Agree}
use Rattle.rules.specs.Sound.{sound}
use Rattle.rules.specs.Bundle.{bodies_in, bundle_of, bundle_call, whole_bundle, open_answer, open_buffer}
use Rattle.convergence.specs.Exchange.{Site, deliver, open_bundle, answer, perform}
use Rattle.convergence.specs.Handover.{deliver_all, deliver_answers, taken_or_had}

---- "opening a parcel delivers its bodies in turn"

-- the first body that is refused, with the number n: those before it were accepted or held already
pub record FirstRefused (x : Site) (bodies : List Op) (n : ℕ) : Type 0 where
  pub before : List Op
  pub body : Op
  pub after : List Op
  pub split : bodies ≡ before ++ (body ∷ after)
  pub passed : all taken_or_had (deliver_answers x before) ≡ true
  pub number : answer (deliver_all x before).buffer (deliver body) ≡ refused n

pub record OpenedInTurn (x : Site) (b : List ℕ) (a : Answer) : Type 0 where
  -- accepted: each body was accepted, or held already and passed by; buffer and held ops are as delivering the bodies in turn leaves
  -- them; and the answer is the new file end
  pub passed : (n : ℕ) → a ≡ accepted n → all taken_or_had (deliver_answers x (bodies_in width b)) ≡ true
  pub leaves : (n : ℕ) → a ≡ accepted n → perform x (open_bundle b) ≡ deliver_all x (bodies_in width b)
  pub ends : (n : ℕ) → a ≡ accepted n → file_end width (perform x (open_bundle b)).buffer ≡ n
  -- "if one is refused the whole collection stays as before, with that number returned"; 1 and 12 come before any body
  pub stays : (n : ℕ) → a ≡ refused n → perform x (open_bundle b) ≡ x
  pub returned : (n : ℕ) → a ≡ refused n → sound width x.buffer ≡ true → whole_bundle width b ≡ true
      → FirstRefused x (bodies_in width b) n

abbrev pub OpeningDelivers : Type 0
OpeningDelivers = (x : Site) (b : List ℕ) → OpenedInTurn x b (answer x.buffer (open_bundle b))

---- "a parcel made for counts that the receiver has reached or passed opens wholly"

-- of each replica as many ops as the log has that has more
unfoldable pub joint_counts : Log → Log → Vector
joint_counts a b = map (λ s. max (count_in (counts_of a) s) (count_in (counts_of b) s)) replicas

-- what opening leaves of the receiver's buffer g: the file of the ops of both logs, and past it what was there
pub record OpenedWholly (w : ℕ) (maker receiver : Log) (g after : List ℕ) (a : Answer) : Type 0 where
  pub answered : a ≡ accepted (end_of w (joint_counts maker receiver))
  pub counts : counts_of (log_of w after) ≡ joint_counts maker receiver
  pub from_maker : Extends maker (log_of w after)
  pub from_receiver : Extends receiver (log_of w after)
  pub file : ((i : ℕ) → byte g i < 256) → take (file_end w after) after ≡ file_of w (log_of w after)
  pub past : drop (file_end w after) after ≡ drop (file_end w after) g

abbrev pub OpensWholly : Type 0
OpensWholly =
    -- "a parcel made for counts": v, at the maker's file f, in the lent bytes out
    (w : ℕ) (f : List ℕ) (v : Vector) (out : List ℕ) (n : ℕ) → (bundle_call w f v out).answer ≡ accepted n
    -- "that the receiver has reached or passed"
    → (g : List ℕ) → within v (counts_of (log_of w g)) ≡ true
    -- "if both collections are sound and agree on the records they share"; the maker's is, where making was accepted
    → sound w g ≡ true → Agree (log_of w f) (log_of w g)
    -- "and the buffer suffices"
    → end_of w (joint_counts (log_of w f) (log_of w g)) ≤ length g
    → let b = take n (bundle_call w f v out).out in
    OpenedWholly w (log_of w f) (log_of w g) g (open_buffer w g b) (open_answer w g b)

-- "the bodies follow in judging order", in which none is early: where the buffer does not suffice, the first body without room is answered
-- 8, and none before it is refused
abbrev pub OnlyRoomLacks : Type 0
OnlyRoomLacks =
    (w : ℕ) (f g : List ℕ) (v : Vector) → sound w f ≡ true → sound w g ≡ true
    → Agree (log_of w f) (log_of w g) → within v (counts_of (log_of w g)) ≡ true
    → let end = end_of w (joint_counts (log_of w f) (log_of w g)) in
    open_answer w g (bundle_of (log_of w f) v) ≡ cond (leb end (length g)) (accepted end) (refused 8)
