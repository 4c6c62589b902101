-- A bundle made for counts that the receiver has reached opens wholly, and the receiver's log is then the union.
use mathlib.Core.Path.{◌≡◌, refl, sym, ◌∙◌}
use mathlib.Core.Logic.{inl, inr}
use mathlib.Core.Bool.{true, cond}
use mathlib.Core.List.{List}
use Prim.Native.Nat.{ℕ, ◌≤◌, max}
use native.Mathlib.Omega.{arith}
use native.Mathlib.Decide.{dec_le}
use borrow.Author.Tests.{le-leb, lt-leb}
use lib.Dec.{leb}
use lib.ListN.{length}
use lib.Seq.{take_at}
use Rattle.rules.specs.Answer.{Answer, refused, accepted, require}
use Rattle.rules.specs.Op.{Op, Vector, count_in}
use Rattle.rules.specs.File.{Log, ops_of, counts_of, end_of, file_end, log_of, within, Agree}
use Rattle.rules.specs.Sound.{sound}
use Rattle.rules.specs.Bundle.{ops_beyond, bundle_of, bundle_answer, bundle_call, turns_answer, turns_buffer, open_answer, open_buffer}
use Rattle.rules.proofs.CausalLaws.{within_le}
use Rattle.rules.proofs.DeliverLaws.{required, accepted_same}
use Rattle.rules.proofs.FileLaws.{front_of, front_reads, vector_eta, length_log_of, counts_log_of}
use Rattle.rules.proofs.IssueLaws.{counts_eight}
use Rattle.rules.proofs.ReplicaLaws.{map_replicas}
use Rattle.rules.proofs.SoundLaws.{SoundLog, sound_good, sound_laid, sound_log, sound_structural, sound_wide}
use Rattle.rules.proofs.StructureLaws.{GoodLog, count_held}
use Rattle.rules.proofs.TurnLaws.{HeldOrComing, InTurn, Onward, all_taken, no_room, in_turn}
use Rattle.rules.proofs.UnionLaws.{extends_equal, longer, longer_is, union, union_ops, union_left, union_right, union_wide, sound_union}
use Rattle.order.proofs.BeyondLaws.{beyond_causal, beyond_has, beyond_in, bundle_bodies, bundle_whole}
use Rattle.order.proofs.ClaimTheorems.{one_file}
use Rattle.convergence.specs.Opens.{joint_counts, OpenedWholly, OpensWholly, OnlyRoomLacks}

---- the union's counts

longer_max : (a b : List Op) → length (longer a b) ≡ max (length a) (length b)
longer_max a b = longer_is (λ ops. length ops ≡ max (length a) (length b)) a b (λ h. omega arith) (λ h. omega arith)

joint_counts_law : (a b : Log) → GoodLog (union a b) → counts_of (union a b) ≡ joint_counts a b
unfolding joint_counts
joint_counts_law a b g =
    sym (vector_eta (counts_of (union a b)) (counts_eight (union a b) g))
    ∙ map_replicas (count_in (counts_of (union a b))) (λ s. max (count_in (counts_of a) s) (count_in (counts_of b) s)) (λ s l h.
    rw (count_held (union a b) s, union_ops a b s l h, count_held a s, count_held b s) (longer_max (ops_of a s) (ops_of b s)))

---- a bundle opened

module _ (w : ℕ) (f : List ℕ) (v : Vector) (g : List ℕ) (sf : sound w f ≡ true) (reached : within v (counts_of (log_of w g)) ≡ true)
    (sg : sound w g ≡ true) (ag : Agree (log_of w f) (log_of w g)) where
  abbrev a : Log
  a = log_of w f

  abbrev b : Log
  b = log_of w g

  abbrev u : Log
  u = union a b

  ga : GoodLog a
  ga = sound_good w f sf

  su : SoundLog u
  su = sound_union a b ag (sound_log w f sf) (sound_log w g sg)

  abbrev end : ℕ
  end = end_of w (joint_counts a b)

  coming : HeldOrComing w a g (ops_beyond a v)
  coming s q l h lq uq = elim (dec_le q (count_in v s)) [
    | yes z ↦ inl (omega (arith, within_le v (counts_of b) reached s l h))
    | no nz ↦ inr (beyond_has a ga v s q l h lq uq (omega arith))
  ]

  turned : InTurn w u a g g (ops_beyond a v) (turns_answer w g (ops_beyond a v))
  turned =
      in_turn w u su (union_wide a b w (sound_wide w f sf) (sound_wide w g sg)) g a ga (union_left a b ag) (ops_beyond a v) g
      (record { is_sound_so = sg; inside = union_right a b ag; size = refl; past = refl }) (beyond_in a ga v) (beyond_causal a ga v) coming

  abbrev last : List ℕ
  last = turns_buffer w g (ops_beyond a v)

  -- all were taken: the log is the union
  module _ (on : Onward w u g g last) (all : (s : ℕ) → 1 ≤ s → s ≤ 8 → count_in (counts_of a) s ≤ count_in (counts_of (log_of w last)) s) where
    last_log : log_of w last ≡ u
    last_log =
        extends_equal (log_of w last) u (length_log_of w last) su.good.eight on.on_way.inside (λ s l h.
        rw (count_held u s, union_ops a b s l h) (longer_is (λ ops. length ops ≤ count_in (counts_of (log_of w last)) s) (ops_of a s)
        (ops_of b s) (λ _. omega (arith, all s l h, count_held a s)) (λ _. omega (arith, on.more.counts s l h, count_held b s))))

    last_end : file_end w last ≡ end
    unfolding file_end
    last_end = rw (← counts_log_of w last, last_log, joint_counts_law a b su.good)

    last_fits : end ≤ length g
    last_fits = omega (arith, last_end, on.on_way.size, (sound_laid w last on.on_way.is_sound_so).fits)

  open_answer_law : open_answer w g (bundle_of a v) ≡ turns_answer w g (ops_beyond a v)
  unfolding open_answer require
  open_answer_law = rw (sg, bundle_whole a ga v w (sound_wide w f sf), bundle_bodies a ga v w (sound_wide w f sf))

  -- the answer is settled by the room
  answered : open_answer w g (bundle_of a v) ≡ cond (leb end (length g)) (accepted end) (refused 8)
  answered = open_answer_law ∙ go turned
    where
      go : {x : Answer} → InTurn w u a g g (ops_beyond a v) x → x ≡ cond (leb end (length g)) (accepted end) (refused 8)
      go (all_taken on all) = rw (last_end on all, le-leb end (length g) (last_fits on all))
      go (no_room few) = rw (lt-leb end (length g) (rw (joint_counts_law a b su.good) at few))

  wholly : end ≤ length g → OpenedWholly w a b g (open_buffer w g (bundle_of a v)) (open_answer w g (bundle_of a v))
  unfolding open_buffer
  wholly enough = go turned
    where
      answer_is : open_answer w g (bundle_of a v) ≡ accepted end
      answer_is = answered ∙ rw (le-leb end (length g) enough)

      buffer_is : open_buffer w g (bundle_of a v) ≡ last
      buffer_is = rw (answer_is, bundle_bodies a ga v w (sound_wide w f sf))

      go : {x : Answer} → InTurn w u a g g (ops_beyond a v) x
          → OpenedWholly w a b g (open_buffer w g (bundle_of a v)) (open_answer w g (bundle_of a v))
      go (no_room few) = absurd (omega (arith, rw (joint_counts_law a b su.good) at few))
      go (all_taken on all) = rw buffer_is (record {
        answered = answer_is;
        counts = rw (last_log on all) (joint_counts_law a b su.good);
        from_maker = rw (last_log on all) (union_left a b ag);
        from_receiver = on.more;
        file = λ bytes. front_reads w last (sound_laid w last on.on_way.is_sound_so).fits
            (on.front (front_of w g (one_file w g bytes (sound_structural w g sg))));
        past = on.on_way.past;
      })

pub only_room_lacks : OnlyRoomLacks
only_room_lacks w f g v sf sg ag reached = answered w f v g sf reached sg ag

pub opens_wholly : OpensWholly
unfolding bundle_call bundle_answer
opens_wholly w f v out n made g reached sg ag enough =
    let (sf, fits) = required _ _ _ n made in
    let e : length (bundle_of (log_of w f) v) ≡ n = accepted_same _ n (required _ _ _ n fits).1 in
    rw (made, take_at (bundle_of (log_of w f) v) _ n e) (wholly w f v g sf reached sg ag enough)
