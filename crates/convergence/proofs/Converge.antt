-- Two logs that meet come to the same file: demand 3.
use mathlib.Core.Path.{◌≡◌, refl, sym, ap, ◌∙◌}
use mathlib.Core.Logic.{◌⊎◌, inl, inr, ⊎_elim}
use mathlib.Core.Bool.{Bool, true, false, cond, ◌&&◌, ◌||◌, not, or-true}
use mathlib.Core.List.{List, []}
use Prim.Native.Nat.{ℕ, ◌+◌, ◌-◌, ◌≤◌}
use native.Mathlib.Nat.{le_refl}
use native.Mathlib.Omega.{arith}
use native.Mathlib.Decide.{dec_le}
use lib.ListN.{length, get_or}
use borrow.Author.Tests.{le-leb}
use Rattle.lists.specs.Lists.{concat}
use Rattle.rules.specs.Op.{Op, count_in, replica_of, seq_of}
use Rattle.rules.specs.File.{Log, ops_of, op_at, counts_of, width, log_of, Extends, Agree, largest}
use Rattle.rules.specs.Replay.{parents_of}
use Rattle.rules.specs.Views.{nodes}
use Rattle.convergence.specs.Exchange.{Site, run, has, times, Agreed, arrange, filed, Side, left, right, other, Pair, missing, everything, Round, after, Answered, answers, accepted_by, ValidRound, EachRound}
use Rattle.convergence.specs.Converges.{Settled, Meets, meeting, Converges, judged}
use Rattle.rules.specs.TreeClaim.{IsTree}
use Rattle.rules.specs.Judge.{judge, judge_answer}
use Rattle.rules.specs.Answer.{require}
use Rattle.rules.specs.Sound.{sound}
use Rattle.rules.specs.Tree.{slots}
use Rattle.rules.proofs.StructureLaws.{count_held, GoodLog, good_ops}
use Rattle.lists.proofs.BoolLaws.{both_ways, or_cases}
use Rattle.rules.proofs.FileLaws.{WideLog}
use Rattle.order.proofs.LevelLaws.{whole_cut}
use Rattle.order.proofs.TreeTheorem.{is_tree}
use Rattle.convergence.proofs.HasLaws.{has_append, has_old, times_append, times_once, none_only_in}
use Rattle.rules.proofs.UnionLaws.{extends_equal, longer, longer_is, union, union_ops, union_left, union_right, union_wide, sound_union}
use Rattle.rules.proofs.InLaws.{OpIn, in_more, op_in}
use Rattle.convergence.proofs.TrackLaws.{Tracks, tracks_listed, arrange_log}
use Rattle.convergence.proofs.KeptLaws.{log_in, Kept, kept_good, kept_ops, kept_end, kept_run, kept_standing, kept_wide, kept_sound}
use Rattle.convergence.proofs.ListTheorems.{kept_stored}
use Rattle.convergence.proofs.SideLaws.{both, missing_from}
use Rattle.convergence.proofs.RoundLaws.{Stands, Passes, pass_rounds, rounds_accept, rounds_end}
use Rattle.lists.proofs.ListLaws.{no_length}
use Rattle.rules.proofs.SoundLaws.{SoundLog}

gain : (a b : Bool) (n : ℕ) → cond (a || b) 1 0 ≡ cond a 1 0 + n → n ≡ cond (b && not a) 1 0
gain true true n e = omega arith
gain true false n e = omega arith
gain false true n e = omega arith
gain false false n e = omega arith

in_union : (a b : Log) (r : Op) → OpIn (union a b) r → OpIn a r ⊎ OpIn b r
unfolding op_at
in_union a b r h =
    let s : ℕ = replica_of r in
    let n : seq_of r ≤ length (longer (ops_of a s) (ops_of b s)) = rw (count_held (union a b) s, union_ops a b s h.low h.high) at
    h.here in
    let e : get_or (longer (ops_of a s) (ops_of b s)) (seq_of r - 1) [] ≡ r = rw (union_ops a b s h.low h.high) at h.there in
    longer_is (λ ops. seq_of r ≤ length ops → get_or ops (seq_of r - 1) [] ≡ r → OpIn a r ⊎ OpIn b r) (ops_of a s) (ops_of b s)
    (λ _ l t. inl (record { low = h.low; high = h.high; here = rw (count_held a s) l; there = t }))
    (λ _ l t. inr (record { low = h.low; high = h.high; here = rw (count_held b s) l; there = t })) n e

-- held lists that agree have logs that agree
agree_logs : (x y : Site) → Kept x → Kept y → Agreed x.held y.held → Agree (log_in x) (log_in y)
agree_logs x y k m ag s q l u lq a b =
    let i = kept_ops x k s q l u lq a in
    let j = kept_ops y m s q l u lq b in
    sym (ag (op_at (log_in x) s q) (op_at (log_in y) s q) (k.tracks.outside _ (op_in (log_in x) (kept_ops x k) s q l u lq a))
    (m.tracks.outside _ (op_in (log_in y) (kept_ops y m) s q l u lq b)) (i.origin ∙ sym j.origin) (i.number ∙ sym j.number))

-- judging a sound buffer fills the tables by its log
judged_is : (f : List ℕ) (log : Log) (pt ot : List ℕ) → sound width f ≡ true → log_of width f ≡ log → slots ≤ length pt → slots ≤ length ot
    → judge width f pt ot ≡ judged log pt ot
unfolding judge judge_answer judged require
judged_is f log pt ot s e lp lo = rw (s, le-leb slots (length pt) lp, le-leb slots (length ot) lo, e)

module _ (p : Pair) (k : (d : Side) → Kept (p d)) (big : (d : Side) → largest width ≤ length (p d).buffer)
    (ag : Agreed (p left).held (p right).held) where
  abbrev pub u : Log
  u = union (log_in (p left)) (log_in (p right))

  agree : Agree (log_in (p left)) (log_in (p right))
  agree = agree_logs (p left) (p right) (k left) (k right) ag

  pub wu : WideLog width u
  wu = union_wide (log_in (p left)) (log_in (p right)) width (kept_wide (p left) (k left)) (kept_wide (p right) (k right))

  pub su : SoundLog u
  su = sound_union (log_in (p left)) (log_in (p right)) agree (kept_sound (p left) (k left)) (kept_sound (p right) (k right))

  gu : GoodLog u
  gu = su.good

  extends : (d : Side) → Extends (log_in (p d)) u
  unfolding other
  extends = both left (λ d. Extends (log_in (p d)) u) (union_left _ _ agree) (union_right _ _ agree)

  pub stands : (d : Side) → Stands u (p d).buffer (p d)
  stands d = record {
    kept = k d;
    way = record { is_sound_so = (k d).is_sound_so; inside = extends d; size = refl; past = refl };
  }

  either : (d : Side) (r : Op) → OpIn (log_in (p left)) r ⊎ OpIn (log_in (p right)) r
      → (has (p d).held r || has (p (other d)).held r) ≡ true
  unfolding other
  either left r (inl h) = rw ((k left).tracks.outside r h)
  either left r (inr h) = rw ((k right).tracks.outside r h, or-true)
  either right r (inl h) = rw ((k left).tracks.outside r h, or-true)
  either right r (inr h) = rw ((k right).tracks.outside r h)

  -- what either held is the union
  tracks_all : Tracks u (everything p)
  unfolding everything
  tracks_all = record {
    inside = λ r e. ⊎_elim (λ (h : has (p left).held r ≡ true). in_more _ u (extends left) r ((k left).tracks.inside r h))
        (λ (h : has (p right).held r ≡ true). in_more _ u (extends right) r ((k right).tracks.inside r h))
        (or_cases (has (p left).held r) (has (p right).held r) (sym (has_append (p left).held (p right).held r) ∙ e));
    outside = λ r i. rw (has_append (p left).held (p right).held r)
        (⊎_elim (λ (h : OpIn (log_in (p left)) r). rw ((k left).tracks.outside r h))
        (λ (h : OpIn (log_in (p right)) r). rw ((k right).tracks.outside r h, or-true)) (in_union _ _ r i));
  }

  arrange_all : arrange (everything p) ≡ u
  arrange_all = arrange_log u (everything p) tracks_all (good_ops gu) gu.eight gu.counts

  module _ (q : Pair) (xs : List Answered) (pass : Passes u (λ d. (p d).buffer) p q xs) (done : missing q ≡ []) where
    -- what one side has at the end, the other has too; so each has what either had before
    shared : (d : Side) (r : Op) → has (q (other d)).held r ≡ true → has (q d).held r ≡ true
    shared d r =
        none_only_in (q (other d)).held (q d).held
        (no_length _ (let e = missing_from q d in let z : length (missing q) ≡ 0 = ap length done in omega arith)) r

    has_own : (d : Side) (r : Op) → has (p d).held r ≡ true → has (q d).held r ≡ true
    has_own d r e = rw (pass.gained d) (has_old (p d).held _ r e)

    from_either : (d e : Side) (r : Op) → has (p e).held r ≡ true → has (q d).held r ≡ true
    from_either d e r = both d (λ e. has (p e).held r ≡ true → has (q d).held r ≡ true) (has_own d r)
        (λ h. shared d r (has_own (other d) r h)) e

    has_all : (d : Side) (r : Op) → OpIn u r → has (q d).held r ≡ true
    has_all d r i =
        ⊎_elim (λ (h : OpIn (log_in (p left)) r). from_either d left r ((k left).tracks.outside r h))
        (λ (h : OpIn (log_in (p right)) r). from_either d right r ((k right).tracks.outside r h)) (in_union _ _ r i)

    log_end : (d : Side) → log_in (q d) ≡ u
    log_end d =
        let s = pass.stands d in
        extends_equal (log_in (q d)) u (kept_good (q d) s.kept).eight gu.eight s.way.inside (λ t l h.
        elim (dec_le 1 (count_in (counts_of u) t)) [
          | yes m ↦
              let x = good_ops gu t (count_in (counts_of u) t) l h m (le_refl _) in
              let r : Op = op_at u t (count_in (counts_of u) t) in
              let i = s.kept.tracks.inside r (has_all d r (op_in u (good_ops gu) t (count_in (counts_of u) t) l h m (le_refl _))) in
              rw (x.origin, x.number) at i.here
          | no nm ↦ omega arith
        ])

    has_end : (d : Side) (r : Op) → has (q d).held r ≡ (has (p d).held r || has (p (other d)).held r)
    has_end d r =
        let s = pass.stands d in
        both_ways (has (q d).held r) (has (p d).held r || has (p (other d)).held r)
        (λ e. either d r (in_union _ _ r (in_more (log_in (q d)) u s.way.inside r (s.kept.tracks.inside r e))))
        (λ e. ⊎_elim (from_either d d r) (from_either d (other d) r) (or_cases (has (p d).held r) (has (p (other d)).held r) e))

    counted : (d : Side) (r : Op) → cond (has (p d).held r || has (p (other d)).held r) 1 0 ≡ cond (has (p d).held r) 1 0 + times
        (accepted_by d xs) r
    counted d r =
        let a : times (q d).held r ≡ cond (has (q d).held r) 1 0 = times_once (q d).held r ((pass.stands d).kept.once r) in
        let b : times (p d).held r ≡ cond (has (p d).held r) 1 0 = times_once (p d).held r ((k d).once r) in
        let c : times (q d).held r ≡ times (p d).held r + times (accepted_by d xs) r = ap (λ l. times l r) (pass.gained d)
        ∙ times_append (p d).held (accepted_by d xs) r in
        rw (← has_end d r, ← a, ← b) c

    settle : IsTree (nodes (arrange (everything p))) (parents_of (arrange (everything p))) → Settled p q xs
    unfolding filed
    settle tree = record {
      once = λ d r. gain (has (p d).held r) (has (p (other d)).held r) _ (counted d r);
      files = λ d. let s = pass.stands d in rw (arrange_all, ← log_end d, kept_end (q d) s.kept, ← s.way.past) s.kept.front;
      judging = λ d pt ot lp lo. judged_is (q d).buffer (arrange (everything p)) pt ot (pass.stands d).kept.is_sound_so
          (log_end d ∙ sym arrange_all) lp lo;
      tree = tree;
    }

  pub meets : IsTree (nodes (arrange (everything p))) (parents_of (arrange (everything p))) → (rounds : List Round)
      → EachRound ValidRound p rounds → Meets p rounds
  meets tree rounds v =
      let base : Side → List ℕ = λ d. (p d).buffer in
      let pass = pass_rounds u su wu base big rounds p stands v in
      record {
        stored = λ d. kept_stored (p d) (k d);
        every = λ r. rw arrange_all (tracks_listed u (good_ops gu) gu.eight r (everything p) tracks_all);
        answered = pass.answered;
        progress = rounds_accept u su wu base big rounds p stands v;
        ends = λ h. no_length _ (rounds_end u su wu base big rounds p stands v h);
        settled = λ e. settle (after p (concat rounds)) (answers p (concat rounds)) pass e tree;
      }

-- the tree of a good log
tree_of : (log : Log) → GoodLog log → IsTree (nodes log) (parents_of log)
unfolding nodes parents_of
tree_of log g = is_tree log g (counts_of log) (whole_cut log g)

-- demand 3
pub converges : Converges
unfolding meeting
converges start calls rest rounds long big ag v =
    let p : Pair = meeting start calls rest in
    let k : (d : Side) → Kept (p d) = λ d. kept_standing (run (start d) (calls d)) (rest d) (kept_run (start d) (calls d) (long d)) in
    meets p k big ag (rw (arrange_all p k big ag) (tree_of (u p k big ag) (gu p k big ag))) rounds v
