-- A buffer that deliveries of some ops have brought to hold more: what its log has beyond the first comes from those ops.
use mathlib.Core.Path.{◌≡◌, refl, sym, ap, ◌∙◌}
use mathlib.Core.Logic.{◌⊎◌, inl, inr, ⊎_elim}
use mathlib.Core.Bool.{true}
use mathlib.Core.List.{List, ◌++◌}
use Prim.Native.Nat.{ℕ, ◌≤◌, ◌<◌}
use native.Mathlib.Omega.{arith}
use lib.ListN.{length, drop}
use lib.Seq.{drop-drop}
use Rattle.lists.specs.Lists.{sum}
use Rattle.rules.specs.Answer.{Answer, refused, had_it, waiting, done, accepted, if_accepted}
use Rattle.rules.specs.Op.{Op, count_in}
use Rattle.rules.specs.File.{Log, Extends, op_at, counts_of, append, file_end, file_of, log_of, appended}
use Rattle.rules.specs.Deliver.{deliver_answer, deliver_buffer}
use Rattle.rules.specs.Sound.{sound}
use Rattle.rules.proofs.AppendLaws.{extends, extends_refl, extends_then, in_range, own_next, sum_append}
use Rattle.rules.proofs.DeliverLaws.{Admitted, admitted, sound_new, appended_log, appended_sound, appended_length, appended_end, appended_past, appended_front}
use Rattle.rules.proofs.FileLaws.{InFront}
use Rattle.rules.proofs.InLaws.{OpIn, op_in, in_append}
use Rattle.rules.proofs.SoundLaws.{sound_good}
use Rattle.rules.proofs.StructureLaws.{GoodLog, good_ops}
use Rattle.rules.proofs.TurnLaws.{one_end}

module _ (P : Op → Type 0) (w : ℕ) (f : List ℕ) where
  -- nothing was added, or the file is written anew
  abbrev Fronts : List ℕ → Type 0
  Fronts g = (g ≡ f) ⊎ (InFront w g × (sum (counts_of (log_of w f)) < sum (counts_of (log_of w g))))

  pub record Grown (g : List ℕ) : Type 0 where
    pub is_sound_so : sound w g ≡ true
    pub size : length g ≡ length f
    pub more : Extends (log_of w f) (log_of w g)
    pub beyond : (s q : ℕ) → 1 ≤ s → s ≤ 8 → count_in (counts_of (log_of w f)) s < q → q ≤ count_in (counts_of (log_of w g)) s
        → P (op_at (log_of w g) s q)
    pub past : drop (file_end w g) g ≡ drop (file_end w g) f
    pub front : Fronts g

  pub grown_first : sound w f ≡ true → Grown f
  grown_first s = record {
    is_sound_so = s;
    size = refl;
    more = extends_refl (log_of w f);
    beyond = λ s q l u lq uq. absurd (omega arith);
    past = refl;
    front = inl refl;
  }

  -- one op more
  module _ (g : List ℕ) (r : Op) (n : ℕ) (pr : P r) (h : Admitted w g r n) (x : Grown g) where
    abbrev old : Log
    old = log_of w g

    good : GoodLog old
    good = sound_good w g x.is_sound_so

    at_least : sum (counts_of (log_of w f)) ≤ sum (counts_of old)
    at_least = ⊎_elim
        (λ (e : g ≡ f).
        let same : sum (counts_of (log_of w g)) ≡ sum (counts_of (log_of w f)) = ap (λ (t : List ℕ). sum (counts_of (log_of w t))) e in
        omega arith)
        (λ y. omega (arith, y.1))
        x.front

    later : (s q : ℕ) → 1 ≤ s → s ≤ 8 → count_in (counts_of (log_of w f)) s < q → q ≤ count_in (counts_of (append old r)) s
        → P (op_at (append old r) s q)
    later s q l u lq uq =
        let gm = (sound_new w g r n h).good in
        let y = good_ops gm s q l u (omega arith) uq in
        let i = in_range old r good h.admits in
        ⊎_elim
        (λ (o : OpIn old (op_at (append old r) s q)).
        let there = rw (y.origin, y.number) at o.there in
        let here = rw (y.origin, y.number) at o.here in
        rw there at (x.beyond s q l u lq here))
        (λ (e : op_at (append old r) s q ≡ r). rw e pr)
        (in_append old r good.eight i.0 i.1 (own_next old r good h.admits) (op_at (append old r) s q)
        (op_in (append old r) (good_ops gm) s q l u (omega arith) uq))

    grown_by : Grown (appended w g r)
    grown_by =
        let i = in_range old r good h.admits in
        record {
          is_sound_so = appended_sound w g r n h;
          size = appended_length w g r n h ∙ x.size;
          more = rw (appended_log w g r n h) (extends_then (log_of w f) old (append old r) x.more (extends old r good h.admits));
          beyond = rw (appended_log w g r n h) later;
          past = rw (appended_end w g r n h)
              (appended_past w g r n h ∙ sym (drop-drop w (file_end w g) g) ∙ ap (drop w) x.past ∙ drop-drop w (file_end w g) f);
          front = inr (
            appended_front w g r n h,
            rw (appended_log w g r n h) (omega (arith, sum_append old r good.eight i.0 i.1, at_least)),
          );
        }

  pub grown_deliver : (g : List ℕ) (r : Op) → P r → Grown g → Grown (deliver_buffer w g r)
  unfolding deliver_buffer
  grown_deliver g r pr x = go (deliver_answer w g r) refl
    where
      go : (a : Answer) → deliver_answer w g r ≡ a → Grown (if_accepted a (appended w g r) g)
      go (refused n) e = x
      go had_it e = x
      go waiting e = x
      go done e = x
      go (accepted n) e = grown_by g r n pr (admitted w g r n e) x

  -- two that hold one log are the same bytes
  pub same_bytes : (a b : List ℕ) → Grown a → Grown b → log_of w a ≡ log_of w b → a ≡ b
  same_bytes a b x y e = go x.front y.front
    where
      totals : sum (counts_of (log_of w a)) ≡ sum (counts_of (log_of w b))
      totals = ap (λ (log : Log). sum (counts_of log)) e

      ends : file_end w a ≡ file_end w b
      ends = one_end w a b e

      go : Fronts a → Fronts b → a ≡ b
      go (inl p) (inl q) = p ∙ sym q
      go (inl p) (inr q) = let t : sum (counts_of (log_of w f)) ≡ sum (counts_of (log_of w a)) = rw p in absurd (omega (arith, totals, q.1))
      go (inr p) (inl q) = let t : sum (counts_of (log_of w f)) ≡ sum (counts_of (log_of w b)) = rw q in absurd (omega (arith, totals, p.1))
      go (inr p) (inr q) =
          p.0 ∙ ap (λ (t : List ℕ). file_of w (log_of w a) ++ t) (x.past ∙ rw ends (sym y.past))
          ∙ ap (λ (log : Log). file_of w log ++ drop (file_end w b) b) e ∙ sym q.0
