-- Ops delivered in turn: what settles the answers, and what comes of ops that are delivered in causal order.
use mathlib.Core.Path.{◌≡◌, refl, sym, ap, ◌∙◌}
use mathlib.Core.Logic.{◌⊎◌, inl, inr, ⊎_elim}
use mathlib.Core.Bool.{true}
use mathlib.Core.List.{List, [], ◌∷◌}
use Prim.Native.Nat.{ℕ, ◌≤◌, ◌<◌}
use native.Mathlib.Nat.{le_refl}
use native.Mathlib.Decide.{dec_le}
use native.Mathlib.Omega.{arith}
use borrow.Author.Tests.{le-leb}
use lib.ListN.{length}
use Rattle.lists.specs.Lists.{same, any}
use Rattle.lists.proofs.BoolLaws.{never, or_cases}
use Rattle.lists.proofs.EachLaws.{Each}
use Rattle.lists.proofs.ListLaws.{same_eq}
use Rattle.rules.specs.Answer.{Answer, refused, had_it, waiting, done, accepted, if_accepted, unless_refused}
use Rattle.rules.specs.Bundle.{turns_answer, turns_buffer, turns_taken}
use Rattle.rules.specs.Deliver.{deliver_answer, deliver_buffer, admit_answer, is_held}
use Rattle.rules.specs.File.{Log, op_at, counts_of, end_of, file_end, log_of, append, appended, within, Extends}
use Rattle.rules.specs.Issue.{Request, issue_answer}
use Rattle.rules.specs.Log.{covered}
use Rattle.rules.specs.Op.{Op, count_in, replica_of, vector_of, seq_of}
use Rattle.rules.specs.Sound.{sound}
use Rattle.rules.proofs.AppendLaws.{append_extends, extends_refl, extends_then, in_range, own_next, seq_positive}
use Rattle.rules.proofs.DeliverLaws.{accepted_same, admitted, appended_front, appended_log, deliver_length, deliver_sound}
use Rattle.rules.proofs.FileLaws.{InFront, WideLog, length_log_of, counts_log_of}
use Rattle.rules.proofs.InLaws.{OpIn, in_more, new_in}
use Rattle.rules.proofs.OfferLaws.{Offered, taken, had, early, short}
use Rattle.rules.proofs.ReplicaLaws.{all_replicas}
use Rattle.rules.proofs.SoundLaws.{SoundLog, sound_good}
use Rattle.rules.proofs.StructureLaws.{GoodLog, good_ops, held_in}
use Rattle.rules.proofs.WayLaws.{OnWay, way_answer, way_grown, way_held, way_room}

---- the log and the buffer's length settle the answers

-- two sound buffers of one length that hold one log
pub record OneLog (w : ℕ) (f g : List ℕ) : Type 0 where
  pub first : sound w f ≡ true
  pub second : sound w g ≡ true
  pub log : log_of w f ≡ log_of w g
  pub size : length f ≡ length g

module _ (w : ℕ) where
  pub one_end : (f g : List ℕ) → log_of w f ≡ log_of w g → file_end w f ≡ file_end w g
  unfolding file_end
  one_end f g e = rw (← counts_log_of w f, ← counts_log_of w g, e)

  module _ (f g : List ℕ) (x : OneLog w f g) (r : Op) where
    pub deliver_alike : deliver_answer w f r ≡ deliver_answer w g r
    unfolding deliver_answer admit_answer
    deliver_alike = rw (x.first, x.second, one_end f g x.log, x.log, x.size)

    delivered_log : log_of w (deliver_buffer w f r) ≡ log_of w (deliver_buffer w g r)
    unfolding deliver_buffer
    delivered_log = rw (← deliver_alike) (go (deliver_answer w f r) refl)
      where
        go : (a : Answer) → deliver_answer w f r ≡ a
            → log_of w (if_accepted a (appended w f r) f) ≡ log_of w (if_accepted a (appended w g r) g)
        go (refused n) e = x.log
        go had_it e = x.log
        go waiting e = x.log
        go done e = x.log
        go (accepted n) e =
            appended_log w f r n (admitted w f r n e) ∙ ap (λ t. append t r) x.log
            ∙ sym (appended_log w g r n (admitted w g r n (sym deliver_alike ∙ e)))

    pub delivered_alike : OneLog w (deliver_buffer w f r) (deliver_buffer w g r)
    delivered_alike = record {
      first = deliver_sound w f r x.first;
      second = deliver_sound w g r x.second;
      log = delivered_log;
      size = deliver_length w f r ∙ x.size ∙ sym (deliver_length w g r);
    }

  pub issue_alike : (f g : List ℕ) → OneLog w f g → (room s : ℕ) (q : Request) → issue_answer w f room s q ≡ issue_answer w g room s q
  unfolding issue_answer
  issue_alike f g x room s q = rw (x.first, x.second, one_end f g x.log, x.log, x.size)

  pub turns_alike : (rs : List Op) (f g : List ℕ) → OneLog w f g
      → (turns_answer w f rs ≡ turns_answer w g rs) × (turns_taken w f rs ≡ turns_taken w g rs)
  unfolding turns_answer turns_taken
  turns_alike [] f g x = (ap accepted (one_end f g x.log), refl)
  turns_alike (r ∷ rs) f g x =
      let rest = turns_alike rs (deliver_buffer w f r) (deliver_buffer w g r) (delivered_alike f g x r) in
      (rw (deliver_alike f g x r, rest.0), rw (deliver_alike f g x r, rest.1))

goes_on : (a next : Answer) (n : ℕ) → unless_refused a next ≡ accepted n → next ≡ accepted n
unfolding unless_refused
goes_on (refused m) next n e = cc
goes_on had_it next n e = cc
goes_on waiting next n e = cc
goes_on done next n e = cc
goes_on (accepted m) next n e = cc

-- the buffer stays sound and as long as it was
pub turns_sound : (w : ℕ) (rs : List Op) (f : List ℕ) → sound w f ≡ true → sound w (turns_buffer w f rs) ≡ true
unfolding turns_buffer
turns_sound w [] f s = s
turns_sound w (r ∷ rs) f s = turns_sound w rs (deliver_buffer w f r) (deliver_sound w f r s)

pub turns_length : (w : ℕ) (rs : List Op) (f : List ℕ) → length (turns_buffer w f rs) ≡ length f
unfolding turns_buffer
turns_length w [] f = refl
turns_length w (r ∷ rs) f = turns_length w rs (deliver_buffer w f r) ∙ deliver_length w f r

-- the answer is the file end
pub turns_end : (w : ℕ) (rs : List Op) (f : List ℕ) (n : ℕ) → turns_answer w f rs ≡ accepted n → file_end w (turns_buffer w f rs) ≡ n
unfolding turns_answer turns_buffer
turns_end w [] f n e = accepted_same _ n e
turns_end w (r ∷ rs) f n e = turns_end w rs (deliver_buffer w f r) n (goes_on (deliver_answer w f r) _ n e)

---- in causal order

-- nothing that an op's vector counts in the log a stands with it or after it
abbrev pub CausalOrder : Log → List Op → Type 0
CausalOrder a [] = Unit {0}
CausalOrder a (r ∷ ops) =
    ((s q : ℕ) → 1 ≤ s → s ≤ 8 → 1 ≤ q → q ≤ count_in (vector_of r) s → any (same (op_at a s q)) (r ∷ ops) ≡ true → ⊥) × CausalOrder a ops

-- what a has, the buffer has, or is among the ops
abbrev pub HeldOrComing : ℕ → Log → List ℕ → List Op → Type 0
HeldOrComing w a g ops =
    (s q : ℕ) → 1 ≤ s → s ≤ 8 → 1 ≤ q → q ≤ count_in (counts_of a) s
    → (q ≤ count_in (counts_of (log_of w g)) s) ⊎ (any (same (op_at a s q)) ops ≡ true)

-- from g to last, by deliveries that were accepted or answered "had it"
pub record Onward (w : ℕ) (u : Log) (base g last : List ℕ) : Type 0 where
  pub on_way : OnWay w u base last
  pub more : Extends (log_of w g) (log_of w last)
  pub front : InFront w g → InFront w last

-- the answer to ops of a that are delivered to g in turn: all are taken, or there is no room for the whole of u
pub data InTurn (w : ℕ) (u a : Log) (base g : List ℕ) (ops : List Op) : Answer → Type 0 where
  all_taken : Onward w u base g (turns_buffer w g ops)
      → ((s : ℕ) → 1 ≤ s → s ≤ 8 → count_in (counts_of a) s ≤ count_in (counts_of (log_of w (turns_buffer w g ops))) s)
      → InTurn w u a base g ops (accepted (file_end w (turns_buffer w g ops)))
  no_room : length base < end_of w (counts_of u) → InTurn w u a base g ops (refused 8)

onward_none : (w : ℕ) (u : Log) (base g : List ℕ) → OnWay w u base g → Onward w u base g g
onward_none w u base g k = record { on_way = k; more = extends_refl (log_of w g); front = λ e. e }

onward_then : {w : ℕ} {u : Log} {base f g h : List ℕ} → Onward w u base f g → Onward w u base g h → Onward w u base f h
onward_then a b = record { on_way = b.on_way; more = extends_then _ _ _ a.more b.more; front = λ e. b.front (a.front e) }

-- from g to next by a delivery of r, which is held then
record Turned (w : ℕ) (u : Log) (base g next : List ℕ) (r : Op) : Type 0 where
  onward : Onward w u base g next
  here : OpIn (log_of w next) r

-- u holds all of a
module _ (w : ℕ) (u : Log) (su : SoundLog u) (wu : WideLog w u) (base : List ℕ) (a : Log) (ga : GoodLog a) (au : Extends a u) where
  -- one op of a, and the ops after it
  module _ (g : List ℕ) (k : OnWay w u base g) (r : Op) (ops : List Op) (i : OpIn a r) (c : HeldOrComing w a g (r ∷ ops)) where
    in_u : OpIn u r
    in_u = in_more a u au r i

    not_early : CausalOrder a (r ∷ ops) → covered (log_of w g) (vector_of r) ≡ true
    unfolding covered within
    not_early first = all_replicas _ (λ s l h. le-leb (count_in (vector_of r) s) (count_in (counts_of (log_of w g)) s) (seen s l h))
      where
        seen : (s : ℕ) → 1 ≤ s → s ≤ 8 → count_in (vector_of r) s ≤ count_in (counts_of (log_of w g)) s
        seen s l h =
            let n : ℕ = count_in (vector_of r) s in
            let x = good_ops ga (replica_of r) (seq_of r) i.low i.high (seq_positive r) i.here in
            let cover : covered a (vector_of r) ≡ true = rw i.there at x.is_covered in
            elim (dec_le 1 n) [
              | yes p ↦ ⊎_elim (λ (z : n ≤ count_in (counts_of (log_of w g)) s). z)
                  (λ (z : any (same (op_at a s n)) (r ∷ ops) ≡ true). absurd (first.0 s n l h p (le_refl _) z))
                  (c s n l h p (held_in a (vector_of r) cover s l h))
              | no np ↦ omega arith
            ]

    abbrev next : List ℕ
    next = deliver_buffer w g r

    turned_new : (n : ℕ) → deliver_answer w g r ≡ accepted n → Turned w u base g next r
    unfolding deliver_buffer
    turned_new n e =
        let h = admitted w g r n e in
        let grown : next ≡ appended w g r = rw e in
        let good = sound_good w g k.is_sound_so in
        let d = in_range (log_of w g) r good h.admits in
        let own = own_next (log_of w g) r good h.admits in
        rw grown (record {
          onward = record {
            on_way = way_grown w u su base g k r in_u n h;
            more = rw (appended_log w g r n h) (append_extends (log_of w g) r (length_log_of w g) d.0 d.1);
            front = λ _. appended_front w g r n h;
          };
          here = rw (appended_log w g r n h) (new_in (log_of w g) r (length_log_of w g) d.0 d.1 own);
        })

    turned_held : deliver_answer w g r ≡ had_it → is_held (log_of w g) r ≡ true → Turned w u base g next r
    unfolding deliver_buffer
    turned_held e h =
        let same_buffer : next ≡ g = rw e in
        rw same_buffer (record { onward = onward_none w u base g k; here = way_held w u su base g k r in_u h })

    -- and the rest is still to come
    comes : Turned w u base g next r → HeldOrComing w a next ops
    unfolding any
    comes t s q l h lq uq =
        ⊎_elim (λ (z : q ≤ count_in (counts_of (log_of w g)) s). inl (omega (arith, t.onward.more.counts s l h)))
        (λ (z : any (same (op_at a s q)) (r ∷ ops) ≡ true).
        ⊎_elim (λ (e : same (op_at a s q) r ≡ true).
        let x = good_ops ga s q l h lq uq in
        let o : op_at a s q ≡ r = same_eq (op_at a s q) r e in
        let os : replica_of r ≡ s = ap replica_of (sym o) ∙ x.origin in
        let oq : seq_of r ≡ q = ap seq_of (sym o) ∙ x.number in
        inl (rw (os, oq) at t.here.here))
        (λ (e : any (same (op_at a s q)) ops ≡ true). inr e)
        (or_cases (same (op_at a s q) r) _ z)) (c s q l h lq uq)

    turn_then : {x : Answer} → Turned w u base g next r → InTurn w u a base next ops x → InTurn w u a base g (r ∷ ops) x
    unfolding turns_buffer
    turn_then t (all_taken on all) = all_taken (onward_then t.onward on) all
    turn_then t (no_room h) = no_room h

  abbrev Comes : List Op → Type 0
  Comes ops =
      (g : List ℕ) → OnWay w u base g → Each (OpIn a) ops → CausalOrder a ops → HeldOrComing w a g ops
      → InTurn w u a base g ops (turns_answer w g ops)

  turn_one : (r : Op) (ops : List Op) → Comes ops → Comes (r ∷ ops)
  unfolding turns_answer unless_refused
  turn_one r ops ih g k is order c = go refl (way_answer w u su base g k r (in_u g k r ops is.0 c) wu)
    where
      rest : Turned w u base g (deliver_buffer w g r) r → InTurn w u a base g (r ∷ ops) (turns_answer w (deliver_buffer w g r) ops)
      rest t = turn_then g k r ops is.0 c t (ih (deliver_buffer w g r) t.onward.on_way is.1 order.1
          (comes g k r ops is.0 c t))

      go : {x : Answer} → deliver_answer w g r ≡ x → Offered w g r x
          → InTurn w u a base g (r ∷ ops) (unless_refused x (turns_answer w (deliver_buffer w g r) ops))
      go e taken = rest (turned_new g k r ops is.0 c _ e)
      go e (had h) = rest (turned_held g k r ops is.0 c e h)
      go e (early n) = never (sym n ∙ not_early g k r ops is.0 c order)
      go e (short n l) = no_room (elim (dec_le (end_of w (counts_of u)) (length base)) [
        | yes z ↦ absurd (omega (arith, way_room w u su base g k r (in_u g k r ops is.0 c) z n))
        | no nz ↦ omega arith
      ])

  pub in_turn : (ops : List Op) → Comes ops
  unfolding turns_answer turns_buffer any
  in_turn [] g k is order c =
      all_taken (onward_none w u base g k) (λ s l h. elim (dec_le 1 (count_in (counts_of a) s)) [
        | yes p ↦ ⊎_elim (λ (z : count_in (counts_of a) s ≤ count_in (counts_of (log_of w g)) s). z) (λ z. never z)
            (c s (count_in (counts_of a) s) l h p (le_refl _))
        | no np ↦ omega arith
      ])
  in_turn (r ∷ ops) g k is order c = turn_one r ops (in_turn ops) g k is order c
