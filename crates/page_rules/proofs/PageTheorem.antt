-- What a call with a page promises, proved.
use Prim.Native.Nat.{ℕ, suc, ◌≤◌}
use borrow.Author.Tests.{le-leb}
use lib.ListN.{drop, get_or, length, length-append, length-drop, length-map, length-replicate, get_or-append}
use lib.Seq.{take_at}
use lib.Dec.{leb}
use mathlib.Core.Bool.{Bool, true, false, ◌&&◌}
use mathlib.Core.List.{List, ◌++◌}
use mathlib.Core.Path.{◌≡◌, refl, sym, ap, ◌∙◌}
use native.Mathlib.Decide.{dec_le}
use native.Mathlib.Omega.{arith}
use Rattle.lists.specs.Lists.{sum}
use Rattle.lists.proofs.BoolLaws.{and_both, and_left, and_right, never}
use Rattle.lists.proofs.EachLaws.{Each, each_at}
use Rattle.lists.proofs.FilterLaws.{first_fails}
use Rattle.lists.proofs.ListLaws.{same_refl}
use Rattle.rules.specs.Answer.{Answer, accepted, done, had_it, if_accepted, refused, require, waiting}
use Rattle.rules.specs.Op.{Op, Vector, count_in, counted, vector_of}
use Rattle.rules.specs.File.{Log, append, appended, counts_of, log_of, width}
use Rattle.rules.specs.Tree.{most_ops, slots}
use Rattle.rules.specs.Replay.{Stamped, order_of, ordered, outcomes_of, parents_of, stamp}
use Rattle.rules.specs.Sound.{sound}
use Rattle.rules.specs.Judge.{judge, judge_answer}
use Rattle.rules.specs.Deliver.{deliver_answer, deliver_buffer}
use Rattle.rules.specs.Issue.{Request, issue_answer, issue_buffer, issue_out, issued}
use Rattle.rules.proofs.AppendLaws.{Admits}
use Rattle.rules.proofs.CausalLaws.{within_length}
use Rattle.rules.proofs.DeliverLaws.{Admitted, appended_log, appended_sound, if_not, required}
use Rattle.rules.proofs.PutOutLaws.{issued_vector}
use Rattle.rules.proofs.SoundLaws.{sound_good}
use Rattle.rules.proofs.StepLaws.{tables_full}
use Rattle.rules.proofs.StructureLaws.{GoodLog, count_held, counts_covered, good_ops}
use Rattle.order.specs.Undo.{FirstNew, no_op}
use Rattle.order.proofs.IssuedLaws.{late}
use Rattle.order.proofs.LateLaws.{ordered_late}
use Rattle.order.proofs.LevelLaws.{whole_cut}
use Rattle.order.proofs.OnceLaws.{ordered_length}
use Rattle.order.proofs.OrderLaws.{ordered_each}
use Rattle.order.proofs.PartLaws.{in_cut}
use Rattle.page_rules.specs.Page.{Page, deliver_page_answer, page_filled, issue_page_answer, long_enough, padded, page_at, page_of, page_with, shows, sort_after, taken_with, took_back, with_page}
use Rattle.page_rules.specs.Claims.{GoesWith, IssuedLast, PageKept, PagesKept, PagesLeft, SortsIn, TooShort, is_true}
use Rattle.page_rules.proofs.FewLaws.{few_ordered, page_delivered, page_issued}
use Rattle.page_rules.proofs.PageLaws.{behind_is, good_more, one_more, sorts_in}

---- where a new op stands

first_new : (log : Log) (old : Vector) → (i : ℕ) × FirstNew log old i
first_new log old =
    let (i, h) = first_fails (λ (x : Stamped). counted old x.op) (ordered log (counts_of log)) no_op in
    (i, record { inside = h.inside; front = h.front; here = h.here })

module _ (log : Log) (good : GoodLog log) (r : Op) (h : Admits log r) where
  abbrev more : Log
  more = append log r

  abbrev old : Vector
  old = counts_of log

  sorts : SortsIn log r (sort_after log r)
  sorts = let (i, at) = first_new more old in sorts_in log good r h i at

  -- an op that counts all that is held sorts last
  module _ (whole : vector_of r ≡ counts_of log) where
    counted_old : Each (λ x. in_cut old x ≡ true) (ordered log old)
    unfolding stamp
    counted_old = ordered_each log old _ (λ s q l u lq uq.
        let x = good_ops good s q l u lq (omega (arith, count_held log s)) in
        rw (x.origin, x.number) (le-leb q (count_in old s) uq))

    none_behind : sort_after log r ≡ 0
    unfolding order_of
    none_behind =
        let (i, at) = first_new more old in
        let xs : List Stamped = ordered more (counts_of more) in
        let ys : List Stamped = ordered log old in
        let goods = good_more log good r h in
        let size : length xs ≡ suc (length ys) =
        omega (
          arith,
          ordered_length more goods (counts_of more) (whole_cut more goods),
          within_length more (counts_of more) (counts_covered more),
          ordered_length log good old (whole_cut log good),
          within_length log old (counts_covered log),
          one_more log good r h,
        ) in
        let behind : length ys ≤ i = elim (dec_le (length ys) i) [
          | yes l ↦ l
          | no nl ↦
              let same : get_or xs i no_op ≡ get_or ys i no_op =
              ap (λ (zs : List Stamped). get_or zs i no_op) (ordered_late log more (late log good r h whole) good goods)
              ∙ get_or-append ys _ no_op i (omega arith) in
              let c = each_at (λ x. in_cut old x ≡ true) ys no_op i counted_old (omega arith) in
              never (sym (at.here (omega arith)) ∙ ap (in_cut old) same ∙ c)
        ] in
        behind_is log good r h i at ∙ rw (length-drop, length-map) (omega arith)

---- one call

module _ (f : List ℕ) (r : Op) (n : ℕ) (h : Admitted width f r n) (lent : Page) (long : long_enough lent ≡ true) where
  abbrev log : Log
  log = log_of width f

  abbrev after : List ℕ
  after = appended width f r

  long_tables : (leb slots (length lent.parents) && leb slots (length lent.outcomes)) ≡ true
  unfolding long_enough
  long_tables =
      let front = leb most_ops (length lent.order) in
      let ab = and_left (front && leb slots (length lent.parents)) _ long in
      and_both (and_right front _ ab) (and_right (front && leb slots (length lent.parents)) _ long)

  log_after : log_of width after ≡ append log r
  log_after = appended_log width f r n h

  good : GoodLog log
  good = sound_good width f h.is_sound_so

  abbrev new : Page
  new = page_of (append log r)

  order_new : (page_filled lent new).order ≡ padded (order_of (log_of width after) (counts_of (log_of width after))) ++ drop most_ops lent.order
  unfolding page_filled page_of page_at
  order_new = rw log_after

  judged_new : judge width after lent.parents lent.outcomes
      ≡ record { answer = done; parents = (page_filled lent new).parents; outcomes = (page_filled lent new).outcomes }
  unfolding judge judge_answer require page_filled page_of page_at parents_of outcomes_of
  judged_new = rw (appended_sound width f r n h, long_tables, log_after)

  -- each table of a page has its length
  order_long : length new.order ≡ most_ops
  unfolding page_of page_at padded order_of
  order_long =
      let few = few_ordered (append log r) (good_more log good r h.admits) in
      rw (length-append, length-replicate) (omega (arith, few))

  parents_long : length new.parents ≡ slots
  unfolding page_of page_at
  parents_long = (tables_full (append log r) (counts_of (append log r))).parents_full

  outcomes_long : length new.outcomes ≡ slots
  unfolding page_of page_at
  outcomes_long = (tables_full (append log r) (counts_of (append log r))).outcomes_full

  true_new : is_true after (page_filled lent new) ≡ true
  unfolding is_true shows page_filled
  true_new =
      rw (
        log_after,
        take_at new.order (drop most_ops lent.order) most_ops order_long,
        take_at new.parents (drop slots lent.parents) slots parents_long,
        take_at new.outcomes (drop slots lent.outcomes) slots outcomes_long,
        same_refl new.order,
        same_refl new.parents,
        same_refl new.outcomes,
      )

  took_behind : is_true f lent ≡ true → took_back log lent r ≡ sort_after log r
  unfolding is_true took_back
  took_behind e = rw e

  took_all : is_true f lent ≡ false → took_back log lent r ≡ sum (counts_of log)
  unfolding is_true took_back
  took_all e = rw e

  kept : PageKept f r lent after (page_filled lent (page_of (append log r))) (took_back log lent r)
  kept = record {
    fresh = record { order = order_new; judged = judged_new };
    is_true_so = true_new;
    behind = λ e. rw (took_behind e) (sorts log good r h.admits);
    rebuilt = took_all;
  }

---- the calls

with_long : (f : List ℕ) (lent : Page) (a : Answer) (n : ℕ) → with_page width f lent a ≡ accepted n → long_enough lent ≡ true
unfolding with_page
with_long f lent a n e = (required _ _ _ n (required _ _ _ n e).1).0

module _ (f : List ℕ) (r : Op) (lent : Page) (a : Answer) where
  kept_with : (n : ℕ) → a ≡ accepted n → Admitted width f r n → long_enough lent ≡ true
      → PageKept f r lent (if_accepted a (appended width f r) f) (page_with width f lent r a) (taken_with width f lent r a)
  unfolding page_with taken_with
  kept_with n e h long = rw e (kept f r n h lent long)

  left_with : if_accepted a true false ≡ false → (page_with width f lent r a ≡ lent) × (taken_with width f lent r a ≡ 0)
  unfolding page_with taken_with
  left_with e = (if_not a _ _ e, if_not a _ _ e)

pub pages_kept : PagesKept
unfolding deliver_page_answer issue_page_answer
pages_kept = record {
  delivering = λ f r lent n e.
      kept_with f r lent _ n e (page_delivered f r lent n e) (with_long f lent (deliver_answer width f r) n e);
  issuing = λ f out s q lent n e.
      kept_with f (issued (log_of width f) s q) lent _ n e (page_issued f out s q lent n e)
      (with_long f lent (issue_answer width f (length out) s q) n e);
}

pub pages_left : PagesLeft
pages_left = record {
  delivering = λ f r lent e. left_with f r lent _ e;
  issuing = λ f out s q lent e. left_with f (issued (log_of width f) s q) lent _ e;
}

-- the plain call tests soundness too
twice : (b : Bool) (a : Answer) → require b 1 (require true 2 (require b 1 a)) ≡ require b 1 a
unfolding require
twice true a = refl
twice false a = refl

module _ (f : List ℕ) (lent : Page) (e : long_enough lent ≡ true) where
  plain_delivery : (r : Op) → deliver_page_answer width f r lent ≡ deliver_answer width f r
  unfolding deliver_page_answer with_page deliver_answer
  plain_delivery r = rw e (twice (sound width f) _)

  plain_issue : (room s : ℕ) (q : Request) → issue_page_answer width f room s q lent ≡ issue_answer width f room s q
  unfolding issue_page_answer with_page issue_answer
  plain_issue room s q = rw e (twice (sound width f) _)

pub goes_with : GoesWith
unfolding deliver_buffer issue_buffer issue_out
goes_with = record {
  delivering = λ f r lent e. rw (plain_delivery f lent e r);
  issuing = λ f out s q lent e. rw (plain_issue f lent e (length out) s q);
}

pub too_short : TooShort
unfolding deliver_page_answer issue_page_answer with_page require
too_short = record { delivering = λ f r lent s e. rw (s, e); issuing = λ f out s q lent h e. rw (h, e) }

module _ (f : List ℕ) (r : Op) (lent : Page) where
  none_taken : (a : Answer) → if_accepted a true false ≡ false → taken_with width f lent r a ≡ 0
  none_taken a e = (left_with f r lent a e).1

  last_taken : is_true f lent ≡ true → (n : ℕ) → sort_after (log_of width f) r ≡ 0 → taken_with width f lent r (accepted n) ≡ 0
  unfolding is_true taken_with took_back
  last_taken e n z = rw e z

pub issued_last : IssuedLast
issued_last f out s q lent e = go (issue_page_answer width f (length out) s q lent) refl
  where
    go : (a : Answer) → issue_page_answer width f (length out) s q lent ≡ a → taken_with width f lent (issued (log_of width f) s q) a ≡ 0
    go (refused m) i = none_taken f _ lent (refused m) refl
    go had_it i = none_taken f _ lent had_it refl
    go waiting i = none_taken f _ lent waiting refl
    go done i = none_taken f _ lent done refl
    go (accepted n) i =
        let h = page_issued f out s q lent n i in
        let log = log_of width f in
        let good = sound_good width f h.is_sound_so in
        last_taken f _ lent e n (none_behind log good (issued log s q) h.admits (issued_vector log good s q))
