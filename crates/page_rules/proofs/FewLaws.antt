-- What a call with a page accepts is accepted without it, and how large the numbers are that it hands back.
use mathlib.Core.Path.{◌≡◌, refl}
use mathlib.Core.Bool.{Bool, true, false, cond}
use mathlib.Core.List.{List}
use Prim.Native.Nat.{ℕ, suc, ◌≤◌}
use native.Mathlib.Omega.{arith}
use lib.ListN.{length, length-drop, length-map}
use Rattle.lists.specs.Lists.{index_of, sum}
use Rattle.rules.specs.Answer.{Answer, accepted, done, had_it, refused, waiting}
use Rattle.rules.specs.Deliver.{deliver_answer}
use Rattle.rules.specs.File.{Log, append, appended, counts_of, largest, log_of, width}
use Rattle.rules.specs.Issue.{Request, issue_answer, issued}
use Rattle.rules.specs.Op.{Op}
use Rattle.page_rules.specs.Page.{Page, deliver_page, deliver_page_answer, issue_page, issue_page_answer, page_of, shows, sort_after, taken_with, took_back, with_page}
use Rattle.rules.specs.Replay.{order_of, outcome_slot}
use Rattle.rules.specs.Tree.{most_ops}
use Rattle.rules.proofs.CausalLaws.{total_small, total_sum, within_length}
use Rattle.rules.proofs.DeliverLaws.{Admitted, admitted, appended_end, appended_sound, required}
use Rattle.rules.proofs.IssueLaws.{counts_eight, issue_admitted}
use Rattle.rules.proofs.SoundLaws.{sound_end, sound_good}
use Rattle.rules.proofs.StructureLaws.{GoodLog, counts_covered}
use Rattle.order.proofs.LevelLaws.{whole_cut}
use Rattle.order.proofs.OnceLaws.{ordered_length}
use Rattle.page_rules.proofs.PageLaws.{good_more}

pub few_ordered : (log : Log) → GoodLog log → length (order_of log (counts_of log)) ≤ most_ops
unfolding order_of
few_ordered log good =
    rw (length-map) (omega (
      arith,
      ordered_length log good (counts_of log) (whole_cut log good),
      within_length log (counts_of log) (counts_covered log),
      total_small (counts_of log) good.counts,
    ))

module _ (f : List ℕ) (r : Op) (n : ℕ) (h : Admitted width f r n) where
  few_behind : sort_after (log_of width f) r ≤ most_ops
  unfolding sort_after
  few_behind =
      let more = append (log_of width f) r in
      let xs = order_of more (counts_of more) in
      let good = good_more (log_of width f) (sound_good width f h.is_sound_so) r h.admits in
      omega (arith, length-drop (suc (index_of (outcome_slot r) xs)) xs, few_ordered more good)

  few_held : sum (counts_of (log_of width f)) ≤ most_ops
  few_held =
      let good = sound_good width f h.is_sound_so in
      let log = log_of width f in
      omega (arith, total_sum (counts_of log) (counts_eight log good), total_small (counts_of log) good.counts)

  few_back : (lent : Page) → took_back (log_of width f) lent r ≤ most_ops
  unfolding took_back
  few_back lent = go (shows lent (page_of (log_of width f)))
    where
      go : (b : Bool) → cond b (sort_after (log_of width f) r) (sum (counts_of (log_of width f))) ≤ most_ops
      go true = few_behind
      go false = few_held

  end_small : n ≤ largest width
  end_small =
      omega (arith, h.end, appended_end width f r n h, sound_end width (appended width f r) (appended_sound width f r n h))

-- of an answer that is accepted only where the op is admitted
few_with : (f : List ℕ) (lent : Page) (r : Op) (a : Answer) → ((n : ℕ) → a ≡ accepted n → Admitted width f r n)
    → taken_with width f lent r a ≤ most_ops
unfolding taken_with
few_with f lent r (refused m) h = omega arith
few_with f lent r had_it h = omega arith
few_with f lent r waiting h = omega arith
few_with f lent r done h = omega arith
few_with f lent r (accepted m) h = few_back f r m (h m refl) lent

with_page_law : (f : List ℕ) (lent : Page) (a : Answer) (n : ℕ) → with_page width f lent a ≡ accepted n → a ≡ accepted n
unfolding with_page
with_page_law f lent a n e = (required _ _ _ n (required _ _ _ n e).1).1

module _ (f r : List ℕ) (lent : Page) where
  pub page_delivered : (n : ℕ) → deliver_page_answer width f r lent ≡ accepted n → Admitted width f r n
  unfolding deliver_page_answer
  page_delivered n e = admitted width f r n (with_page_law f lent (deliver_answer width f r) n e)

  pub deliver_few : (deliver_page width f r lent).taken ≤ most_ops
  deliver_few = few_with f lent r (deliver_page_answer width f r lent) page_delivered

  pub deliver_end : (n : ℕ) → deliver_page_answer width f r lent ≡ accepted n → n ≤ largest width
  deliver_end n e = end_small f r n (page_delivered n e)

module _ (f out : List ℕ) (s : ℕ) (q : Request) (lent : Page) where
  pub page_issued : (n : ℕ) → issue_page_answer width f (length out) s q lent ≡ accepted n → Admitted width f (issued (log_of width f) s q) n
  unfolding issue_page_answer
  page_issued n e = issue_admitted f (length out) s q n (with_page_law f lent (issue_answer width f (length out) s q) n e)

  pub issue_few : (issue_page width f out s q lent).taken ≤ most_ops
  issue_few = few_with f lent (issued (log_of width f) s q) (issue_page_answer width f (length out) s q lent) page_issued

  pub issue_end : (n : ℕ) → issue_page_answer width f (length out) s q lent ≡ accepted n → n ≤ largest width
  issue_end n e = end_small f (issued (log_of width f) s q) n (page_issued n e)
