-- Delivering and issuing with a page, as the code has them.
use mathlib.Core.Path.{◌≡◌, sym, ap, ◌∙◌}
use mathlib.Core.Bool.{true, false, ◌&&◌}
use mathlib.Core.List.{List, ◌++◌}
use Prim.Native.Nat.{ℕ, ◌≤◌}
use native.Mathlib.Omega.{arith}
use lib.ListN.{drop, length}
use borrow.Author.Rules.{rules}
use borrow.Author.Tests.{leb-true}
use lib.Dec.{leb}
use Rattle.lists.proofs.BoolLaws.{and_left, and_right, tested}
use Rattle.rules.specs.Answer.{Answer, if_accepted, refused, require}
use Rattle.rules.specs.Deliver.{Result, deliver, deliver_answer, deliver_buffer}
use Rattle.rules.specs.File.{Log, append, appended, counts_of, header_counts, log_of, width}
use Rattle.rules.specs.Issue.{Issued, Request, issue, issue_answer, issue_buffer, issue_out, issued}
use Rattle.rules.specs.Log.{sound_header}
use Rattle.rules.specs.Op.{Op, Vector}
use Rattle.page_rules.specs.Page.{Page, PageIssued, PageResult, deliver_page, deliver_page_answer, page_filled, issue_page, issue_page_answer, long_enough, page, page_with, page_of, taken_with, took_back, with_page}
use Rattle.rules.specs.Sound.{sound}
use Rattle.rules.specs.Tree.{most_ops, slots}
use Rattle.rules.proofs.AppendLaws.{extends, in_range, sum_append}
use Rattle.rules.proofs.CausalLaws.{le_within}
use Rattle.rules.proofs.DeliverLaws.{Admitted, admitted, appended_log, appended_sound}
use Rattle.rules.proofs.FileLaws.{counts_log_of}
use Rattle.rules.proofs.IssueLaws.{counts_eight, issue_admitted}
use Rattle.rules.proofs.SoundLaws.{sound_good, sound_structural}
use Rattle.rules.proofs.StructureLaws.{GoodLog}
use Rattle.codec.specs.Asked.{is_accepted}
use Rattle.codec.proofs.AnswerLaws.{accepted_with, if_accepted_law, if_not_accepted}
use Rattle.page_rules.proofs.PageLaws.{behind_is, old_cut, page_before}
use Rattle.replay.proofs.CutLaws.{whole_header, whole_sound}
use Rattle.page_tables.specs.Tables.{LongPage}
use Rattle.page.specs.Renewing.{OneMore, OneMoreLent, PageReady, Took}

---- an op that was added

module _ (f : List ℕ) (r : Op) (n : ℕ) (h : Admitted width f r n) where
  abbrev log : Log
  log = log_of width f

  abbrev new : List ℕ
  new = appended width f r

  good : GoodLog log
  good = sound_good width f h.is_sound_so

  log_new : log_of width new ≡ append log r
  log_new = appended_log width f r n h

  counts_new : header_counts new ≡ counts_of (append log r)
  counts_new = sym (counts_log_of width new) ∙ ap counts_of log_new

  grown : OneMore new (header_counts f)
  grown =
      let b = in_range log r good h.admits in
      rw (← counts_log_of width f) (record {
        is_structural = sound_structural width new (appended_sound width f r n h);
        eight = counts_eight log good;
        inside = rw counts_new (le_within (counts_of log) (counts_of (append log r)) (extends log r good h.admits).counts);
        is_closed = rw log_new (old_cut log good r h.admits).is_closed;
        one = rw (counts_new, sum_append log r good.eight b.0 b.1) (omega arith);
      })

  took_is : (lent : Page) (t : ℕ) → Took (log_of width new) (header_counts f) lent t → t ≡ took_back log lent r
  unfolding took_back
  took_is lent t x =
      let y : Took (append log r) (counts_of log) lent t = rw (log_new, ← counts_log_of width f) at x in
      y.number ∙ rw (page_before log good r h.admits, behind_is log good r h.admits y.place y.first)

---- the lent tables

module _ (f ls lp lo : List ℕ) (x : PageReady f ls lp lo) where
  lent : LongPage ls lp lo
  unfolding long_enough
  lent =
      let e = x.long in
      let ab = and_left (leb most_ops (length ls) && leb slots (length lp)) _ e in
      record {
        order = leb-true most_ops (length ls) (and_left _ (leb slots (length lp)) ab);
        parents = leb-true slots (length lp) (and_right (leb most_ops (length ls)) _ ab);
        outcomes = leb-true slots (length lo) (and_right (leb most_ops (length ls) && leb slots (length lp)) _ e);
      }

  pub ready_header : 32 ≤ length f
  ready_header = whole_header width f (sound_structural width f x.is_sound_so)

  pub ready_sound : sound_header width f ≡ true
  ready_sound = whole_sound width f (sound_structural width f x.is_sound_so)

pub ready : (f ls lp lo : List ℕ) → sound width f ≡ true → long_enough (page ls lp lo) ≡ true → PageReady f ls lp lo
ready f ls lp lo a b = record { is_sound_so = a; long = b }

---- what a call that may add r leaves, by its answer

module _ (f ls lp lo : List ℕ) (r : Op) (a : Answer) where
  abbrev before : Page
  before = page ls lp lo

  none_taken : is_accepted a ≡ false → 0 ≡ taken_with width f before r a
  unfolding taken_with
  none_taken e = sym (if_not_accepted (took_back (log_of width f) before r) 0 a e)

  same_page : is_accepted a ≡ false → before ≡ page_with width f before r a
  unfolding page_with
  same_page e = sym (if_not_accepted (page_filled before (page_of (append (log_of width f) r))) before a e)

  module _ (n : ℕ) (h : Admitted width f r n) (e : is_accepted a ≡ true) where
    added_taken : (t : ℕ) → Took (log_of width (appended width f r)) (header_counts f) before t → t ≡ taken_with width f before r a
    unfolding taken_with
    added_taken t x = took_is f r n h before t x ∙ sym (if_accepted_law (took_back (log_of width f) before r) 0 a e)

    added_page : (q : Page) → q ≡ page_filled before (page_of (log_of width (appended width f r))) → q ≡ page_with width f before r a
    unfolding page_with
    added_page q x =
        x ∙ rw (log_new f r n h) (sym (if_accepted_law (page_filled before (page_of (append (log_of width f) r))) before a e))

---- delivering

abbrev handed : Answer → ℕ → (buffer : List ℕ) → Page → PageResult
handed a t f p = record { answer = a; taken = t; buffer = f; page = p }

module _ (f op ls lp lo : List ℕ) where
  pub deliver_unsound : sound width f ≡ false → handed (refused 1) 0 f (page ls lp lo) ≡ deliver_page width f op (page ls lp lo)
  unfolding deliver_page_answer with_page taken_with page_with require
  deliver_unsound e = rw e

  pub deliver_short : sound width f ≡ true → long_enough (page ls lp lo) ≡ false
      → handed (refused 2) 0 f (page ls lp lo) ≡ deliver_page width f op (page ls lp lo)
  unfolding deliver_page_answer with_page taken_with page_with require
  deliver_short s e = rw (s, e)

  module _ (x : PageReady f ls lp lo) (a : Answer) (f' : List ℕ)
      (is : ◌≡◌ {A = Result} (record { answer = a; buffer = f' }) (deliver width f op)) where
    plain : a ≡ deliver_answer width f op
    plain = ap (λ (y : Result). y.answer) is

    answer_is : deliver_page_answer width f op (page ls lp lo) ≡ a
    unfolding deliver_page_answer with_page require
    answer_is = rw (x.is_sound_so, x.long) (sym plain)

    buffer_is : f' ≡ if_accepted a (appended width f op) f
    unfolding deliver_buffer
    buffer_is = ap (λ (y : Result). y.buffer) is ∙ rw plain

    pub deliver_kept : is_accepted a ≡ false → handed a 0 f' (page ls lp lo) ≡ deliver_page width f op (page ls lp lo)
    deliver_kept e = rw (answer_is, ← none_taken f ls lp lo op a e, ← same_page f ls lp lo op a e, ← buffer_is)

    module _ (e : is_accepted a ≡ true) (u : Vector) (hu : u ≡ header_counts f) where
      end : ℕ
      end = (accepted_with a e).0

      taken_in : Admitted width f op end
      unfolding end
      taken_in = admitted width f op end (sym plain ∙ (accepted_with a e).1)

      added : f' ≡ appended width f op
      added = buffer_is ∙ if_accepted_law (appended width f op) f a e

      pub deliver_renews : OneMoreLent f' u ls lp lo
      deliver_renews = record { grown = rw (added, hu) (grown f op end taken_in); lent = lent f ls lp lo x }

      pub deliver_renewed : (q : Page) → q ≡ page_filled (page ls lp lo) (page_of (log_of width f')) → (t : ℕ)
          → Took (log_of width f') u (page ls lp lo) t → handed a t f' q ≡ deliver_page width f op (page ls lp lo)
      deliver_renewed q hq t ht = rw (
        answer_is,
        ← added_taken f ls lp lo op a end taken_in e t (rw (added, hu) at ht),
        ← added_page f ls lp lo op a end taken_in e q (rw added at hq),
        ← buffer_is,
      )

---- issuing

abbrev handed_out : Answer → ℕ → (buffer out : List ℕ) → Page → PageIssued
handed_out a t f o p = record { answer = a; taken = t; buffer = f; out = o; page = p }

module _ (f out : List ℕ) (s : ℕ) (q : Request) (ls lp lo : List ℕ) where
  abbrev op : Op
  op = issued (log_of width f) s q

  pub issue_unsound : sound width f ≡ false → handed_out (refused 1) 0 f out (page ls lp lo) ≡ issue_page width f out s q (page ls lp lo)
  unfolding issue_page_answer with_page taken_with page_with require
  issue_unsound e = rw e

  pub issue_short : sound width f ≡ true → long_enough (page ls lp lo) ≡ false
      → handed_out (refused 2) 0 f out (page ls lp lo) ≡ issue_page width f out s q (page ls lp lo)
  unfolding issue_page_answer with_page taken_with page_with require
  issue_short h e = rw (h, e)

  module _ (x : PageReady f ls lp lo) (a : Answer) (f' out' : List ℕ)
      (is : ◌≡◌ {A = Issued} (record { answer = a; buffer = f'; out = out' }) (issue width f out s q)) where
    plainly : a ≡ issue_answer width f (length out) s q
    plainly = ap (λ (y : Issued). y.answer) is

    issue_is : issue_page_answer width f (length out) s q (page ls lp lo) ≡ a
    unfolding issue_page_answer with_page require
    issue_is = rw (x.is_sound_so, x.long) (sym plainly)

    issue_buffer_law : f' ≡ if_accepted a (appended width f op) f
    unfolding issue_buffer
    issue_buffer_law = ap (λ (y : Issued). y.buffer) is ∙ rw plainly

    issue_out_law : out' ≡ if_accepted a (op ++ drop width out) out
    unfolding issue_out
    issue_out_law = ap (λ (y : Issued). y.out) is ∙ rw plainly

    pub issue_kept : is_accepted a ≡ false → handed_out a 0 f' out' (page ls lp lo) ≡ issue_page width f out s q (page ls lp lo)
    issue_kept e = rw (issue_is, ← none_taken f ls lp lo op a e, ← same_page f ls lp lo op a e, ← issue_buffer_law, ← issue_out_law)

    module _ (e : is_accepted a ≡ true) (u : Vector) (hu : u ≡ header_counts f) where
      issue_end : ℕ
      issue_end = (accepted_with a e).0

      issue_in : Admitted width f op issue_end
      unfolding issue_end
      issue_in = issue_admitted f (length out) s q issue_end (sym plainly ∙ (accepted_with a e).1)

      issue_added : f' ≡ appended width f op
      issue_added = issue_buffer_law ∙ if_accepted_law (appended width f op) f a e

      pub issue_renews : OneMoreLent f' u ls lp lo
      issue_renews = record { grown = rw (issue_added, hu) (grown f op issue_end issue_in); lent = lent f ls lp lo x }

      pub issue_renewed : (z : Page) → z ≡ page_filled (page ls lp lo) (page_of (log_of width f')) → (t : ℕ)
          → Took (log_of width f') u (page ls lp lo) t → handed_out a t f' out' z ≡ issue_page width f out s q (page ls lp lo)
      issue_renewed z hz t ht = rw (
        issue_is,
        ← added_taken f ls lp lo op a issue_end issue_in e t (rw (issue_added, hu) at ht),
        ← added_page f ls lp lo op a issue_end issue_in e z (rw issue_added at hz),
        ← issue_buffer_law,
        ← issue_out_law,
      )

---- what the code of the calls needs: search delivering, search issuing

pub ruleset readying = (rules, tested, ready, ready_header, ready_sound)

pub ruleset delivering = (readying, deliver_unsound, deliver_short, deliver_kept, deliver_renews, deliver_renewed)

pub ruleset issuing = (readying, issue_unsound, issue_short, issue_kept, issue_renews, issue_renewed)
