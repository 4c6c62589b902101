-- The cases of the listing call, as the code meets them.
use Prim.Native.Nat.{◌+◌, ◌-◌, ◌<◌, ℕ, ◌≤◌}
use borrow.Author.Rules.{rules}
use lib.ListN.{drop, length, length-append, length-replicate, replicate, take}
use lib.Seq.{take-append_seam}
use mathlib.Core.Bool.{false, true}
use mathlib.Core.List.{◌++◌, List, foldl}
use mathlib.Core.Path.{ap, sym, ◌∙◌, ◌≡◌}
use native.Mathlib.Omega.{arith}
use Rattle.lists.proofs.BoolLaws.{tested}
use Rattle.rules.proofs.SoundLaws.{sound_good, sound_structural}
use Rattle.rules.specs.Answer.{accepted, refused, require}
use Rattle.lists.specs.Lists.{down_from}
use Rattle.rules.specs.Listing.{listing, listing_answer, listing_of}
use Rattle.rules.specs.File.{log_of, width}
use Rattle.rules.specs.Path.{Written}
use Rattle.rules.specs.Replay.{parents_of}
use Rattle.rules.specs.Sound.{sound}
use Rattle.rules.specs.Tree.{slots}
use Rattle.rules.specs.Views.{View}
use Rattle.view.proofs.ListingLaws.{listing_is}
use Rattle.view.proofs.PutCases.{put_all, put_short}
use Rattle.view.specs.Answers.{put_answer, put_in}
use Rattle.view.specs.Asked.{Arrangeable, Arranged, Orderable, Printable}
use Rattle.tour.specs.Asked.{Tourable}
use Rattle.tour.specs.Tables.{hidden_of, link_slot, links, links_of, no_links, order_by, tour_of, visit}
use Rattle.tour.specs.declared.touring.Visit.{Visit}
use Rattle.view.specs.Tables.{lines_of, order_of, put_front}
use Rattle.marks.specs.Marking.{marks_of}
use Rattle.marks.proofs.MarkingCases.{fresh_marks, unmarked_size}

---- the nodes that a view shows

module _ (p m : List ℕ) (o₀ : List Visit) (a : Orderable p m o₀) (f n : List ℕ) where
  pub links_ask : length f ≡ slots → length n ≡ slots → Tourable f n o₀
  links_ask ef en = record { links_size = record { first_size = ef; next_size = en }; order_size = a.order_size }

  -- o has the tour in its first r entries
  module _ (o : List Visit) (same : length o ≡ length o₀) (r : ℕ) (is : r ≡ length (tour_of (links f n)))
      (e : o ≡ tour_of (links f n) ++ drop r o₀) where
    pub order_few : r ≤ slots
    order_few =
        let l : length o ≡ r + length (drop r o₀) = ap length e ∙ length-append (tour_of (links f n)) (drop r o₀) ∙ rw (← is) in
        omega (arith, a.order_size)

    pub order_made : (v : View)
        → links f n ≡ foldl (link_slot p (hidden_of p m v)) (links (replicate slots 0) (replicate slots 0)) (down_from (slots - 1))
        → take r o ≡ order_by p m v
    unfolding order_by links_of no_links
    order_made v l = rw (e, is) (take-append_seam (tour_of (links f n)) _) ∙ ap tour_of l

---- of a sound buffer

pub fresh_asks : (f : List ℕ) → sound width f ≡ true → Arrangeable f (replicate slots 0) (replicate slots (visit 0 0))
fresh_asks f a = record { markable = fresh_marks f a; order_size = length-replicate slots (visit 0 0) }

module _ (f m : List ℕ) (o : List Visit) (a : Arrangeable f m o) where
  -- m' are the marks
  module _ (m' : List ℕ) where
    pub order_asks : (p : List ℕ) → length p ≡ slots → length m' ≡ length m → Orderable p m' o
    order_asks p lp lm = record { parents_size = lp; marks_size = lm ∙ unmarked_size f m a.markable; order_size = a.order_size }

    pub order_of_law : m' ≡ marks_of (log_of width f) → (p : List ℕ) → p ≡ parents_of (log_of width f)
        → (v : View) (t : List Visit) → t ≡ order_by p m' v → t ≡ order_by (parents_of (log_of width f)) (marks_of (log_of width f)) v
    order_of_law em p ep v t e = e ∙ rw (ep, em)

---- the lines of arranged nodes

module _ (marks : List ℕ) (order : List Visit) (size : ℕ) (is : (m : List ℕ) → size ≡ length (lines_of m order)) (out : List ℕ) where
  pub lines_short :
      length out < size → ◌≡◌ {A = Written} (record { answer = refused 8; out = out }) (put_in (lines_of marks order) out)
  lines_short h = put_short (lines_of marks order) out size (is marks) h

  pub lines_ask : Arranged order marks → size ≤ length out → Printable order marks out
  lines_ask a h = record { arranged = a; room = rw (← is marks) h }

  pub lines_put :
      size ≤ length out → (o : List ℕ) → o ≡ put_front (lines_of marks order) out →
      ◌≡◌ {A = Written} (record { answer = accepted size; out = o }) (put_in (lines_of marks order) out)
  lines_put h o e = put_all (lines_of marks order) out size (is marks) h o e

---- the whole

module _ (f out : List ℕ) (view : View) where
  pub listing_unsound : sound width f ≡ false → ◌≡◌ {A = Written} (record { answer = refused 1; out = out }) (listing width f view out)
  unfolding listing listing_answer require
  listing_unsound e = rw e

  module _ (a : sound width f ≡ true) where
    pub listing_put : listing width f view out ≡ put_in (listing_of view (log_of width f)) out
    unfolding listing listing_answer put_in put_answer require
    listing_put = rw a

    pub listing_now :
        (marks : List ℕ) (t : List Visit) → marks ≡ marks_of (log_of width f) → t ≡ order_of (log_of width f) view →
        (x : Written) → x ≡ put_in (lines_of marks t) out → x ≡ listing width f view out
    listing_now marks t m o x e =
        e ∙ rw (m, o, listing_is (log_of width f) (sound_good width f a) view) (sym listing_put)

---- what the code of listings needs: search listings
pub ruleset arranging = (links_ask, order_few, order_made, fresh_asks, order_asks, order_of_law)

pub ruleset listings = (rules, tested, sound_structural, arranging, lines_short, lines_ask, lines_put, listing_unsound, listing_now)
