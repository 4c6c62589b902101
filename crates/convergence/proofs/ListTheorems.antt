-- What every list of calls comes to, proved.
use Rattle.convergence.specs.Exchange.{standing, Call, make, Site, answer, buffer_after, begun, added, Adds, perform, lent, run, Reply, reply, replies, file_in, has, Agreed}
use mathlib.Core.Path.{◌≡◌, refl, sym, ap, ◌∙◌}
use mathlib.Core.Bool.{Bool, true, false}
use mathlib.Core.List.{List, [], ◌∷◌, ◌++◌, foldl}
use Prim.Native.Nat.{ℕ, suc, ◌+◌, ◌*◌}
use native.Mathlib.Omega.{arith}
use borrow.Author.Tests.{leb-true}
use lib.ListN.{length, drop, length-append, length-drop, take-append-drop}
use lib.Seq.{drop_at}
use lib.Dec.{leb}
use Rattle.rules.specs.Answer.{Answer, refused, had_it, waiting, done, accepted, require, if_accepted}
use Rattle.rules.specs.Op.{Op}
use Rattle.rules.specs.File.{file_of, file_end, log_of, empty_log, appended, width}
use Rattle.rules.specs.Sound.{sound}
use Rattle.rules.specs.Deliver.{make_answer, make_buffer, deliver_buffer}
use Rattle.rules.specs.Judge.{judge, judge_answer}
use Rattle.rules.specs.Path.{path_call, path_answer}
use Rattle.rules.specs.Listing.{listing, listing_answer}
use Rattle.lists.proofs.BoolLaws.{never}
use Rattle.rules.proofs.DeliverLaws.{admitted, accepted_same, appended_end, appended_past, appended_length}
use Rattle.rules.proofs.SoundLaws.{empty_ends, empty_length}
use Rattle.convergence.specs.Lists.{Stored, SameHeld, ReadAlike, PastKept, ListsFile, SameOpsSameFile, HeldSettles, CallsSettle, ReadsSettle, CallsKeepPast, StaysPut}
use Rattle.convergence.proofs.TrackLaws.{Tracks, tracks_listed, arrange_log}
use Rattle.convergence.proofs.CallLaws.{calls_add, begun_is, begun_held, make_alike, reply_alike, added_alike}
use Rattle.rules.proofs.TurnLaws.{OneLog}
use Rattle.lists.proofs.NumberLaws.{mul_step}
use Rattle.lists.proofs.ListLaws.{drop_past}
use Rattle.rules.specs.Bundle.{bundle_call, bundle_answer}
use Rattle.convergence.proofs.KeptLaws.{log_in, Kept, kept_good, kept_ops, kept_filed, kept_front, kept_make, kept_perform, kept_run, kept_arrange}

---- after every list the file is that of the held ops

kept_agrees : (x : Site) → Kept x → Agreed x.held x.held
kept_agrees x k r y hr hy s q =
    let i = k.tracks.inside r hr in
    let j = k.tracks.inside y hy in
    sym i.there ∙ rw (s, q) j.there

pub kept_stored : (x : Site) → Kept x → Stored x
kept_stored x k = record {
  file = kept_filed x k;
  agrees = kept_agrees x k;
  once = k.once;
  every = λ r. rw (kept_arrange x k) (tracks_listed (log_in x) (kept_ops x k) (kept_good x k).eight r x.held k.tracks);
}

pub lists_file : ListsFile
lists_file f calls h = kept_stored (run f calls) (kept_run f calls h)

pub stays_put : StaysPut
unfolding standing file_in
stays_put x = rw (take-append-drop (file_end width x.buffer) x.buffer)

---- the same ops held

module _ (x y : Site) (k : Kept x) (m : Kept y) (same : SameHeld x y) where
  same_log : log_in x ≡ log_in y
  same_log =
      let t : Tracks (log_in y) x.held = record {
        inside = λ r e. m.tracks.inside r (sym (same r) ∙ e);
        outside = λ r i. same r ∙ m.tracks.outside r i;
      } in
      sym (kept_arrange x k) ∙ arrange_log (log_in y) x.held t (kept_ops y m) (kept_good y m).eight (kept_good y m).counts

  one_log : length x.buffer ≡ length y.buffer → OneLog width x.buffer y.buffer
  one_log l = record { first = k.is_sound_so; second = m.is_sound_so; log = same_log; size = l }

  same_file : file_in x ≡ file_in y
  same_file = kept_front x k ∙ ap (file_of width) same_log ∙ sym (kept_front y m)

pub same_ops_same_file : SameOpsSameFile
same_ops_same_file f g a b lf lg same = same_file (run f a) (run g b) (kept_run f a lf) (kept_run g b lg) same

---- what is not read

-- two sound buffers with one log
module _ (f g : List ℕ) (sf : sound width f ≡ true) (sg : sound width g ≡ true) (e : log_of width f ≡ log_of width g) where
  read_alike : ReadAlike f g
  unfolding judge judge_answer path_call path_answer listing listing_answer bundle_call bundle_answer
  read_alike = record {
    judging = λ p o. rw (sf, sg, e);
    paths = λ n out. rw (sf, sg, e);
    listings = λ view out. rw (sf, sg, e);
    bundles = λ v out. rw (sf, sg, e);
  }

---- what is not changed

-- g is as long as f, and past its file it has the bytes of f
abbrev SamePast : List ℕ → List ℕ → Type 0
SamePast f g = (length g ≡ length f) × (drop (file_end width g) g ≡ drop (file_end width g) f)

made_past : (f : List ℕ) → SamePast f (begun (lent f) make).buffer
unfolding begun make_buffer make_answer require
made_past f = go (leb 32 (length f)) refl
  where
    go : (b : Bool) → leb 32 (length f) ≡ b → SamePast f (if_accepted (require b 8 (accepted 32)) (file_of width empty_log ++ drop 32 f) f)
    go false e = (refl, refl)
    go true e = (
      rw (length-append, empty_length, length-drop) (omega (arith, leb-true 32 (length f) e)),
      rw (empty_ends width (drop 32 f)) (drop_at (file_of width empty_log) (drop 32 f) 32 (empty_length width)),
    )

-- ops added in turn
adds_past : (ops : List Op) (f g : List ℕ) → Adds f ops g → SamePast f g × (file_end width g ≡ file_end width f + width * length ops)
unfolding deliver_buffer
adds_past [] f g e = rw e ((refl, refl), omega arith)
adds_past (r ∷ ops) f g a =
    let (n, e, rest) = a in
    let h = admitted width f r n e in
    let grow : deliver_buffer width f r ≡ appended width f r = rw e in
    let ((size, past), end) = adds_past ops (appended width f r) g (rw grow at rest) in
    let first = appended_end width f r n h in
    let longer : file_end width g ≡ file_end width f + width * suc (length ops) = omega (arith, mul_step width (length ops)) in (
      (
        size ∙ appended_length width f r n h,
        past ∙ drop_past _ _ (file_end width f + width) (file_end width g) (omega arith) (appended_past width f r n h),
      ),
      longer,
    )

unchanged : (f after : List ℕ) (start : ℕ) (ops : List Op) (a : Answer) → ((n : ℕ) → a ≡ accepted n → ⊥) → after ≡ f
    → PastKept f after start ops a
unchanged f after start ops a no_end e = rw e (record {
  size = refl;
  end = λ n q. absurd (no_end n q);
  grown = λ n q. absurd (no_end n q);
  past = λ n q. refl;
  refused = λ _. refl;
})

pub calls_keep_past : CallsKeepPast
calls_keep_past f c = go (answer f c) refl
  where
    first : List ℕ
    first = (begun (lent f) c).buffer

    same_past : SamePast f first
    same_past = begun_is (λ x. SamePast f x.buffer) (lent f) c (made_past f) (refl, refl)

    go : (a : Answer) → answer f c ≡ a → PastKept f (buffer_after f c) (file_end width first) (added f c) a
    go (refused k) e = unchanged f _ _ _ _ (λ n q. let z : ◌≡◌ {A = ℕ} 0 1 = cc in omega arith) (calls_add.keeps f c (rw e))
    go had_it e = unchanged f _ _ _ _ (λ n q. let z : ◌≡◌ {A = ℕ} 0 1 = cc in omega arith) (calls_add.keeps f c (rw e))
    go waiting e = unchanged f _ _ _ _ (λ n q. let z : ◌≡◌ {A = ℕ} 0 1 = cc in omega arith) (calls_add.keeps f c (rw e))
    go done e = unchanged f _ _ _ _ (λ n q. let z : ◌≡◌ {A = ℕ} 0 1 = cc in omega arith) (calls_add.keeps f c (rw e))
    go (accepted k) e =
        let end = calls_add.ends f c k e in
        let ((size, past), longer) = adds_past (added f c) first (buffer_after f c) (calls_add.adds (lent f) c k e) in
        record {
          size = size ∙ same_past.0;
          end = λ n q. end ∙ accepted_same k n q;
          grown = λ n q. omega (arith, accepted_same k n q);
          past = λ n q. rw (← accepted_same k n q, ← end)
              (past ∙ drop_past first f (file_end width first) (file_end width (buffer_after f c)) (omega arith) same_past.1);
          refused = λ z. never z;
        }

---- the calls, and the buffer's length, settle all

size_calls : (calls : List Call) (x : Site) → length (foldl perform x calls).buffer ≡ length x.buffer
unfolding perform
size_calls [] x = refl
size_calls (c ∷ calls) x = size_calls calls (perform x c) ∙ (calls_keep_past x.buffer c).size

size_run : (f : List ℕ) (calls : List Call) → length (run f calls).buffer ≡ length f
unfolding run
size_run f calls = size_calls (make ∷ calls) (lent f)

pub held_settles : HeldSettles
held_settles f g a b lf e same c =
    let x : Site = run f a in
    let y : Site = run g b in
    let k : Kept x = kept_run f a lf in
    let m : Kept y = kept_run g b (omega arith) in
    let l : length x.buffer ≡ length y.buffer = size_run f a ∙ e ∙ sym (size_run g b) in
    let one = one_log x y k m same l in
    (reply_alike x.buffer y.buffer one c, added_alike x.buffer y.buffer one c)

pub reads_settle : ReadsSettle
reads_settle f g a b lf lg same =
    let k : Kept (run f a) = kept_run f a lf in
    let m : Kept (run g b) = kept_run g b lg in
    read_alike (run f a).buffer (run g b).buffer k.is_sound_so m.is_sound_so (same_log (run f a) (run g b) k m same)

-- two buffers of one length that hold the same ops in the same order
record Twins (x y : Site) : Type 0 where
  pub first : Kept x
  pub second : Kept y
  pub same_held : x.held ≡ y.held
  pub same_size : length x.buffer ≡ length y.buffer

module _ (x y : Site) (t : Twins x y) where
  twins_log : OneLog width x.buffer y.buffer
  twins_log = one_log x y t.first t.second (λ r. ap (λ ops. has ops r) t.same_held) t.same_size

  twins_reply : (c : Call) → reply x.buffer c ≡ reply y.buffer c
  twins_reply = reply_alike x.buffer y.buffer twins_log

  twins_answer : (c : Call) → answer x.buffer c ≡ answer y.buffer c
  unfolding reply
  twins_answer c = ap (λ (h : Reply). h.answer) (twins_reply c)

  twins_perform : (c : Call) → Twins (perform x c) (perform y c)
  unfolding perform
  twins_perform c = record {
    first = kept_perform x c t.first;
    second = kept_perform y c t.second;
    same_held = rw (
      twins_answer c,
      begun_held x y c t.same_held,
      added_alike x.buffer y.buffer twins_log c,
      t.same_held,
    );
    same_size = size_calls (c ∷ []) x ∙ t.same_size ∙ sym (size_calls (c ∷ []) y);
  }

twins_calls : (calls : List Call) (x y : Site) → Twins x y
    → (replies x calls ≡ replies y calls) × ((foldl perform x calls).held ≡ (foldl perform y calls).held)
unfolding replies
twins_calls [] x y t = (refl, t.same_held)
twins_calls (c ∷ calls) x y t =
    let rest = twins_calls calls (perform x c) (perform y c) (twins_perform x y t c) in
    (rw (twins_reply x y t c, rest.0), rest.1)

pub calls_settle : CallsSettle
unfolding run replies perform begun added reply
calls_settle f g calls lf e =
    let x : Site = perform (lent f) make in
    let y : Site = perform (lent g) make in
    let t : Twins x y = record {
      first = kept_make (lent f) lf;
      second = kept_make (lent g) (omega arith);
      same_held = made_held;
      same_size = size_calls (make ∷ []) (lent f) ∙ e ∙ sym (size_calls (make ∷ []) (lent g));
    } in
    let rest = twins_calls calls x y t in
    (rw (made_alike, rest.0), rest.1)
  where
    made_alike : reply f make ≡ reply g make
    made_alike = make_alike f g e

    made_held : (perform (lent f) make).held ≡ (perform (lent g) make).held
    made_held = ap (λ (h : Reply). if_accepted h.answer [] []) made_alike
