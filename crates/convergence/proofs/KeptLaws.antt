-- After every list of calls the buffer is the file of the held ops and a rest.
use mathlib.Core.Path.{◌≡◌, refl}
use mathlib.Core.Bool.{true, false}
use mathlib.Core.List.{List, [], ◌∷◌, ◌++◌, foldl, append_assoc, append-nil}
use Prim.Native.Nat.{ℕ, ◌≤◌, ◌<◌}
use native.Mathlib.Omega.{arith}
use borrow.Author.Tests.{leb-false, le-leb}
use lib.ListN.{length, drop}
use lib.Seq.{drop_at}
use lib.Dec.{lit≤}
use Rattle.rules.specs.Op.{Op, count_in, replica_of, seq_of}
use Rattle.rules.specs.File.{Log, counts_of, file_end, log_of, file_of, empty_log, appended, width}
use Rattle.rules.specs.Deliver.{make_answer, make_buffer, is_held, deliver_buffer}
use Rattle.convergence.specs.Exchange.{Call, make, Site, answer, buffer_after, begun, added, Adds, perform, run, standing, has, times, arrange, filed, file_in}
use Rattle.lists.specs.Lists.{any, filter}
use Rattle.rules.specs.Sound.{sound}
use Rattle.rules.specs.Answer.{Answer, refused, had_it, accepted, require, if_accepted, waiting, done}
use Rattle.lists.proofs.BoolLaws.{never, fails}
use Rattle.rules.proofs.ReplicaLaws.{replica_cases}
use Rattle.rules.proofs.DeliverLaws.{Admitted, admitted, appended_log, appended_sound, appended_front}
use Rattle.convergence.proofs.CallLaws.{calls_add, begun_is}
use Rattle.rules.proofs.AppendLaws.{in_range, own_next, seq_positive}
use Rattle.rules.proofs.FileLaws.{InFront, length_front, front_reads, length_log_of, length_file, WideLog, log_of_file_of, file_end_law}
use Rattle.rules.proofs.StructureLaws.{GoodLog, HeldOps, good_ops}
use Rattle.rules.proofs.SoundLaws.{sound_good, sound_laid, wide_empty, sound_file, sound_wide, SoundLog, sound_empty, sound_log}
use Rattle.convergence.proofs.HasLaws.{once_last}
use Rattle.convergence.proofs.TrackLaws.{Tracks, tracks_append, arrange_log}

abbrev pub log_in : Site → Log
log_in x = log_of width x.buffer

pub record Kept (x : Site) : Type 0 where
  pub is_sound_so : sound width x.buffer ≡ true
  pub front : InFront width x.buffer
  pub tracks : Tracks (log_in x) x.held
  pub once : (r : Op) → times x.held r ≤ 1

-- what a kept site says of its log
pub kept_good : (x : Site) → Kept x → GoodLog (log_in x)
kept_good x k = sound_good width x.buffer k.is_sound_so

pub kept_sound : (x : Site) → Kept x → SoundLog (log_in x)
kept_sound x k = sound_log width x.buffer k.is_sound_so

pub kept_wide : (x : Site) → Kept x → WideLog width (log_in x)
kept_wide x k = sound_wide width x.buffer k.is_sound_so

pub kept_ops : (x : Site) → Kept x → HeldOps (log_in x)
kept_ops x k = good_ops (kept_good x k)

pub kept_arrange : (x : Site) → Kept x → arrange x.held ≡ log_in x
kept_arrange x k =
    arrange_log (log_in x) x.held k.tracks (kept_ops x k) (kept_good x k).eight (kept_good x k).counts

pub kept_end : (x : Site) → Kept x → length (file_of width (log_in x)) ≡ file_end width x.buffer
kept_end x k = length_front width x.buffer (sound_laid width x.buffer k.is_sound_so).fits

pub kept_front : (x : Site) → Kept x → file_in x ≡ file_of width (log_in x)
unfolding file_in
kept_front x k = front_reads width x.buffer (sound_laid width x.buffer k.is_sound_so).fits k.front

-- a file in front of a rest
kept_file : (log : Log) (rest : List ℕ) (ops : List Op) → SoundLog log → WideLog width log → Tracks log ops
    → ((r : Op) → times ops r ≤ 1) → Kept (record { buffer = file_of width log ++ rest; held = ops })
kept_file log rest ops g w t o = record {
  is_sound_so = sound_file width log rest g w;
  front = rw (
    log_of_file_of width log rest g.good.eight w,
    file_end_law width log rest g.good.eight,
    drop_at (file_of width log) rest _
        (length_file width log w),
  );
  tracks = rw (log_of_file_of width log rest g.good.eight w) t;
  once = o;
}

---- an accepted op

module _ (x : Site) (r : Op) (n : ℕ) (k : Kept x) (h : Admitted width x.buffer r n) where
  abbrev grown : Site
  grown = record { buffer = appended width x.buffer r; held = x.held ++ (r ∷ []) }

  pub grown_new : has x.held r ≡ false
  unfolding Rattle.rules.specs.Deliver.is_held
  grown_new = fails _ (λ e. let i = k.tracks.inside r e in let z : count_in (counts_of (log_in x)) (replica_of r) < seq_of r = leb-false _ _
      h.admits.new in omega (arith, i.here))

  pub kept_grown : Kept grown
  kept_grown =
      let i = in_range (log_in x) r (kept_good x k) h.admits in
      record {
        is_sound_so = appended_sound width x.buffer r n h;
        front = appended_front width x.buffer r n h;
        tracks = rw (appended_log width x.buffer r n h) (tracks_append (log_in x) r (length_log_of width x.buffer) i.0 i.1
            (own_next (log_in x) r (kept_good x k) h.admits) x.held k.tracks);
        once = λ y. once_last x.held r y (k.once y) grown_new;
      }

---- a call

empty_count : (s : ℕ) → 1 ≤ s → s ≤ 8 → count_in (counts_of empty_log) s ≡ 0
unfolding empty_log counts_of count_in
empty_count = replica_cases (λ s. count_in (counts_of empty_log) s ≡ 0) refl refl refl refl refl refl refl refl

empty_tracks : Tracks empty_log []
unfolding has any
empty_tracks = record {
  inside = λ r e. never e;
  outside = λ r i. absurd (omega (arith, i.here, empty_count (replica_of r) i.low i.high, seq_positive r));
}

empty_once : (r : Op) → times [] r ≤ 1
unfolding times filter
empty_once r = lit≤ tt

kept_begun_make : (x : Site) → 32 ≤ length x.buffer → Kept (begun x make)
unfolding begun make_buffer make_answer require
kept_begun_make x h = rw (le-leb 32 (length x.buffer) h) (kept_file empty_log (drop 32 x.buffer) [] sound_empty (wide_empty width)
    empty_tracks empty_once)

-- a first making, in any buffer that is long enough
pub kept_make : (x : Site) → 32 ≤ length x.buffer → Kept (perform x make)
unfolding perform buffer_after answer begun added make_buffer make_answer require
kept_make x h = rw (le-leb 32 (length x.buffer) h) (rw (le-leb 32 (length x.buffer) h) at (kept_begun_make x h))

-- ops delivered in turn
kept_adds : (ops : List Op) (x : Site) (g : List ℕ) → Kept x → Adds x.buffer ops g → Kept (record { buffer = g; held = x.held ++ ops })
unfolding deliver_buffer
kept_adds [] x g k e = rw (e, append-nil) k
kept_adds (r ∷ ops) x g k a =
    let (n, e, rest) = a in
    let h = admitted width x.buffer r n e in
    let grow : deliver_buffer width x.buffer r ≡ appended width x.buffer r = rw e in
    rw (← append_assoc x.held (r ∷ []) ops) (kept_adds ops (grown x r n k h) g (kept_grown x r n k h) (rw grow at rest))

pub kept_perform : (x : Site) (c : Call) → Kept x → Kept (perform x c)
unfolding perform
kept_perform x c k = go (answer x.buffer c) refl
  where
    first : Kept (begun x c)
    first = begun_is Kept x c (kept_begun_make x (sound_laid width x.buffer k.is_sound_so).header) k

    unchanged : if_accepted (answer x.buffer c) true false ≡ false → Kept (record { buffer = buffer_after x.buffer c; held = x.held })
    unchanged e = rw (calls_add.keeps x.buffer c e) k

    go : (a : Answer) → answer x.buffer c ≡ a
        → Kept (record { buffer = buffer_after x.buffer c; held = if_accepted a ((begun x c).held ++ added x.buffer c) x.held })
    go (refused n) e = unchanged (rw e)
    go had_it e = unchanged (rw e)
    go waiting e = unchanged (rw e)
    go done e = unchanged (rw e)
    go (accepted n) e =
        kept_adds (added x.buffer c) (begun x c) (buffer_after x.buffer c) first (calls_add.adds x c n e)

-- after every list of calls
kept_calls : (calls : List Call) (x : Site) → Kept x → Kept (foldl perform x calls)
kept_calls [] x k = k
kept_calls (c ∷ calls) x k = kept_calls calls (perform x c) (kept_perform x c k)

pub kept_run : (f : List ℕ) (calls : List Call) → 32 ≤ length f → Kept (run f calls)
unfolding run
kept_run f calls h = kept_calls calls (perform (record { buffer = f; held = [] }) make) (kept_make (record { buffer = f; held = [] }) h)

-- the file in another buffer
pub kept_standing : (x : Site) (rest : List ℕ) → Kept x → Kept (standing x rest)
unfolding standing
kept_standing x rest k =
    let g = kept_sound x k in
    rw (kept_front x k) (kept_file (log_in x) rest x.held g (kept_wide x k) k.tracks k.once)

pub kept_filed : (x : Site) → Kept x → x.buffer ≡ filed x.held x.buffer
unfolding filed
kept_filed x k = rw (kept_arrange x k, kept_end x k) k.front
