-- A buffer on its way to a log that its own lies within: an op of that log is delivered to it.
use mathlib.Core.Path.{◌≡◌, sym, ap, ◌∙◌}
use mathlib.Core.Bool.{true, false}
use mathlib.Core.List.{List}
use Prim.Native.Nat.{ℕ, ◌+◌, ◌≤◌, ◌<◌}
use native.Mathlib.Omega.{arith}
use borrow.Author.Tests.{leb-true, leb-false}
use lib.ListN.{length, drop}
use Rattle.lists.proofs.ListLaws.{drop_past}
use Rattle.rules.specs.Op.{Op, Vector, count_in, replica_of, seq_of}
use Rattle.rules.specs.File.{Log, counts_of, header_counts, end_of, file_end, log_of, appended, largest, Extends, Agree}
use Rattle.rules.specs.Sound.{sound}
use Rattle.rules.specs.Deliver.{is_held, deliver_answer}
use Rattle.rules.proofs.AppendLaws.{in_range, own_next, seq_positive}
use Rattle.rules.proofs.CausalLaws.{end_later, end_most}
use Rattle.rules.proofs.DeliverLaws.{Admitted, appended_log, appended_end, appended_length, appended_sound, appended_past}
use Rattle.rules.proofs.FileLaws.{WideLog, length_log_of, counts_log_of}
use Rattle.rules.proofs.InLaws.{OpIn, append_within}
use Rattle.rules.proofs.IssueLaws.{counts_eight}
use Rattle.rules.proofs.OfferLaws.{Offered, offered}
use Rattle.rules.proofs.SoundLaws.{SoundLog, sound_good}
use Rattle.rules.proofs.StructureLaws.{GoodLog}

-- the log lies within u, and past the file are the bytes of base, the buffer at first
pub record OnWay (w : ℕ) (u : Log) (base g : List ℕ) : Type 0 where
  pub is_sound_so : sound w g ≡ true
  pub inside : Extends (log_of w g) u
  pub size : length g ≡ length base
  pub past : drop (file_end w g) g ≡ drop (file_end w g) base

module _ (w : ℕ) (u : Log) (su : SoundLog u) (base : List ℕ) where
  -- a buffer for the largest file has room for u
  pub room_in_full : largest w ≤ length base → end_of w (counts_of u) ≤ length base
  room_in_full big = omega (arith, end_most w (counts_of u) (counts_eight u su.good) su.good.counts)

  module _ (g : List ℕ) (k : OnWay w u base g) (r : Op) (i : OpIn u r) where
    good : GoodLog (log_of w g)
    good = sound_good w g k.is_sound_so

    -- where there is room for u, there is for an op of it that is not held
    pub way_room : end_of w (counts_of u) ≤ length base → is_held (log_of w g) r ≡ false → file_end w g + w ≤ length g
    unfolding is_held file_end
    way_room enough e =
        let v : Vector = counts_of (log_of w g) in
        let not_here = leb-false (seq_of r) (count_in v (replica_of r)) e in
        let few : count_in v (replica_of r) < count_in (counts_of u) (replica_of r) = omega (arith, i.here) in
        let later : end_of w v + w ≤ end_of w (counts_of u) =
        end_later w v (counts_of u) (counts_eight (log_of w g) good) (counts_eight u su.good) k.inside.counts (replica_of r) i.low
        i.high few in
        let end : end_of w v ≡ end_of w (header_counts g) = ap (end_of w) (counts_log_of w g) in
        omega (arith, k.size)

    pub way_held : is_held (log_of w g) r ≡ true → OpIn (log_of w g) r
    unfolding is_held
    way_held e =
        let l : seq_of r ≤ count_in (counts_of (log_of w g)) (replica_of r) = leb-true _ _ e in
        record {
          low = i.low;
          high = i.high;
          here = l;
          there = sym (k.inside.ops (replica_of r) (seq_of r) i.low i.high (seq_positive r) l) ∙ i.there;
        }

    pub way_answer : WideLog w u → Offered w g r (deliver_answer w g r)
    way_answer wu =
        let agree : Agree u (log_of w g) = λ t q l h lq uq vq. sym (k.inside.ops t q l h lq vq) in
        rw i.there at (offered w u su wu g k.is_sound_so agree (replica_of r) (seq_of r) i.low i.high (seq_positive r) i.here)

    -- one op more
    pub way_grown : (n : ℕ) → Admitted w g r n → OnWay w u base (appended w g r)
    way_grown n h =
        let d = in_range (log_of w g) r good h.admits in
        record {
          is_sound_so = appended_sound w g r n h;
          inside = rw (appended_log w g r n h) (append_within (log_of w g) r (length_log_of w g) d.0 d.1
              (own_next (log_of w g) r good h.admits) u k.inside i);
          size = appended_length w g r n h ∙ k.size;
          past = rw (appended_end w g r n h)
              (appended_past w g r n h ∙ drop_past g base (file_end w g) (file_end w g + w) (omega arith) k.past);
        }
