-- Offered ops, and no two rivals among them: two logs that such ops have brought about, and that admit none of them any more, are one log.
use mathlib.Core.Path.{◌≡◌, refl, sym, ◌∙◌}
use mathlib.Core.Bool.{true}
use mathlib.Core.List.{List}
use Prim.Native.Nat.{ℕ, suc, ◌+◌, ◌-◌, ◌≤◌}
use native.Mathlib.Nat.{le_refl}
use native.Mathlib.Omega.{arith}
use native.Mathlib.Decide.{dec_le}
use borrow.Author.Tests.{leb-true, eq-eqb, eqb-true}
use lib.Dec.{eqb}
use lib.ListN.{length}
use Rattle.lists.proofs.BoolLaws.{fails, and_both, and_left, and_right}
use Rattle.rules.specs.Answer.{accepted}
use Rattle.rules.specs.Op.{Op, count_in, replica_of, seq_of, vector_of, well_formed}
use Rattle.rules.specs.File.{Log, Agree, ops_of, op_at, counts_of, file_end, log_of}
use Rattle.rules.specs.Log.{covered}
use Rattle.rules.specs.Deliver.{is_held, deliver_answer}
use Rattle.rules.specs.Sound.{sound}
use Rattle.rules.proofs.AppendLaws.{Admits, SameWithin, closed_more, names_more}
use Rattle.rules.proofs.CausalLaws.{Missing, total, some_ready}
use Rattle.rules.proofs.DeliverLaws.{delivered}
use Rattle.rules.proofs.FileLaws.{wide_at, wide_op}
use Rattle.rules.proofs.SoundLaws.{sound_good, sound_wide}
use Rattle.rules.proofs.StructureLaws.{GoodLog, good_ops, held_in, count_held}
use Rattle.rules.proofs.UnionLaws.{extends_equal}
use Rattle.convergence.specs.Exchange.{has}
use Rattle.convergence.specs.Holding.{reads, NoRivals}
use Rattle.convergence.proofs.GrownLaws.{Grown}

---- bytes that read

module _ (w : ℕ) (r : Op) where
  pub reads_of : length r ≡ w → well_formed r ≡ true → reads w r ≡ true
  unfolding reads
  reads_of l m = and_both (eq-eqb _ _ l) m

  pub reads_long : reads w r ≡ true → length r ≡ w
  unfolding reads
  reads_long e = eqb-true _ _ (and_left (eqb (length r) w) (well_formed r) e)

  pub reads_formed : reads w r ≡ true → well_formed r ≡ true
  unfolding reads
  reads_formed e = and_right (eqb (length r) w) (well_formed r) e

---- one end

module _ (w : ℕ) (f : List ℕ) (rs : List (List ℕ)) where
  -- a buffer that offered ops have brought about
  abbrev pub Reached : List ℕ → Type 0
  Reached g = Grown (λ r. has rs r ≡ true) w f g

  -- no offered op is admitted
  abbrev pub Ended : List ℕ → Type 0
  Ended g = (r : Op) → has rs r ≡ true → reads w r ≡ true → Admits (log_of w g) r → ⊥

  held_reads : (g : List ℕ) → sound w g ≡ true → (s q : ℕ) → 1 ≤ s → s ≤ 8 → 1 ≤ q → q ≤ count_in (counts_of (log_of w g)) s
      → reads w (op_at (log_of w g) s q) ≡ true
  unfolding op_at ops_of
  held_reads g e s q l u lq uq =
      let ops : List Op = ops_of (log_of w g) s in
      let long = wide_op w ops (q - 1) (wide_at w (log_of w g) (s - 1) (sound_wide w g e)) (omega (arith, count_held (log_of w g) s)) in
      reads_of w _ long (good_ops (sound_good w g e) s q l u lq uq).formed

  module _ (rivals : NoRivals w rs) where
    agree : (a b : List ℕ) → Reached a → Reached b → Agree (log_of w a) (log_of w b)
    agree a b x y s q l u lq ua ub = elim (dec_le q (count_in (counts_of (log_of w f)) s)) [
      | yes h ↦ y.more.ops s q l u lq h ∙ sym (x.more.ops s q l u lq h)
      | no h ↦
          let i = good_ops (sound_good w a x.is_sound_so) s q l u lq ua in
          let j = good_ops (sound_good w b y.is_sound_so) s q l u lq ub in
          rivals _ _ (y.beyond s q l u (omega arith) ub) (x.beyond s q l u (omega arith) ua)
          (held_reads b y.is_sound_so s q l u lq ub) (held_reads a x.is_sound_so s q l u lq ua)
          (j.origin ∙ sym i.origin) (j.number ∙ sym i.number)
    ]

    -- what one has, an ended one has too
    module _ (a b : List ℕ) (x : Reached a) (y : Reached b) (over : Ended b) where
      abbrev A : Log
      A = log_of w a

      abbrev B : Log
      B = log_of w b

      ga : GoodLog A
      ga = sound_good w a x.is_sound_so

      -- an op of a that b lacks, and that is not early there, would be admitted
      refuse : (t k : ℕ) → Missing A B t k → covered B (vector_of (op_at A t k)) ≡ true → ⊥
      unfolding is_held
      refuse t k m c =
          let r : Op = op_at A t k in
          let i = good_ops ga t k m.low m.high m.first m.here in
          let sw : SameWithin A B (vector_of r) =
          λ z j lz uz lj uj. agree a b x y z j lz uz lj (omega (arith, held_in A (vector_of r) i.is_covered z lz uz))
          (omega (arith, held_in B (vector_of r) c z lz uz)) in
          let offered = x.beyond t k m.low m.high (omega (arith, y.more.counts t m.low m.high, m.not_there)) m.here in
          over r offered (held_reads a x.is_sound_so t k m.low m.high m.first m.here) (record {
            formed = i.formed;
            new = fails _ (λ e.
                let z : k ≤ count_in (counts_of B) t = rw (i.origin, i.number) at
                (leb-true (seq_of r) (count_in (counts_of B) (replica_of r)) e) in
                omega (arith, m.not_there));
            is_covered = c;
            is_closed = closed_more A B (vector_of r) sw ∙ i.is_closed;
            names = names_more A B r sw ∙ i.names;
          })

      counts_le : (s : ℕ) → 1 ≤ s → s ≤ 8 → count_in (counts_of A) s ≤ count_in (counts_of B) s
      counts_le s l u = elim (dec_le (count_in (counts_of A) s) (count_in (counts_of B) s)) [
        | yes h ↦ h
        | no h ↦
            let q : ℕ = count_in (counts_of A) s in
            let missing : Missing A B s q =
            record { low = l; high = u; first = omega arith; here = le_refl _; not_there = omega arith } in
            let (t, k, m, c) = some_ready A B (good_ops ga) (suc (total (vector_of (op_at A s q)))) s q missing (omega arith) in
            absurd (refuse t k m c)
      ]

    pub one_log : (a b : List ℕ) → Reached a → Reached b → Ended a → Ended b → log_of w a ≡ log_of w b
    one_log a b x y p q =
        extends_equal (log_of w a) (log_of w b) (sound_good w a x.is_sound_so).eight (sound_good w b y.is_sound_so).eight
        (record {
          counts = counts_le a b x y q;
          ops = λ s k l u lk uk. agree a b x y s k l u lk uk (omega (arith, counts_le a b x y q s l u));
        })
        (counts_le b a y x p)

-- where there is room, an op that is not accepted is not admitted
pub not_admitted : (w : ℕ) (g : List ℕ) (r : Op) → sound w g ≡ true → (Admits (log_of w g) r → file_end w g + w ≤ length g)
    → reads w r ≡ true → ((n : ℕ) → deliver_answer w g r ≡ accepted n → ⊥) → Admits (log_of w g) r → ⊥
not_admitted w g r s room e no_way a =
    no_way (file_end w g + w) (delivered w g r (file_end w g + w) (record {
      is_sound_so = s;
      long = reads_long w r e;
      admits = a;
      room = room a;
      end = refl;
    }))
