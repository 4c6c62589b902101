-- The cases of the op reader.
use lib.Seq.{get_or-take, get_or-drop}
use mathlib.Core.Path.{◌≡◌, refl, ap, sym, ◌∙◌}
use mathlib.Core.Bool.{Bool, true, false, cond, ◌&&◌, ◌||◌, not}
use mathlib.Core.List.{List}
use Prim.Native.Nat.{ℕ, ◌+◌, ◌-◌, ◌≤◌, ◌<◌}
use native.Mathlib.Omega.{arith}
use lib.ListN.{length, get_or}
use lib.Dec.{leb, ltb, eqb}
use borrow.Author.Tests.{eqb-true, lt-ltb, le-ltb, eq-eqb, ne_eqb, not-false, not-true}
use Rattle.rules.specs.Op.{is_replica, own_count, replica_of, well_formed, count_in, is_remove, kind_of, vector_of, parent_of, node_of, seq_of}
use Rattle.rules.specs.Bytes.{byte}
use Rattle.rules.proofs.ReplicaLaws.{replica_low, replica_high}
use Rattle.codec.specs.Asked.{kind_fits, Origin}
use Rattle.codec.specs.Read.{fields_of, read_of}
use Rattle.codec.specs.declared.op.Fields.{Fields}
use Rattle.std.specs.Prelude.{Ok, Err}
use Rattle.codec.specs.declared.answer.Refusal.TheVariants.{Length, Malformed}
use borrow.Author.Rules.{rules}

-- the own count is the byte after the replicas below
own_byte : (b : List ℕ) → 1 ≤ replica_of b → replica_of b ≤ 8 → own_count b ≡ byte b (5 + replica_of b)
unfolding own_count count_in vector_of
own_byte b l u =
    let h : replica_of b - 1 < 8 = omega arith in
    rw (get_or-take, get_or-drop) (ap (byte b) (omega arith))

regroup : (a b c d : Bool) → (a && b && c && d) ≡ (a && c && (b && d))
regroup true true c d = refl
regroup true false true d = refl
regroup true false false d = refl
regroup false b c d = refl

-- the test of form, in the order in which the reader makes it
formed_is : (b : List ℕ) → well_formed b ≡ (is_replica (replica_of b) && ltb (own_count b) 255 && kind_fits (kind_of b) (parent_of b))
unfolding well_formed is_remove
formed_is b = regroup (is_replica (replica_of b)) (leb 1 (kind_of b) && leb (kind_of b) 4) (ltb (own_count b) 255)
    (not (eqb (kind_of b) 2) || eqb (parent_of b) 0)

-- one law for each return of the reader, as the code has its facts
module _ (w : ℕ) (b : List ℕ) where
  pub read_length : (length b ≡ w → ⊥) → Err Length ≡ read_of w b
  unfolding read_of
  read_length e = rw (ne_eqb (length b) w e)

  module _ (e : length b ≡ w) (s : ℕ) (is : s ≡ replica_of b) where
    pub read_foreign : (r : Bool) → r ≡ is_replica s → not r ≡ true → Err Malformed ≡ read_of w b
    unfolding read_of
    read_foreign r by z = rw (eq-eqb (length b) w e, formed_is b, ← is, ← by, not-true r z)

    module _ (r : Bool) (by_replica : r ≡ is_replica s) (z_replica : not r ≡ false) where
      its : is_replica s ≡ true
      its = sym by_replica ∙ not-false r z_replica

      pub origin : 14 ≤ w → Origin b s
      origin h = record { long = omega arith; is_origin = is; low = replica_low s its; high = replica_high s its }

      module _ (own : ℕ) (is_own : own ≡ own_count b) where
        pub read_own : 254 < own → Err Malformed ≡ read_of w b
        unfolding read_of
        read_own h = rw (eq-eqb (length b) w e, formed_is b, ← is, its, ← is_own, le-ltb own 255 (omega arith))

        module _ (h : own ≤ 254) (k p : ℕ) (is_kind : k ≡ kind_of b) (is_parent : p ≡ parent_of b) (fits : Bool) (by : fits ≡ kind_fits k p)
          where
            formed : well_formed b ≡ fits
            formed = rw (formed_is b, ← is, its, ← is_own, lt-ltb own 255 (omega arith), ← is_kind, ← is_parent) (sym by)

            pub read_kind : not fits ≡ true → Err Malformed ≡ read_of w b
            unfolding read_of
            read_kind z = rw (eq-eqb (length b) w e, formed, not-true fits z)

            pub read_all : not fits ≡ false → (n : ℕ) → n ≡ node_of b
                → Ok (record { kind = k; replica = s; sequence = own + 1; node = n; parent = p }) ≡ read_of w b
            unfolding read_of seq_of
            read_all z n is_node = rw (eq-eqb (length b) w e, formed, not-false fits z, is, is_own, is_kind, is_parent, is_node)

pub own_is : (b : List ℕ) (s : ℕ) → Origin b s → (t : ℕ) → t ≡ s → get_or b (5 + t) 0 ≡ own_count b
own_is b s o t e = rw (e, o.is_origin) (sym (own_byte b (omega (arith, o.low, o.is_origin)) (omega (arith, o.high, o.is_origin))))

pub ruleset reading = (rules, read_length, read_foreign, origin, read_own, read_kind, read_all, own_is)

-- what an op that reads says
pub record Reads (w : ℕ) (b : List ℕ) (x : Fields) : Type 0 where
  pub long : length b ≡ w
  pub formed : well_formed b ≡ true
  pub fields : fields_of b ≡ x

pub reads : (w : ℕ) (b : List ℕ) (x : Fields) → read_of w b ≡ Ok x → Reads w b x
unfolding read_of
reads w b x = go (eqb (length b) w) refl (well_formed b) refl
  where
    go : (a : Bool) → eqb (length b) w ≡ a → (c : Bool) → well_formed b ≡ c
        → cond a (cond c (Ok (fields_of b)) (Err Malformed)) (Err Length) ≡ Ok x → Reads w b x
    go true ea true ec e = record { long = eqb-true _ _ ea; formed = ec; fields = cc }
    go true ea false ec e = let z : ◌≡◌ {A = ℕ} 0 1 = cc in absurd (omega arith)
    go false ea c ec e = let z : ◌≡◌ {A = ℕ} 0 1 = cc in absurd (omega arith)
