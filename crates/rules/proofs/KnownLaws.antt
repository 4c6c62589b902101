-- Laws of known nodes: what an op names, and vectors that count more.
use Rattle.rules.proofs.CausalLaws.{Le}
use Rattle.rules.specs.File.{Log, op_at}
use Rattle.rules.specs.Op.{Op, Vector, count_in, is_add, is_remove, is_replica, kind_of, node_number, node_of, parent_of, replica_of, seq_of, vector_of, well_formed}
use Rattle.rules.proofs.SlotLaws.{Valid}
use Rattle.lists.proofs.BoolLaws.{and_both, and_left}
use Rattle.rules.specs.Log.{known_parent, names_known}
use Rattle.rules.specs.Marks.{is_known, is_marked, knowledge, known_marked, known_unmarked, marked, node_within, unknown}
use mathlib.Core.Bool.{Bool, ◌&&◌, ◌||◌, and-eq-true_iff, cond, false, true}
use Prim.Native.Nat.{◌%◌, ◌/◌, ◌≤◌, ℕ}
use mathlib.Core.Path.{◌≡◌, refl, sym, ◌∙◌}
use mathlib.Core.Logic.{◌⊎◌, inl, inr}
use native.Mathlib.Omega.{arith}
use borrow.Author.Tests.{eq-eqb, eqb-true, le-leb, leb-true, ne_eqb}
use lib.Dec.{eqb}

pub record Within (v : Vector) (n : ℕ) : Type 0 where
  pub low : 1 ≤ n / 256
  pub high : n / 256 ≤ 8
  pub first : 1 ≤ n % 256
  pub last : n % 256 ≤ count_in v (n / 256)

-- known, marked or not
abbrev pub Known : Log → Vector → ℕ → Type 0
Known log v n = is_known (knowledge log v n) ≡ true

-- known or not is asked without the marks: a look-up of one op
pub known_is : (log : Log) (v : Vector) (n : ℕ) → is_known (knowledge log v n) ≡ (node_within v n && is_add (op_at log (n / 256) (n % 256)))
unfolding is_known knowledge
known_is log v n = go (node_within v n && is_add (op_at log (n / 256) (n % 256))) (marked log v n)
  where
    go : (a m : Bool) → is_known (cond a (cond m known_marked known_unmarked) unknown) ≡ a
    go true true = refl
    go true false = refl
    go false m = refl

-- the outcome of a node that is not known, and of one that is
pub knowledge_unknown : (log : Log) (v : Vector) (n : ℕ) → is_known (knowledge log v n) ≡ false → knowledge log v n ≡ unknown
unfolding knowledge
knowledge_unknown log v n e = rw (sym (known_is log v n) ∙ e)

pub knowledge_known : (log : Log) (v : Vector) (n : ℕ) → Known log v n
    → knowledge log v n ≡ cond (marked log v n) known_marked known_unmarked
unfolding knowledge
knowledge_known log v n e = rw (sym (known_is log v n) ∙ e)

-- the third outcome: known, and marked in the cut
pub marked_is : (log : Log) (v : Vector) (n : ℕ) → is_marked (knowledge log v n) ≡ (is_known (knowledge log v n) && marked log v n)
unfolding is_marked is_known knowledge
marked_is log v n = go (node_within v n && is_add (op_at log (n / 256) (n % 256))) (marked log v n)
  where
    go : (a m : Bool) → let k = cond a (cond m known_marked known_unmarked) unknown in is_marked k ≡ (is_known k && m)
    go true true = refl
    go true false = refl
    go false m = refl

pub known_reads : (log : Log) (v : Vector) (n : ℕ) → Known log v n → Within v n × (is_add (op_at log (n / 256) (n % 256)) ≡ true)
unfolding node_within is_replica
known_reads log v n e =
    let h = simp and-eq-true_iff at (sym (known_is log v n) ∙ e) in (
      record {
        low = leb-true _ _ h.0.0.0.0;
        high = leb-true _ _ h.0.0.0.1;
        first = leb-true _ _ h.0.0.1;
        last = leb-true _
            _ h.0.1;
      },
      h.1,
    )

pub known_of : (log : Log) (v : Vector) (n : ℕ) → Within v n → is_add (op_at log (n / 256) (n % 256)) ≡ true → Known log v n
unfolding node_within is_replica
known_of log v n h a =
    known_is log v n
    ∙ and_both (and_both (and_both (and_both (le-leb 1 (n / 256) h.low) (le-leb (n / 256) 8 h.high)) (le-leb 1 (n % 256) h.first))
    (le-leb (n % 256) (count_in v (n / 256)) h.last)) a

abbrev pub Named : Log → Vector → ℕ → Type 0
Named log v n = (n ≡ 0) ⊎ Known log v n

pub parent_reads : (log : Log) (v : Vector) (n : ℕ) → known_parent log v n ≡ true → Named log v n
unfolding known_parent
parent_reads log v n = go (eqb n 0) refl
  where
    go : (b : Bool) → eqb n 0 ≡ b → (b || is_known (knowledge log v n)) ≡ true → Named log v n
    go true e h = inl (eqb-true n 0 e)
    go false e h = inr h

pub named_valid : (log : Log) (v : Vector) (n : ℕ) → Named log v n → Valid n
named_valid log v n (inl e) = inl e
named_valid log v n (inr e) = let h = (known_reads log v n e).0 in inr (h.low, h.high, h.first)

pub known_later : (log : Log) (v u : Vector) → Le v u → (n : ℕ) → Known log v n → Known log u n
known_later log v u le n e =
    let (h, a) = known_reads log v n e in
    known_of log u n (record {
      low = h.low;
      high = h.high;
      first = h.first;
      last = omega (
        arith,
        h.last,
        le (n / 256) h.low
            h.high,
      );
    }) a

pub named_later : (log : Log) (v u : Vector) → Le v u → (n : ℕ) → Named log v n → Named log u n
named_later log v u le n (inl e) = inl e
named_later log v u le n (inr e) = inr (known_later log v u le n e)

pub names_add : (log : Log) (r : Op) → names_known log r ≡ true → kind_of r ≡ 1
    → Named log (vector_of r) (parent_of r) × (node_of r ≡ node_number (replica_of r) (seq_of r))
unfolding names_known is_add
names_add log r e k =
    let h = simp and-eq-true_iff at (rw (eq-eqb (kind_of r) 1 k) at e) in
    (parent_reads log (vector_of r) (parent_of r) h.0, eqb-true _ _ h.1)

pub names_node : (log : Log) (r : Op) → names_known log r ≡ true → (kind_of r ≡ 1 → ⊥) → Known log (vector_of r) (node_of r)
unfolding names_known is_add
names_node log r e k =
    and_left (is_known (knowledge log (vector_of r) (node_of r))) _ (rw (ne_eqb (kind_of r) 1 k) at e)

pub names_move : (log : Log) (r : Op) → names_known log r ≡ true → (kind_of r ≡ 1 → ⊥) → (kind_of r ≡ 2 → ⊥)
    → Named log (vector_of r) (parent_of r)
unfolding names_known is_add is_remove
names_move log r e k k' =
    let h = simp and-eq-true_iff at (rw (ne_eqb (kind_of r) 1 k, ne_eqb (kind_of r) 2 k') at e) in
    parent_reads log (vector_of r) (parent_of r) h.1.0

-- the kind of a well-formed op
pub kinds : (r : Op) → well_formed r ≡ true → (1 ≤ kind_of r) × (kind_of r ≤ 4)
unfolding well_formed
kinds r e = let h = simp and-eq-true_iff at e in (leb-true _ _ h.0.0.1.0, leb-true _ _ h.0.0.1.1)
