-- What the held counts know of a node, as the code meets it.
use Prim.Native.Nat.{ℕ}
use borrow.Author.Rules.{rules}
use borrow.Author.Tests.{eq-eqb, ne_eqb}
use lib.Dec.{eqb}
use lib.ListN.{get_or, length}
use mathlib.Core.Bool.{false, not}
use mathlib.Core.List.{List}
use mathlib.Core.Logic.{inr}
use mathlib.Core.Path.{ap, sym, ◌∙◌, ◌≡◌}
use Rattle.lists.proofs.BoolLaws.{tested}
use Rattle.rules.specs.File.{Log, log_of, width}
use Rattle.rules.specs.Marks.{is_known, knowledge, known_marked, known_unmarked, marked, unknown}
use Rattle.rules.specs.Op.{Vector}
use Rattle.rules.specs.Tree.{slots}
use Rattle.rules.proofs.KnownLaws.{Known, knowledge_known, knowledge_unknown, named_valid}
use Rattle.rules.proofs.SoundLaws.{sound_good}
use Rattle.soundness.proofs.SoundCases.{tallied_held}
use Rattle.tree.specs.Slots.{slot_in}
use Rattle.marks.specs.Knowing.{MarkedLog}
use Rattle.marks.proofs.MarkLaws.{marks_long, marks_say}

module _ (f : List ℕ) (u : Vector) (t : List ℕ) (a : MarkedLog f u t) where
  abbrev log : Log
  log = log_of width f

  pub table_long : length t ≡ slots
  table_long = ap length a.marks_are ∙ marks_long log

  module _ (n : ℕ) where
    pub not_known : is_known (knowledge log u n) ≡ false → unknown ≡ knowledge log u n
    not_known e = sym (knowledge_unknown log u n e)

    -- k is the slot of the node
    module _ (e : Known log u n) (k : ℕ) (is : k ≡ slot_in n) where
      mark_at : marked log u n ≡ not (eqb (get_or t k 0) 0)
      mark_at =
          let good = sound_good width f a.tallied.is_sound_so in
          rw (a.marks_are, is, a.tallied.counts) (sym (marks_say log good n (named_valid log u n (inr e))))

      pub no_mark : get_or t k 0 ≡ 0 → known_unmarked ≡ knowledge log u n
      no_mark z = rw (knowledge_known log u n e, mark_at, eq-eqb _ 0 z)

      pub some_mark : (get_or t k 0 ≡ 0 → ⊥) → known_marked ≡ knowledge log u n
      some_mark z = rw (knowledge_known log u n e, mark_at, ne_eqb _ 0 z)

---- what the code of knowing needs: search knowing
pub ruleset knowing = (rules, tested, tallied_held, table_long, not_known, no_mark, some_mark)
