-- The cases of the path call, as the code meets them.
use Prim.Native.Nat.{◌+◌, ◌<◌, ℕ, ◌≤◌}
use borrow.Author.Rules.{rules}
use lib.ListN.{get_or, length, length-set, set}
use mathlib.Core.Bool.{false, true}
use mathlib.Core.List.{List}
use mathlib.Core.Path.{ap, refl, sym, ◌∙◌, ◌≡◌}
use native.Mathlib.Omega.{arith}
use Rattle.rules.proofs.KnownLaws.{parent_reads}
use Rattle.soundness.proofs.SoundCases.{tallied_held, tallied}
use Rattle.lists.proofs.BoolLaws.{tested}
use Rattle.rules.proofs.FileLaws.{counts_log_of}
use Rattle.rules.proofs.SoundLaws.{sound_good, sound_structural}
use Rattle.rules.specs.Answer.{Answer, accepted, refused, require}
use Rattle.rules.specs.File.{header_counts, log_of, width}
use Rattle.rules.specs.Log.{known_parent}
use Rattle.rules.specs.Op.{Vector}
use Rattle.rules.specs.Path.{Written, path_answer, path_call, path_of}
use Rattle.rules.specs.Replay.{parents_of}
use Rattle.rules.specs.Sound.{sound}
use Rattle.rules.specs.Tree.{depth, parent_in, path, slot_of, slots}
use Rattle.oplog.proofs.InsertLaws.{front, front_step}
use Rattle.tree.proofs.ClimbLaws.{parent_read}
use Rattle.view.proofs.PathLaws.{way_of, written_all}
use Rattle.view.proofs.PutCases.{put_all, put_short}
use Rattle.view.specs.Answers.{put_answer, put_in}
use Rattle.view.specs.Asked.{Present, Way, WayOut}
use Rattle.view.specs.Tables.{put_front}

---- by a table of parents

module _ (t : List ℕ) (n steps : ℕ) (is : steps ≡ depth t n) (w : Way t n (depth t n)) where
  steps_way : Way t n steps
  steps_way = rw is w

  entries : steps + 1 ≡ length (path t n)
  entries = sym steps_way.long

  module _ (out : List ℕ) where
    pub path_asks : steps < length out → WayOut t n steps out
    path_asks h = record { way = steps_way; room = h }

    pub path_short : length out ≤ steps → ◌≡◌ {A = Written} (record { answer = refused 8; out = out }) (put_in (path t n) out)
    path_short h = put_short (path t n) out (steps + 1) entries (omega arith)

    pub path_put :
        steps < length out → (o : List ℕ) → o ≡ put_front (path t n) out →
        ◌≡◌ {A = Written} (record { answer = accepted (steps + 1); out = o }) (put_in (path t n) out)
    path_put h o e = put_all (path t n) out (steps + 1) entries (omega arith) o e

---- by the file

-- t is the present tree
pub way_now : (f : List ℕ) (n : ℕ) → Present f n → (t : List ℕ) → t ≡ parents_of (log_of width f) → Way t n (depth t n)
way_now f n p t is =
    rw is (way_of (log_of width f) (sound_good width f p.is_sound_so) n (parent_reads _ _ n p.is_known))

module _ (f out : List ℕ) (n : ℕ) where
  abbrev kept : Answer → Written
  kept a = record { answer = a; out = out }

  pub path_unsound : sound width f ≡ false → kept (refused 1) ≡ path_call width f n out
  unfolding path_call path_answer require
  path_unsound e = rw e

  -- u are the held counts
  module _ (a : sound width f ≡ true) (u : Vector) (is : u ≡ header_counts f) where
    pub path_unknown : known_parent (log_of width f) u n ≡ false → kept (refused 7) ≡ path_call width f n out
    unfolding path_call path_answer require
    path_unknown e = rw (a, counts_log_of width f, ← is, e)

    pub present : known_parent (log_of width f) u n ≡ true → Present f n
    present e = record { is_sound_so = a; is_known = rw (counts_log_of width f, ← is) e }

  pub path_now :
      Present f n → (t : List ℕ) → t ≡ parents_of (log_of width f) →
      (x : Written) → x ≡ put_in (path t n) out → x ≡ path_call width f n out
  unfolding path_call path_answer path_of put_in put_answer require
  path_now p t is x e = e ∙ rw (is, p.is_sound_so, p.is_known)

---- the first i entries, written; the next is `at`

pub record Pathing (t : List ℕ) (n steps : ℕ) (out₀ out : List ℕ) (at i : ℕ) : Type 0 where
  pub asked : WayOut t n steps out₀
  pub some : i ≤ steps
  pub node : at ≡ get_or (path t n) i 0
  pub same : length out ≡ length out₀
  pub text : out ≡ front (path t n) out₀ i

pub writing_starts : (t : List ℕ) (n steps : ℕ) (out : List ℕ) → WayOut t n steps out → Pathing t n steps out out n 0
writing_starts t n steps out a = record { asked = a; some = omega arith; node = sym a.way.first; same = refl; text = refl }

module _ (t : List ℕ) (n steps : ℕ) (out₀ out : List ℕ) (at i : ℕ) (w : Pathing t n steps out₀ out at i) where
  -- k is the slot of the node
  module _ (h : i < steps) (k : ℕ) (is : k ≡ slot_of at) where
    inside : slot_of at < slots
    inside = rw w.node (w.asked.way.inside i h)

    pub writing_inside : k < length t
    writing_inside = let b = inside in omega (arith, is, w.asked.way.size)

    pub writing_on : Pathing t n steps out₀ (set out i at) (get_or t k 0) (i + 1)
    writing_on =
        let long : i < length (path t n) = omega (arith, w.asked.way.long) in
        let room : length (path t n) ≤ length out₀ = omega (arith, w.asked.way.long, w.asked.room) in
        let above = w.asked.way.above i h in
        record {
          asked = w.asked;
          some = omega arith;
          node = sym (parent_read t at k is w.asked.way.size inside) ∙ ap (parent_in t) w.node ∙ above;
          same = length-set out i at ∙ w.same;
          text = rw w.node (ap (λ (x : List ℕ). set x i (get_or (path t n) i 0)) w.text ∙ front_step (path t n) out₀ i long room);
        }

  pub writing_ends : steps ≤ i → set out steps at ≡ put_front (path t n) out₀
  unfolding put_front
  writing_ends h =
      let e : i ≡ steps = omega (arith, w.some) in
      written_all (path t n) out₀ out i steps at e w.asked.way.long w.asked.room w.node w.text
      ∙ rw (← w.asked.way.long)

---- what the code of paths needs: search paths
pub ruleset writing = (writing_starts, writing_inside, writing_on, writing_ends)

pub ruleset asking = (sound_structural, tallied, tallied_held, path_asks, present, way_now)

pub ruleset paths = (rules, tested, writing, asking, path_short, path_put, path_unsound, path_unknown, path_now)
