-- Making a bundle, as the code meets it.
use Prim.Native.Nat.{ℕ, suc, ◌+◌, ◌*◌, ◌-◌, ◌≤◌, ◌<◌}
use borrow.Author.Rules.{rules}
use borrow.Author.Tests.{le-leb, lt-leb}
use lib.Count.{ones}
use lib.Dec.{ltb}
use lib.ListN.{length, length-append, length-drop, length-take, take, drop, drop_of_length-le, set}
use lib.Seq.{drop_at, take_all, take_at}
use native.Mathlib.Nat.{le_refl, not-suc-le-zero}
use mathlib.Core.Bool.{true, false}
use mathlib.Core.List.{List, [], ◌∷◌, ◌++◌, append-nil}
use mathlib.Core.Path.{◌≡◌, refl, sym, ap, ◌∙◌}
use native.Mathlib.Omega.{arith}
use Rattle.lists.specs.Lists.{concat, filter, sum}
use Rattle.lists.proofs.BoolLaws.{tested}
use Rattle.rules.specs.Answer.{Answer, accepted, refused, require}
use Rattle.rules.specs.Bundle.{beyond_counts, bundle_answer, bundle_call, bundle_of, head_byte, head_of, ops_beyond}
use Rattle.rules.specs.File.{header_counts, log_of, width}
use Rattle.rules.specs.Op.{Vector}
use Rattle.rules.specs.Path.{Written}
use Rattle.rules.specs.Sound.{sound}
use Rattle.rules.proofs.BundleLaws.{ones_head}
use Rattle.rules.proofs.FileLaws.{counts_log_of}
use Rattle.rules.proofs.SoundLaws.{sound_good, sound_wide}
use Rattle.order.proofs.BeyondLaws.{bundle_length}
use Rattle.bundle.specs.Bodies.{Output, WholeRoom, laid_over, output}
use Rattle.bundle_head.specs.Head.{HeadRoom, beyond_at, beyond_of}
use Rattle.bundle.specs.Making.{Fillable, bundle_size}

-- what a call hands back
abbrev handed : Answer → (out : List ℕ) → Written
handed a o = record { answer = a; out = o }

---- how long it is

pub size_is : (v : Vector) (h k n : ℕ) → h ≡ head_byte v → k ≡ 1 + ones h → n ≡ sum v → k + 14 * n ≡ bundle_size v
unfolding bundle_size
size_is v h k n hh hk hn = rw (hn, hk, hh, ones_head v)

module _ (f : List ℕ) (a : sound width f ≡ true) (counts : Vector) where
  whole_length : length (bundle_of (log_of width f) counts) ≡ bundle_size (beyond_counts (log_of width f) counts)
  unfolding bundle_size
  whole_length = bundle_length (log_of width f) (sound_good width f a) counts width (sound_wide width f a)

  module _ (held beyond : Vector) (hh : held ≡ header_counts f) (hb : beyond ≡ beyond_of held counts) where
    pub is_beyond_so : beyond ≡ beyond_counts (log_of width f) counts
    unfolding beyond_of beyond_at beyond_counts
    is_beyond_so = hb ∙ rw (hh, ← counts_log_of width f)

    module _ (size : ℕ) (hs : size ≡ bundle_size beyond) where
      is_size : size ≡ length (bundle_of (log_of width f) counts)
      is_size = hs ∙ rw is_beyond_so (sym whole_length)

      module _ (out : List ℕ) where
        pub make_short : length out < size → handed (refused 8) out ≡ bundle_call width f counts out
        unfolding bundle_call bundle_answer require
        make_short l = rw (a, ← is_size, lt-leb size (length out) l)

        module _ (l : size ≤ length out) where
          pub make_fills : Fillable f counts beyond (take size out)
          make_fills = record { is_sound_so = a; is_beyond_so = is_beyond_so; size = rw (length-take, ← is_size) (omega arith) }

          pub make_done : (lent : List ℕ) → lent ≡ bundle_of (log_of width f) counts
              → handed (accepted size) (lent ++ drop size out) ≡ bundle_call width f counts out
          unfolding bundle_call bundle_answer require
          make_done lent e = rw (a, ← is_size, le-leb size (length out) l, e)

pub make_unsound : (f : List ℕ) (counts : Vector) (out : List ℕ) → sound width f ≡ false
    → handed (refused 1) out ≡ bundle_call width f counts out
unfolding bundle_call bundle_answer require
make_unsound f counts out e = rw e

---- the head: its first byte, then the count bytes

-- a first byte over that of a list
first_set : (out rest : List ℕ) (h : ℕ) → 0 < length out → set (take 1 out ++ rest) 0 h ≡ h ∷ rest
first_set [] rest h l = absurd (not-suc-le-zero l)
first_set (x ∷ out) rest h l = refl

module _ (out : List ℕ) (beyond : Vector) (x : length (head_of beyond) ≤ length out) where
  abbrev bytes : List ℕ
  bytes = filter (ltb 0) beyond

  some_out : 0 < length out
  unfolding head_of
  some_out = omega arith

  pub head_counts : (head : ℕ) → head ≡ head_byte beyond → HeadRoom out head beyond
  unfolding head_of
  head_counts head hh = record { is_head = hh; room = omega arith }

  module _ (after : List ℕ) (e : after ≡ take 1 out ++ (bytes ++ drop (1 + length bytes) out)) where
    pub head_some : length after ≡ length out → 0 < length after
    head_some n = omega (arith, some_out)

    pub head_done : (head size : ℕ) → head ≡ head_byte beyond → size ≡ 1 + ones head
        → output (set after 0 head) size ≡ laid_over out 0 (head_of beyond)
    unfolding laid_over head_of
    head_done head size hh hs =
        let k : size ≡ 1 + length bytes = hs ∙ rw (hh, ones_head beyond) in
        let n : 0 + suc (length bytes) ≡ size = omega arith in
        rw (e, first_set out (bytes ++ drop (1 + length bytes) out) head some_out, ← k, n, hh)

---- filling it: the head, then the bodies

module _ (f : List ℕ) (counts beyond : Vector) (out : List ℕ) (x : Fillable f counts beyond out) where
  abbrev ops : List ℕ
  ops = concat (ops_beyond (log_of width f) counts)

  long : length out ≡ length (head_of beyond) + length ops
  unfolding bundle_of
  long = x.size ∙ length-append (head_of (beyond_counts (log_of width f) counts)) ops ∙ rw (← x.is_beyond_so)

  pub fill_head : length (head_of beyond) ≤ length out
  fill_head = omega (arith, long)

  module _ (headed : List ℕ) (size : ℕ) (e : output headed size ≡ laid_over out 0 (head_of beyond)) where
    size_is_head : size ≡ length (head_of beyond)
    unfolding laid_over
    size_is_head = ap (λ (o : Output). o.behind) e ∙ omega arith

    headed_is : headed ≡ head_of beyond ++ drop size out
    unfolding laid_over
    headed_is =
        let m : 0 + length (head_of beyond) ≡ size = omega (arith, size_is_head) in
        ap (λ (o : Output). o.bytes) e ∙ rw m

    pub fill_start : size ≤ length headed
    fill_start = rw (headed_is, length-append, length-drop) (omega (arith, size_is_head))

    -- the part behind the head
    rest_long : length (drop size headed) ≡ length ops
    rest_long =
        rw (headed_is, drop_at (head_of beyond) (drop size out) size (sym size_is_head), length-drop) (omega (arith, long, size_is_head))

    to_end : length headed - size ≡ length (drop size headed)
    to_end = rw length-drop

    pub fill_bodies : WholeRoom f counts (take (length headed - size) (drop size headed))
    fill_bodies = record {
      is_sound_so = x.is_sound_so;
      room = rw (to_end, take_all (length (drop size headed)) (drop size headed) (le_refl _)) (sym rest_long);
    }

    pub fill_done : (bodies : List ℕ) → bodies ≡ ops
        → take size headed ++ (bodies ++ drop (length headed - size) (drop size headed)) ≡ bundle_of (log_of width f) counts
    unfolding bundle_of
    fill_done bodies b =
        let none : drop (length (drop size headed)) (drop size headed) ≡ [] =
        drop_of_length-le (drop size headed) {i = length (drop size headed)} (le_refl _) in
        rw (to_end, none, append-nil, headed_is, take_at (head_of beyond) (drop size out) size (sym size_is_head), b, ← x.is_beyond_so)

---- what the code of making needs: search making

pub ruleset heads = (head_some, head_counts, head_done)

pub ruleset fills = (fill_head, fill_start, fill_bodies, fill_done)

pub ruleset making = (rules, tested, size_is, make_unsound, make_short, make_fills, make_done, heads, fills)
