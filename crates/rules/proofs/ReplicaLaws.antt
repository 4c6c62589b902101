-- Laws of the eight replicas.
use lib.Dec.{leb}
use Rattle.rules.specs.Op.{is_replica, replicas}
use mathlib.Core.Path.{◌≡◌, refl}
use mathlib.Core.Bool.{Bool, true, false, ◌&&◌}
use mathlib.Core.List.{map}
use Prim.Native.Nat.{ℕ, zero, suc, ◌+◌, ◌≤◌, ◌<◌, ◌-◌}
use native.Mathlib.Omega.{arith}
use native.Mathlib.Numerals.{add-one}
use Rattle.lists.specs.Lists.{up_from, all}
use Rattle.lists.proofs.RangeLaws.{all_alike_from, all_from, fails_from, map_up_from}
use Rattle.lists.proofs.BoolLaws.{and_both, and_left, and_right}
use borrow.Author.Tests.{le-leb, leb-true}

pub replica_low : (s : ℕ) → is_replica s ≡ true → 1 ≤ s
unfolding is_replica
replica_low s e = leb-true _ _ (and_left (leb 1 s) _ e)

pub replica_high : (s : ℕ) → is_replica s ≡ true → s ≤ 8
unfolding is_replica
replica_high s e = leb-true _ _ (and_right (leb 1 s) _ e)

pub in_replicas : (s : ℕ) → 1 ≤ s → s ≤ 8 → is_replica s ≡ true
unfolding is_replica
in_replicas s l u = and_both (le-leb 1 s l) (le-leb s 8 u)

pub all_alike : (p q : ℕ → Bool) → ((s : ℕ) → 1 ≤ s → s ≤ 8 → p s ≡ q s) → all p replicas ≡ all q replicas
unfolding replicas
all_alike p q h = all_alike_from p q 8 1 (λ s l u. h s l (omega arith))

pub all_replicas : (p : ℕ → Bool) → ((s : ℕ) → 1 ≤ s → s ≤ 8 → p s ≡ true) → all p replicas ≡ true
unfolding all replicas up_from
all_replicas p h = all_alike p (λ _. true) h

pub replica_passes : (p : ℕ → Bool) → all p replicas ≡ true → (s : ℕ) → 1 ≤ s → s ≤ 8 → p s ≡ true
unfolding replicas
replica_passes p e s l u = all_from p 8 1 e s l (omega arith)

pub replica_fails : (p : ℕ → Bool) → all p replicas ≡ false → (s : ℕ) × (1 ≤ s) × (s ≤ 8) × (p s ≡ false)
unfolding replicas
replica_fails p e = let (s, l, u, f) = fails_from p 8 1 e in (s, l, omega arith, f)

-- a fact of each of the eight
pub replica_cases : (P : ℕ → Type 0) → P 1 → P 2 → P 3 → P 4 → P 5 → P 6 → P 7 → P 8 → (s : ℕ) → 1 ≤ s → s ≤ 8 → P s
replica_cases P a b c d e f g h zero l u = absurd (omega arith)
replica_cases P a b c d e f g h (suc zero) l u = a
replica_cases P a b c d e f g h (suc (suc zero)) l u = b
replica_cases P a b c d e f g h (suc (suc (suc zero))) l u = c
replica_cases P a b c d e f g h (suc (suc (suc (suc zero)))) l u = d
replica_cases P a b c d e f g h (suc (suc (suc (suc (suc zero))))) l u = e
replica_cases P a b c d e f g h (suc (suc (suc (suc (suc (suc zero)))))) l u = f
replica_cases P a b c d e f g h (suc (suc (suc (suc (suc (suc (suc zero))))))) l u = g
replica_cases P a b c d e f g h (suc (suc (suc (suc (suc (suc (suc (suc zero)))))))) l u = h
replica_cases P a b c d e f g h (suc (suc (suc (suc (suc (suc (suc (suc (suc n))))))))) l u = absurd (omega arith)

pub map_replicas : {A : Type 0} (g h : ℕ → A) → ((s : ℕ) → 1 ≤ s → s ≤ 8 → g s ≡ h s) → map g replicas ≡ map h replicas
unfolding replicas
map_replicas g h e = map_up_from g h 8 1 (λ s l u. e s l (omega arith))

---- a test of each replica, from place i on

unfoldable pub pass_from : (ℕ → Bool) → ℕ → Bool
pass_from p i = all p (up_from (i + 1) (8 - i))

pub pass_all : (p : ℕ → Bool) → all p replicas ≡ pass_from p 0
unfolding pass_from replicas
pass_all p = refl

pub pass_turn : (p : ℕ → Bool) (i : ℕ) → i < 8 → pass_from p i ≡ (p (i + 1) && pass_from p (i + 1))
unfolding pass_from all up_from
pass_turn p i h = let e : 8 - i ≡ suc (8 - (i + 1)) = omega arith in rw (e, ← add-one (i + 1))

pub pass_end : (p : ℕ → Bool) (i : ℕ) → 8 ≤ i → pass_from p i ≡ true
unfolding pass_from all up_from
pass_end p i h = let e : 8 - i ≡ 0 = omega arith in rw e
