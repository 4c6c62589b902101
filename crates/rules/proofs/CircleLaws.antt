-- Of two moves that together close a circle, the second finds its new parent below its node.
use Prim.Native.Nat.{ℕ, suc, ◌<◌, ◌≤◌, ◌+◌, ◌-◌, zero}
use lib.ListN.{set, length}
use mathlib.Core.Bool.{false, true, ◌&&◌}
use mathlib.Core.List.{List}
use mathlib.Core.Logic.{inl, inr, ◌⊎◌}
use mathlib.Core.Path.{ap, sym, ◌≡◌, ◌∙◌}
use native.Mathlib.Decide.{ℕ_discrete, dec_le}
use native.Mathlib.Nat.{le_refl}
use native.Mathlib.Omega.{arith}
use Rattle.lists.proofs.BoolLaws.{fails, never, and_both}
use Rattle.rules.proofs.TreeLaws.{up_same, still_reaches, above_n, free_avoids}
use Rattle.rules.proofs.ClimbLaws.{Reaches, up_add, in_climb, climb_in, up, short}
use Rattle.lists.proofs.NumberLaws.{search_for}
use Rattle.rules.proofs.SlotLaws.{Valid}
use Rattle.lists.specs.Lists.{is_in}
use Rattle.rules.specs.Tree.{at_or_below, slot_of, path, climb, slots}

-- no root among the first i nodes of a way
abbrev NoRoot : List ℕ → ℕ → ℕ → Type 0
NoRoot parents i n = (j : ℕ) → j < i → up parents j n ≡ 0 → ⊥

-- where a way first meets n, within k steps, if it does
abbrev Met : List ℕ → ℕ → ℕ → ℕ → Type 0
Met parents q n k =
    ((i : ℕ) × (i ≤ k) × (up parents i q ≡ n) × ((j : ℕ) → j < i → up parents j q ≡ n → ⊥))
    ⊎ ((j : ℕ) → j ≤ k → up parents j q ≡ n → ⊥)

module _ (P : ℕ → Type 0) (pv : (x : ℕ) → P x → Valid x) (parents : List ℕ) (size : length parents ≡ slots)
    (n p m q : ℕ) (vn : Valid n) (n≢0 : n ≡ 0 → ⊥) (m≢0 : m ≡ 0 → ⊥)
    (ip iq : ℕ) (rp : Reaches P parents ip p) (rq : Reaches P parents iq q) (free : at_or_below parents p n ≡ false) where
  abbrev hung : List ℕ
  hung = set parents (slot_of n) p

  pub second_blocked : at_or_below parents p m ≡ true → at_or_below parents q n ≡ true → at_or_below hung q m ≡ true
  unfolding at_or_below path
  second_blocked a b =
      let (d, ld, wd, od) = climb_in parents slots p m a in
      let (k, lk, wk, ok) = climb_in parents slots q n b in
      go d wd od k ok (search_for (λ j. up parents j q) n k) wk
    where
      go : (d : ℕ) → up parents d p ≡ m → NoRoot parents d p → (k : ℕ) → NoRoot parents k q → Met parents q n k
          → up parents k q ≡ n → is_in m (climb slots hung q) ≡ true
      go d wd od k ok (inr none) wk = absurd (none k (le_refl k) wk)
      go d wd od k ok (inl x) wk =
          let i : ℕ = x.0 in
          let li : i ≤ k = x.1 in
          -- p's first way to the root does not meet n
          let (jp, jb, rp', firstp) = short P pv parents ip p rp in
          let avoids = free_avoids parents n p jp jb firstp free in
          let dp : d ≤ jp = elim (dec_le d jp) [
            | yes h ↦ h
            | no h ↦ absurd (od jp (omega arith) rp'.root)
          ] in
          let kq : k ≤ iq = elim (dec_le k iq) [
            | yes h ↦ h
            | no h ↦ absurd (ok iq (omega arith) rq.root)
          ] in
          let same_q : (j : ℕ) → j ≤ i → up hung j q ≡ up parents j q =
          λ j h. up_same parents size n p vn n≢0 j q (λ t l. pv _ (rq.on t (omega arith))) (λ t l. x.3 t (omega arith)) in
          let same_p : (j : ℕ) → j ≤ d → up hung j p ≡ up parents j p =
          λ j h. up_same parents size n p vn n≢0 j p (λ t l. pv _ (rp'.on t (omega arith))) (λ t l. avoids t (omega arith)) in
          let after : (e : ℕ) → up hung (i + suc e) q ≡ up hung e p =
          λ e. up_add hung i (suc e) q ∙ ap (up hung (suc e)) (same_q i (le_refl i) ∙ x.2) ∙ above_n parents size n p vn n≢0 e in
          let meets : up hung (i + suc d) q ≡ m = after d ∙ same_p d (le_refl d) ∙ wd in
          let before_root : (j : ℕ) → j ≤ i + suc d → up hung j q ≡ 0 → ⊥ = λ j h z. elim (dec_le j i) [
            | yes l ↦ elim (ℕ_discrete j i) [
              | yes e ↦ n≢0 (sym x.2 ∙ ap (λ (t : ℕ). up parents t q) (sym e) ∙ sym (same_q j l) ∙ z)
              | no ne ↦ ok j (omega arith) (sym (same_q j l) ∙ z)
            ]
            | no l ↦
                let e : ℕ = j - (i + 1) in
                let le : e ≤ d = omega arith in
                let je : j ≡ i + suc e = omega arith in
                let ze : up parents e p ≡ 0 = sym (same_p e le) ∙ sym (after e) ∙ ap (λ (t : ℕ). up hung t q) (sym je) ∙ z in
                elim (ℕ_discrete e d) [
                  | yes w ↦ m≢0 (sym wd ∙ ap (λ (t : ℕ). up parents t p) (sym w) ∙ ze)
                  | no nw ↦ od e (omega arith) ze
                ]
          ] in
          let (k', rk) = still_reaches P pv parents size n p vn n≢0 jp rp' avoids iq q rq in
          let (j₀, b₀, r₀, first₀) = short P pv hung k' q rk in
          let far : i + suc d < j₀ = elim (dec_le j₀ (i + suc d)) [
            | yes h ↦ absurd (before_root j₀ h r₀.root)
            | no h ↦ omega arith
          ] in
          rw meets at (in_climb hung slots (i + suc d) q (omega arith) (λ j l. before_root j (omega arith)))

  -- the first then hangs its node below the other's
  pub first_below : at_or_below parents p m ≡ true → at_or_below hung n m ≡ true
  unfolding at_or_below path up
  first_below a =
      let (d, ld, wd, od) = climb_in parents slots p m a in
      let (jp, jb, rp', firstp) = short P pv parents ip p rp in
      let avoids = free_avoids parents n p jp jb firstp free in
      let dp : d < jp = elim (dec_le jp d) [
        | yes h ↦ absurd (elim (ℕ_discrete jp d) [
          | yes e ↦ m≢0 (sym wd ∙ ap (λ (t : ℕ). up parents t p) (sym e) ∙ rp'.root)
          | no ne ↦ od jp (omega arith) rp'.root
        ])
        | no h ↦ omega arith
      ] in
      let same : (j : ℕ) → j ≤ d → up hung (suc j) n ≡ up parents j p =
      λ j h. above_n parents size n p vn n≢0 j
      ∙ up_same parents size n p vn n≢0 j p (λ t l. pv _ (rp'.on t (omega arith))) (λ t l. avoids t (omega arith)) in
      rw (same d (le_refl d) ∙ wd) at (in_climb hung slots (suc d) n (omega arith) (before d same od))
    where
      before : (d : ℕ) → ((j : ℕ) → j ≤ d → up hung (suc j) n ≡ up parents j p) → NoRoot parents d p → NoRoot hung (suc d) n
      before d same od zero h z = n≢0 z
      before d same od (suc j) h z = od j (omega arith) (sym (same j (omega arith)) ∙ z)

  -- and only then
  pub second_free : at_or_below parents q m ≡ false → (at_or_below parents p m && at_or_below parents q n) ≡ false
      → at_or_below hung q m ≡ false
  unfolding at_or_below path
  second_free clear apart =
      fails _ (λ e. let (i, li, wi, oi) = climb_in hung slots q m e in meets i li wi oi (search_for (λ j. up parents j q) n i))
    where
      -- q's way to the root in the old tree, as long as it does not meet n
      same_q : (i : ℕ) → ((j : ℕ) → j < i → up parents j q ≡ n → ⊥) → i ≤ iq → (j : ℕ) → j ≤ i → up hung j q ≡ up parents j q
      same_q i none l j h =
          up_same parents size n p vn n≢0 j q (λ t u. pv _ (rq.on t (omega arith))) (λ t u. none t (omega arith))

      meets : (i : ℕ) → i < slots → up hung i q ≡ m → NoRoot hung i q → Met parents q n i → ⊥
      meets i li wi oi (inr none) = elim (dec_le i iq) [
        | yes h ↦
            let same = same_q i (λ j l. none j (omega arith)) h in
            let climbs = in_climb parents slots i q li (λ j l z. oi j l (same j (omega arith) ∙ z)) in
            never (sym clear ∙ (rw (sym (same i (le_refl i)) ∙ wi) at climbs))
        | no h ↦ oi iq (omega arith) (same_q iq (λ j l. none j (omega arith)) (le_refl iq) iq (le_refl iq) ∙ rq.root)
      ]
      meets i li wi oi (inl x) =
          let j : ℕ = x.0 in
          let lj : j ≤ i = x.1 in
          let jq : j ≤ iq = elim (dec_le j iq) [
            | yes h ↦ h
            | no h ↦ absurd (oi iq (omega arith) (same_q iq (λ k l. x.3 k (omega arith)) (le_refl iq) iq (le_refl iq) ∙ rq.root))
          ] in
          let same = same_q j x.3 jq in
          let climbs = in_climb parents slots j q (omega arith) (λ k l z. oi k (omega arith) (same k (omega arith) ∙ z)) in
          let q_below_n : is_in n (climb slots parents q) ≡ true = rw x.2 at climbs in
          elim (ℕ_discrete i j) [
            | yes e ↦
                let m_is_n : m ≡ n = sym wi ∙ ap (λ (t : ℕ). up hung t q) e ∙ same j (le_refl j) ∙ x.2 in
                never (sym (rw m_is_n at clear) ∙ q_below_n)
            | no ne ↦
                let (jp, jb, rp', firstp) = short P pv parents ip p rp in
                let avoids = free_avoids parents n p jp jb firstp free in
                let d : ℕ = i - (j + 1) in
                let id : i ≡ j + suc d = omega arith in
                let after : (e : ℕ) → up hung (j + suc e) q ≡ up hung e p =
                λ e. up_add hung j (suc e) q ∙ ap (up hung (suc e)) (same j (le_refl j) ∙ x.2) ∙ above_n parents size n p vn n≢0 e in
                let same_p : (e : ℕ) → e ≤ jp → up hung e p ≡ up parents e p =
                λ e h. up_same parents size n p vn n≢0 e p (λ t l. pv _ (rp'.on t (omega arith))) (λ t l. avoids t (omega arith)) in
                let dp : d ≤ jp = elim (dec_le d jp) [
                  | yes h ↦ h
                  | no h ↦ absurd (oi (j + suc jp) (omega arith) (after jp ∙ same_p jp (le_refl jp) ∙ rp'.root))
                ] in
                let meet : up parents d p ≡ m = sym (same_p d dp) ∙ sym (after d) ∙ ap (λ (t : ℕ). up hung t q) (sym id) ∙ wi in
                let p_climbs = in_climb parents slots d p (omega arith) (λ k l. firstp k (omega arith)) in
                let p_below_m : is_in m (climb slots parents p) ≡ true = rw meet at p_climbs in
                never (sym apart ∙ and_both p_below_m q_below_n)
          ]

---- a node hung below itself

module _ (P : ℕ → Type 0) (pv : (x : ℕ) → P x → Valid x) (parents : List ℕ) (size : length parents ≡ slots)
    (m q : ℕ) (vm : Valid m) (m≢0 : m ≡ 0 → ⊥)
    (iq : ℕ) (rq : Reaches P parents iq q) (under : at_or_below parents q m ≡ true) where
  abbrev closed_up : List ℕ
  closed_up = set parents (slot_of m) q

  -- its way goes round and round
  round : (i : ℕ) × (up closed_up (suc i) m ≡ m) × ((j : ℕ) → j ≤ i → up closed_up (suc j) m ≡ 0 → ⊥)
  unfolding at_or_below path
  round = let (k, lk, wk, ok) = climb_in parents slots q m under in go k wk ok (search_for (λ j. up parents j q) m k)
    where
      go : (k : ℕ) → up parents k q ≡ m → NoRoot parents k q → Met parents q m k
          → (i : ℕ) × (up closed_up (suc i) m ≡ m) × ((j : ℕ) → j ≤ i → up closed_up (suc j) m ≡ 0 → ⊥)
      go k wk ok (inr none) = absurd (none k (le_refl k) wk)
      go k wk ok (inl x) =
          let i : ℕ = x.0 in
          let li : i ≤ k = x.1 in
          let kq : k ≤ iq = elim (dec_le k iq) [ yes h ↦ h | no h ↦ absurd (ok iq (omega arith) rq.root) ] in
          let same : (j : ℕ) → j ≤ i → up closed_up (suc j) m ≡ up parents j q =
          λ j h. above_n parents size m q vm m≢0 j
          ∙ up_same parents size m q vm m≢0 j q (λ t l. pv _ (rq.on t (omega arith))) (λ t l. x.3 t (omega arith)) in (
            i,
            same i (le_refl i) ∙ x.2,
            λ j h z. elim (ℕ_discrete j i) [
              | yes e ↦ m≢0 (sym x.2 ∙ ap (λ (t : ℕ). up parents t q) (sym e) ∙ sym (same j h) ∙ z)
              | no ne ↦ ok j (omega arith) (sym (same j h) ∙ z)
            ],
          )

  -- and never comes to the root
  never_root : (fuel k : ℕ) → k < fuel → up closed_up k m ≡ 0 → ⊥
  unfolding up
  never_root zero k h z = omega arith
  never_root (suc fuel) zero h z = m≢0 z
  never_root (suc fuel) (suc k) h z =
      let (i, w, o) = round in elim (dec_le k i) [
        | yes l ↦ o k l z
        | no l ↦
            let d : ℕ = k - i in
            let e : suc k ≡ suc i + d = omega arith in
            never_root fuel d (omega arith)
            (ap (up closed_up d) (sym w) ∙ sym (up_add closed_up (suc i) d m) ∙ ap (λ (t : ℕ). up closed_up t m) (sym e) ∙ z)
      ]

  -- nor does a node below it
  pub cut_off : (n im : ℕ) → Reaches P parents im n → at_or_below parents n m ≡ true → at_or_below closed_up n 0 ≡ false
  unfolding at_or_below path
  cut_off n im rn e =
      fails _ (λ z.
      let (k, lk, wk, ok) = climb_in closed_up slots n 0 z in
      let (a, la, wa, oa) = climb_in parents slots n m e in
      go k wk a wa oa (search_for (λ j. up parents j n) m a))
    where
      go : (k : ℕ) → up closed_up k n ≡ 0 → (a : ℕ) → up parents a n ≡ m → NoRoot parents a n → Met parents n m a → ⊥
      go k wk a wa oa (inr none) = none a (le_refl a) wa
      go k wk a wa oa (inl x) =
          let i : ℕ = x.0 in
          let li : i ≤ a = x.1 in
          let an : a ≤ im = elim (dec_le a im) [ yes h ↦ h | no h ↦ absurd (oa im (omega arith) rn.root) ] in
          let same : (j : ℕ) → j ≤ i → up closed_up j n ≡ up parents j n =
          λ j h. up_same parents size m q vm m≢0 j n (λ t l. pv _ (rn.on t (omega arith))) (λ t l. x.3 t (omega arith)) in
          elim (dec_le i k) [
            | yes h ↦
                let d : ℕ = k - i in
                let e : k ≡ i + d = omega arith in
                let to_m = sym x.2 ∙ sym (same i (le_refl i)) in
                never_root (suc d) d (omega arith)
                (ap (up closed_up d) to_m ∙ sym (up_add closed_up i d n) ∙ ap (λ (t : ℕ). up closed_up t n) (sym e) ∙ wk)
            | no h ↦ oa k (omega arith) (sym (same k (omega arith)) ∙ wk)
          ]

-- a way to the root, as the test sees it
pub reached : (P : ℕ → Type 0) → ((x : ℕ) → P x → Valid x) → (parents : List ℕ) (i n : ℕ) → Reaches P parents i n
    → at_or_below parents n 0 ≡ true
unfolding at_or_below path
reached P pv parents i n r =
    let (j, b, z, first) = short P pv parents i n r in
    rw z.root at (in_climb parents slots j n (omega arith) first)
