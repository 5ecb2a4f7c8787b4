-- What is planned for an item, by cases. Assumes nothing.
use Prim.Native.Nat.{ℕ, ◌≤◌, ◌<◌}
use mathlib.Core.Path.{◌≡◌, refl}
use mathlib.Core.List.{List}
use mathlib.Core.Bool.{Bool, true, false, cond}
use mathlib.Core.Logic.{⊎_elim}
use native.Mathlib.Nat.{le_trans, eq-or-lt_of_le}
use native.Mathlib.Omega.{arith}
use lib.Dec.{eqb, ltb}
use lib.ListN.{length, take}
use lib.Seq.{length-take-le}
use borrow.Author.Tests.{eq-eqb, ne_eqb, le-ltb, lt-ltb, ltb-true, ltb-false, eqb-false}
use Rattle.std.specs.Prelude.{Ok, Err, Option, Some, None}
use Rattle.serial.specs.Order.{back}
use Rattle.terms.specs.declared.Refusal.TheVariants.{Full}
use Rattle.keys.specs.Keys.{found}
use Rattle.keys.proofs.First.{first_le}
use Rattle.laws.proofs.Cases.{case}
use Rattle.ordering_plan.specs.State.{place_of}
use Rattle.ordering_plan.specs.Arrange.{plan_of}
use Rattle.ordering_plan.specs.declared.OrderingStream.{OrderingStream}
use Rattle.ordering_plan.specs.declared.Arranged.TheVariants.{Out, Held, Old}

module _ (s : OrderingStream) (index : List ℕ) (i d : ℕ) (e : back i s.expected_index.0 ≡ d) where
  pub plan_out : d ≡ 0 → plan_of s index i ≡ Ok Out
  unfolding plan_of
  plan_out z = rw (e, z)

  pub plan_old : 32768 < d → plan_of s index i ≡ Ok Old
  unfolding plan_of
  plan_old h = rw (e, ne_eqb d 0 (λ q. omega arith), lt-ltb 32768 d h)

  pub plan_full : (d ≡ 0 → ⊥) → d ≤ 32768 → place_of s index i ≡ 64 → plan_of s index i ≡ Err Full
  unfolding plan_of
  plan_full z h q = rw (e, ne_eqb d 0 z, le-ltb 32768 d h, eq-eqb (place_of s index i) 64 q)

  pub plan_held : (d ≡ 0 → ⊥) → d ≤ 32768 → (place_of s index i ≡ 64 → ⊥) → plan_of s index i ≡ Ok (Held (place_of s index i))
  unfolding plan_of
  plan_held z h q = rw (e, ne_eqb d 0 z, le-ltb 32768 d h, ne_eqb (place_of s index i) 64 q)

pub place_le : (s : OrderingStream) (index : List ℕ) (i : ℕ) → s.held ≤ length index → place_of s index i ≤ s.held
place_le s index i h = rw (length-take-le s.held index h) at (first_le i (take s.held index))

-- what a search answers
pub found_some : (at n k : ℕ) → found at n ≡ Some k → (k ≡ at) × (k < n)
found_some at n k e = case (ltb at n) (λ h. let q : Some at ≡ Some k = rw h at e in let z : at ≡ k = cc in let l = ltb-true at n h in (cc, omega arith)) (λ h. absurd (let q : ◌≡◌ {A = Option ℕ} None (Some k) = rw h at e in let z : ◌≡◌ {A = ℕ} 0 1 = cc in omega arith))

pub found_none : (at n : ℕ) → found at n ≡ None → n ≤ at
found_none at n e = case (ltb at n) (λ h. absurd (let q : Some at ≡ None = rw h at e in let z : ◌≡◌ {A = ℕ} 0 1 = cc in omega arith)) (λ h. ltb-false at n h)

module _ (s : OrderingStream) (index : List ℕ) (i : ℕ) (few : s.held ≤ length index) where
  pub place_found : (k : ℕ) → found (place_of s index i) (length (take s.held index)) ≡ Some k → (place_of s index i ≡ k) × (k < s.held)
  place_found k e =
      let p = found_some (place_of s index i) s.held k (rw (length-take-le s.held index few) at e) in
      (omega (arith, p.0), p.1)

  pub place_free : found (place_of s index i) (length (take s.held index)) ≡ None → place_of s index i ≡ s.held
  place_free e =
      let l = found_none (place_of s index i) s.held (rw (length-take-le s.held index few) at e) in
      omega (arith, place_le s index i few)

-- the place that is planned is the item's own, and is one of the 64
pub held_place : (s : OrderingStream) (index : List ℕ) (i k : ℕ) → s.held ≤ 64 → 64 ≤ length index → Ok (Held k) ≡ plan_of s index i
    → (k ≡ place_of s index i) × (k < 64)
unfolding plan_of
held_place s index i k few long = go (eqb (back i s.expected_index.0) 0) (ltb 32768 (back i s.expected_index.0)) (eqb (place_of s index i) 64) refl
  where
    go : (a b g : Bool) → eqb (place_of s index i) 64 ≡ g → Ok (Held k) ≡ cond a (Ok Out) (cond b (Ok Old) (cond g (Err Full) (Ok (Held (place_of s index i)))))
        → (k ≡ place_of s index i) × (k < 64)
    go true b g q e = absurd (let z : ◌≡◌ {A = ℕ} 0 1 = cc in omega arith)
    go false true g q e = absurd (let z : ◌≡◌ {A = ℕ} 0 1 = cc in omega arith)
    go false false true q e = absurd (let z : ◌≡◌ {A = ℕ} 0 1 = cc in omega arith)
    go false false false q e =
        let z : k ≡ place_of s index i = cc in
        let le : place_of s index i ≤ s.held = place_le s index i (omega arith) in
        (z, ⊎_elim (λ w. absurd (eqb-false (place_of s index i) 64 q w)) (λ w. omega arith) (eq-or-lt_of_le (le_trans le few)))
