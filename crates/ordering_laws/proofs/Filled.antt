-- 6 is exact: 64 places are held and none has the index, exactly where 64 others are. Assumes nothing.
use Prim.Native.Nat.{ℕ, suc, ◌≤◌, ◌<◌, zero-le, suc-le-suc}
use mathlib.Core.Path.{◌≡◌, refl, ap, ◌∙◌}
use mathlib.Core.Bool.{Bool, true, false, cond}
use mathlib.Core.List.{List, [], ◌∷◌}
use mathlib.Core.Logic.{⊎_elim}
use native.Mathlib.Nat.{not-suc-le-zero}
use native.Mathlib.Omega.{arith}
use borrow.Author.Tests.{eqb-true, eqb-false, ltb-false}
use lib.Dec.{eqb, ltb}
use lib.ListN.{length, take}
use lib.Seq.{length-take-le}
use Rattle.std.specs.Prelude.{Ok, Err}
use Rattle.laws.proofs.Cases.{lt_or_le}
use Rattle.serial.specs.Order.{back}
use Rattle.terms.specs.declared.Refusal.TheVariants.{Full}
use Rattle.keys.specs.Keys.{first_place}
use Rattle.keys.proofs.First.{first_le}
use Rattle.ordering_plan.specs.State.{place_of}
use Rattle.ordering_plan.specs.Arrange.{plan_of}
use Rattle.ordering_plan.specs.declared.OrderingStream.{OrderingStream}
use Rattle.ordering_plan.specs.declared.Arranged.TheVariants.{Out, Held, Old}
use Rattle.ordering_plan.proofs.Planned.{plan_full}
use Rattle.ordering_laws.specs.Full.{others, FullIsExact}

others_le : (i : ℕ) (l : List ℕ) → others i l ≤ length l
unfolding others
others_le i [] = zero-le
others_le i (x ∷ xs) = go (eqb x i) (others_le i xs)
  where
    go : (b : Bool) → others i xs ≤ length xs → cond b (others i xs) (suc (others i xs)) ≤ suc (length xs)
    go true h = omega arith
    go false h = suc-le-suc h

-- where the index stands, it is not among the others
others_lt : (i : ℕ) (l : List ℕ) → first_place i l < length l → others i l < length l
unfolding others first_place
others_lt i [] h = absurd (not-suc-le-zero h)
others_lt i (x ∷ xs) h = go (eqb x i) (others_le i xs) (others_lt i xs) h
  where
    go : (b : Bool) → others i xs ≤ length xs → (first_place i xs < length xs → others i xs < length xs)
        → cond b 0 (suc (first_place i xs)) < suc (length xs) → cond b (others i xs) (suc (others i xs)) < suc (length xs)
    go true a r q = omega arith
    go false a r q = suc-le-suc (r (omega arith))

-- where it does not, all are others
others_all : (i : ℕ) (l : List ℕ) → length l ≤ first_place i l → others i l ≡ length l
unfolding others first_place
others_all i [] h = refl
others_all i (x ∷ xs) h = go (eqb x i) (others_all i xs) h
  where
    go : (b : Bool) → (length xs ≤ first_place i xs → others i xs ≡ length xs) → suc (length xs) ≤ cond b 0 (suc (first_place i xs))
        → cond b (others i xs) (suc (others i xs)) ≡ suc (length xs)
    go true r q = absurd (not-suc-le-zero q)
    go false r q = ap suc (r (omega arith))

full_tells : (s : OrderingStream) (index : List ℕ) (i : ℕ) → plan_of s index i ≡ Err Full
    → (1 ≤ back i s.expected_index.0) × (back i s.expected_index.0 ≤ 32768) × (place_of s index i ≡ 64)
unfolding plan_of
full_tells s index i =
    go (eqb (back i s.expected_index.0) 0) (ltb 32768 (back i s.expected_index.0)) (eqb (place_of s index i) 64) refl refl refl
  where
    go : (a b g : Bool) → eqb (back i s.expected_index.0) 0 ≡ a → ltb 32768 (back i s.expected_index.0) ≡ b → eqb (place_of s index i) 64 ≡ g
        → cond a (Ok Out) (cond b (Ok Old) (cond g (Err Full) (Ok (Held (place_of s index i))))) ≡ Err Full
        → (1 ≤ back i s.expected_index.0) × (back i s.expected_index.0 ≤ 32768) × (place_of s index i ≡ 64)
    go true b g p q r e = absurd (let z : ◌≡◌ {A = ℕ} 0 1 = cc in omega arith)
    go false true g p q r e = absurd (let z : ◌≡◌ {A = ℕ} 0 1 = cc in omega arith)
    go false false false p q r e = absurd (let z : ◌≡◌ {A = ℕ} 0 1 = cc in omega arith)
    go false false true p q r e =
        let ne = eqb-false (back i s.expected_index.0) 0 p in (
          ⊎_elim (λ h. absurd (ne (omega arith))) (λ h. h) (lt_or_le (back i s.expected_index.0) 1),
          ltb-false 32768 (back i s.expected_index.0) q,
          eqb-true (place_of s index i) 64 r,
        )

pub full_is_exact : FullIsExact
full_is_exact s index i few long =
    let n : length (take s.held index) ≡ s.held = length-take-le s.held index (omega arith) in
    let le = first_le i (take s.held index) in (
      λ e.
          let t = full_tells s index i e in
          let w : place_of s index i ≡ 64 = t.2 in
          (t.0, t.1, others_all i (take s.held index) (omega arith) ∙ omega arith),
      λ t.
          let low = t.0 in
          let o : others i (take s.held index) ≡ 64 = t.2 in
          let all = others_le i (take s.held index) in
          plan_full s index i (back i s.expected_index.0) refl (λ z. omega arith) t.1
          (⊎_elim (λ h. absurd (let lt = others_lt i (take s.held index) h in omega arith)) (λ h. omega arith)
          (lt_or_le (place_of s index i) (length (take s.held index)))),
    )
