-- 6 is given exactly where document 01 says: "an ordered item with d 1..32,768 finds 64 other indices held (d = 0 and old items
-- never get 6)".
use Rattle.std.specs.Prelude.{ℕ, suc, ◌≤◌, ◌≡◌, cond, List, [], ◌∷◌, ◌↔◌, eqb, length, take, Err}
use Rattle.serial.specs.Order.{back}
use Rattle.terms.specs.declared.Refusal.TheVariants.{Full}
use Rattle.ordering_plan.specs.Arrange.{plan_of}
use Rattle.ordering_plan.specs.declared.OrderingStream.{OrderingStream}

-- how many of these are another index than i
unfoldable pub others : ℕ → List ℕ → ℕ
others i [] = 0
others i (x ∷ xs) = cond (eqb x i) (others i xs) (suc (others i xs))

abbrev pub FullIsExact : Type 0
FullIsExact =
    (s : OrderingStream) (index : List ℕ) (i : ℕ) → s.held ≤ 64 → 64 ≤ length index
    → (plan_of s index i ≡ Err Full) ↔ ((1 ≤ back i s.expected_index.0) × (back i s.expected_index.0 ≤ 32768) × (others i (take s.held index) ≡ 64))
