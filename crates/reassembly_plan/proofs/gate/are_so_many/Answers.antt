-- The number whose first so many digits are set has so many (`ones-ones`).
use mathlib.Core.Path.{◌≡◌, sym, ap, ◌∙◌}
use Prim.Native.Nat.{ℕ, ◌*◌, ◌-◌, ◌%◌, ◌^◌, ◌≤◌}
use native.Mathlib.Nat.{one-mul}
use native.Mathlib.Omega.{arith}
use lib.Count.{ones, ones-ones}
use lib.Dec.{eqb}
use lib.Pow.{pow_pos, shl_exact}
use borrow.Author.Tests.{eq-eqb}
use Rattle.reassembly_plan.proofs.Below.{count_ones}
use Rattle.reassembly_plan.proofs.gate.are_so_many.Goals as goal

power : (k : ℕ) → k ≤ 16 → 1 * 2 ^ k % 4294967296 ≡ 2 ^ k
power k h = shl_exact {a = 1} 1 k 32 (omega arith) (omega arith) ∙ one-mul (2 ^ k)

pub overflow_sub-received : goal.overflow_sub-received
overflow_sub-received c = rw (power c.args.received (omega arith)) (pow_pos c.args.received)

pub returns-then-received-ids : goal.returns-then-received-ids
returns-then-received-ids c =
    let a = c.args in
    let first : 2 ^ a.received - 1 ≡ a.ids = rw (power a.received (omega arith)) at c.if-received-ids.true in
    sym (eq-eqb a.received _ (sym (ones-ones a.received) ∙ ap ones first ∙ count_ones a.ids (omega arith)))

pub returns : goal.returns
returns c = ap (eqb c.args.received) (count_ones c.args.ids (omega arith))
