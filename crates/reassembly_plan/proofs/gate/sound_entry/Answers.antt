use mathlib.Core.Path.{sym, ◌∙◌}
use native.Mathlib.Nat.{mul-le-mul}
use native.Mathlib.Omega.{arith}
use Rattle.reassembly_plan.specs.Gate.{entry_sound}
use Rattle.reassembly_plan.proofs.gate.sound_entry.Goals as goal

pub returns-then-not-are_so_many : goal.returns-then-not-are_so_many
unfolding entry_sound
returns-then-not-are_so_many c = rw (sym c.are_so_many.ensures ∙ c.if-not-are_so_many.true)

pub overflow_mul-result : goal.overflow_mul-result
overflow_mul-result c =
    let a = c.args in
    omega (arith, mul-le-mul {n₁ = a.f} {m₁ = a.entry.received} {n₂ = 1024} {m₂ = 255} c.requires (omega arith))

pub returns : goal.returns
unfolding entry_sound
returns c = rw (sym c.are_so_many.ensures ∙ c.if-not-are_so_many.false)
