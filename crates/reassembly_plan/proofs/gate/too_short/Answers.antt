use Prim.Native.Nat.{◌*◌}
use native.Mathlib.Nat.{mul-le-mul}
use native.Mathlib.Omega.{arith}
use Rattle.reassembly_plan.proofs.gate.too_short.Goals as goal

pub overflow_mul-c : goal.overflow_mul-c
overflow_mul-c c =
    let a = c.args in
    omega (arith, mul-le-mul {n₁ = a.c} {m₁ = 16 * a.f} {n₂ = 64} {m₂ = 16384} c.requires.1 (omega arith))
