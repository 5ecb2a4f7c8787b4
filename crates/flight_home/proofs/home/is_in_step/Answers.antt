-- The second half of the part is that at 32.
use mathlib.Core.Path.{◌≡◌, subst}
use mathlib.Core.Logic.{⊎_elim}
use Prim.Native.Nat.{ℕ, ◌+◌, ◌-◌}
use native.Mathlib.Omega.{arith}
use lib.ListN.{get_or}
use Rattle.laws.proofs.Cases.{lt_or_le}
use Rattle.key_parts.specs.Words.{Placed}
use Rattle.flight_home.proofs.home.is_in_step.Goals as goal

pub returns : goal.returns
returns c =
    λ e k h.
    let a = c.args in
    ⊎_elim (λ w. c.in_step.ensures (c.if-not-in_step.false) k w)
    (λ w.
    let q : a.at + 32 + (k - 32) ≡ a.at + k = omega arith in
    subst (λ (x : ℕ). Placed a.room a.lap a.last x (get_or a.number.now x 0)) q (c.in_step-2.ensures e (k - 32) (omega arith)))
    (lt_or_le k 32)
