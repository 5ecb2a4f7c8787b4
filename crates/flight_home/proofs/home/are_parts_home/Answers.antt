-- Every place before the part is at home.
use mathlib.Core.Path.{◌≡◌, subst}
use mathlib.Core.Logic.{⊎_elim}
use Prim.Native.Nat.{ℕ, ◌+◌, ◌-◌, ◌*◌}
use native.Mathlib.Omega.{arith}
use Rattle.laws.proofs.Cases.{lt_or_le}
use Rattle.flight_home.specs.AtHome.{PlaceHome}
use Rattle.flight_home.proofs.home.are_parts_home.Goals as goal

pub loop-part-preserved : goal.loop-part-preserved
loop-part-preserved c =
    let l = c.loop-part in
    let a = c.args in
    let part = c.is_part_home.ensures (c.if-not-is_part_home.false) in
    λ j h.
    ⊎_elim (λ w. l.invariant j w)
    (λ w.
    let e : l.part * 64 + (j - l.part * 64) ≡ j = omega arith in
    subst (λ (x : ℕ). PlaceHome a.room a.lap a.last a.number.now x) e (part (j - l.part * 64) (omega arith)))
    (lt_or_le j (l.part * 64))
