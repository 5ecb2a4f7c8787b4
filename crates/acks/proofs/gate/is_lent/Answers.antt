-- Each way out has the tests that led there; sizes in range keep the product small.
use native.Mathlib.Omega.{arith}
use native.Mathlib.Nat.{mul-le-mul}
use borrow.Author.Tests.{le-leb, lt-leb}
use Rattle.terms.proofs.Ranges.{in_range_means}
use Rattle.acks.specs.State.{slot_of}
use Rattle.acks.specs.Gate.{lent}
use Rattle.acks.proofs.gate.is_lent.Goals as goal

pub returns-then-received-lt-SLOTS : goal.returns-then-received-lt-SLOTS
unfolding lent
returns-then-received-lt-SLOTS c = rw (lt-leb _ _ c.if-received-lt-SLOTS.true)

pub returns-then-not-is_flight_lent : goal.returns-then-not-is_flight_lent
unfolding lent
returns-then-not-is_flight_lent c = rw (le-leb _ _ c.if-received-lt-SLOTS.false, ← c.is_flight_lent.ensures, c.if-not-is_flight_lent.true)

pub overflow_mul-result : goal.overflow_mul-result
overflow_mul-result c = let h = in_range_means _ c.requires in omega (arith, h.f)

pub overflow_mul-result-2 : goal.overflow_mul-result-2
overflow_mul-result-2 c =
    let z = c.args.sizes in
    let h = in_range_means z c.requires in
    record { fits = omega (arith, mul-le-mul {n₁ = z.packets_in_flight} {m₁ = slot_of z} {n₂ = 256} {m₂ = 16384} h.n.1 (omega (arith, h.f))) }

pub returns : goal.returns
unfolding lent
returns c = rw (le-leb _ _ c.if-received-lt-SLOTS.false, ← c.is_flight_lent.ensures, c.if-not-is_flight_lent.false)
