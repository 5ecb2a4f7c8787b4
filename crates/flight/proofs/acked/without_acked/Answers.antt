-- Each way out has the tests that led there.
use Rattle.std.proofs.Common.{◌/◌, ◌<◌, ◌≤◌, arith, lt-ltb, eq-eqb, ne_eqb, le-leb}
use borrow.Author.Tests.{lt-leb}
use Rattle.sequence_buffer.specs.Buffer.{emptied}
use Rattle.flight.specs.Acked.{is_acked}
use Rattle.flight.proofs.Words.{has_number, no_number}
use Rattle.flight.proofs.acked.without_acked.Goals as goal
use Rattle.flight.proofs.acked.without_acked.Goals.{Else-before-le32, Then-before-le32, Then-word-lt-NO_PACKET}

-- a word in flight has a number
in-flight : (c : Then-word-lt-NO_PACKET) → c.args.word / 32768 < 65536
in-flight c = omega (arith, c.if-word-lt-NO_PACKET.true)

-- a field speaks of the 32 numbers before the acknowledged one
near : (c : Then-before-le32) → c.distance-before.result ≤ 32
near c = omega arith

far : (c : Else-before-le32) → 32 < c.distance-before.result
far c = omega arith

pub returns-then-before-eq0 : goal.returns-then-before-eq0
unfolding is_acked emptied
returns-then-before-eq0 c = rw (has_number _ c.if-word-lt-NO_PACKET.true, lt-ltb _ _ (in-flight (goal.at.returns-then-before-eq0 c).Then-word-lt-NO_PACKET), ← c.distance-before.ensures, eq-eqb _ _ c.if-before-eq0.true)

pub returns-then-field-before-eq1 : goal.returns-then-field-before-eq1
unfolding is_acked emptied
returns-then-field-before-eq1 c = rw (has_number _ c.if-word-lt-NO_PACKET.true, lt-ltb _ _ (in-flight (goal.at.returns-then-field-before-eq1 c).Then-word-lt-NO_PACKET), ← c.distance-before.ensures, ne_eqb _ _ c.if-before-eq0.false, le-leb _ _ (near (goal.at.returns-then-field-before-eq1 c).Then-before-le32), eq-eqb _ _ c.if-field-before-eq1.true)

pub returns-else-field-before-eq1 : goal.returns-else-field-before-eq1
unfolding is_acked emptied
returns-else-field-before-eq1 c = rw (has_number _ c.if-word-lt-NO_PACKET.true, lt-ltb _ _ (in-flight (goal.at.returns-else-field-before-eq1 c).Then-word-lt-NO_PACKET), ← c.distance-before.ensures, ne_eqb _ _ c.if-before-eq0.false, le-leb _ _ (near (goal.at.returns-else-field-before-eq1 c).Then-before-le32), ne_eqb _ _ c.if-field-before-eq1.false)

pub returns-else-before-le32 : goal.returns-else-before-le32
unfolding is_acked emptied
returns-else-before-le32 c = rw (has_number _ c.if-word-lt-NO_PACKET.true, lt-ltb _ _ (in-flight (goal.at.returns-else-before-le32 c).Then-word-lt-NO_PACKET), ← c.distance-before.ensures, ne_eqb _ _ c.if-before-eq0.false, lt-leb _ _ (far (goal.at.returns-else-before-le32 c).Else-before-le32))

pub returns-else-word-lt-NO_PACKET : goal.returns-else-word-lt-NO_PACKET
unfolding is_acked emptied
returns-else-word-lt-NO_PACKET c = rw (no_number _ c.if-word-lt-NO_PACKET.false)
