-- A rung of the ladder for each refusal, then the field.
use mathlib.Core.Path.{◌≡◌, sym, ◌∙◌}
use mathlib.Core.Bool.{true, false, not}
use Rattle.std.specs.Prelude.{Ok, Err}
use Rattle.keys.specs.Keys.{twice}
use Rattle.terms.specs.Sizes.{in_range}
use borrow.Author.Tests.{le-leb, lt-leb}
use Rattle.received.specs.Record.{slots_of}
use Rattle.received.specs.Field.{field_of}
use Rattle.acks.specs.Questions.{told_of}
use Rattle.acks.proofs.Gates.{unsound}
use Rattle.acks.proofs.ack_bitfield.Goals as goal
use Rattle.acks.proofs.ack_bitfield.Goals.{After-ack_bitfield, After-is_record_sound, Else-not-in_range}

within_range : (c : Else-not-in_range) → in_range c.args.sizes ≡ true
within_range c = sym c.in_range.ensures ∙ c.if-not-in_range.false

-- whether 13 is told is whether a number is there twice
judged : (c : After-is_record_sound) → c.is_record_sound.result ≡ not (twice (slots_of c.args.received.now))
judged c = c.is_record_sound.ensures

-- the field is that of the received record
told : (c : After-ack_bitfield) → c.ack_bitfield.result ≡ field_of c.args.state.received.0 (slots_of c.args.received.now)
told c = c.ack_bitfield.ensures

pub returns-then-not-in_range : goal.returns-then-not-in_range
unfolding told_of
returns-then-not-in_range c =
    let out : in_range c.args.sizes ≡ false = sym c.in_range.ensures ∙ c.if-not-in_range.true in
    rw out

pub returns-then-received-lt-SLOTS : goal.returns-then-received-lt-SLOTS
unfolding told_of
returns-then-received-lt-SLOTS c = rw (within_range (goal.at.returns-then-received-lt-SLOTS c).Else-not-in_range, lt-leb _ _ c.if-received-lt-SLOTS.true)

pub returns-then-not-is_record_sound : goal.returns-then-not-is_record_sound
unfolding told_of
returns-then-not-is_record_sound c = rw (le-leb _ _ c.if-received-lt-SLOTS.false, sym (judged (goal.at.returns-then-not-is_record_sound c).After-is_record_sound) ∙ c.if-not-is_record_sound.true) (sym (unsound _ Err (Ok 0) (within_range (goal.at.returns-then-not-is_record_sound c).Else-not-in_range)))

pub returns : goal.returns
unfolding told_of
returns c = rw (within_range (goal.at.returns c).Else-not-in_range, le-leb _ _ c.if-received-lt-SLOTS.false, sym (judged (goal.at.returns c).After-is_record_sound) ∙ c.if-not-is_record_sound.false, told (goal.at.returns c).After-ack_bitfield)
