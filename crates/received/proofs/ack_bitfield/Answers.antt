-- Both ways tell the field of the newest number; `is_home` says what the quicker one asks.
use Rattle.std.proofs.Common.{◌≡◌, ℕ, length, sym, ap, ◌∙◌, length-take-le}
use Rattle.laws.specs.Bits.{bits_below}
use Rattle.received.specs.Record.{slot_count, slots_of}
use Rattle.received.specs.Field.{heard, field_of}
use Rattle.received.proofs.ack_bitfield.Goals as goal
use Rattle.received.proofs.ack_bitfield.Goals.{After-remote_sequence_num-newest, Start}

slots_are : (c : Start) → length (slots_of c.args.received.now) ≡ slot_count
slots_are c = length-take-le slot_count c.args.received.now c.requires.0

-- the field of what stands before the newest is the record's
field_is : (c : After-remote_sequence_num-newest) → bits_below (heard c.remote_sequence_num-newest.result.0 (slots_of c.args.received.now)) 32 ≡ field_of c.args.sequence_num.0 (slots_of c.args.received.now)
unfolding field_of
field_is c = ap (λ (top : ℕ). bits_below (heard top (slots_of c.args.received.now)) 32) c.remote_sequence_num-newest.ensures

pub slice_bounds-slots-end : goal.slice_bounds-slots-end
slice_bounds-slots-end c = sym (slots_are (goal.at.slice_bounds-slots-end c).Start)

pub is_home-requires : goal.is_home-requires
is_home-requires c = slots_are (goal.at.is_home-requires c).Start

pub field-requires : goal.field-requires
field-requires c =
    let home = c.is_home.ensures c.if-is_home.true in
    record { count = slots_are (goal.at.field-requires c).Start; laps = c.requires.1 c.if-lapped.true; enough = home.0; stands = home.1 }

pub returns-then-is_home : goal.returns-then-is_home
returns-then-is_home c = c.field.ensures ∙ field_is (goal.at.returns-then-is_home c).After-remote_sequence_num-newest

pub bits-requires : goal.bits-requires
bits-requires c = slots_are (goal.at.bits-requires c).Start

pub returns : goal.returns
returns c = c.bits.ensures ∙ field_is (goal.at.returns c).After-remote_sequence_num-newest
