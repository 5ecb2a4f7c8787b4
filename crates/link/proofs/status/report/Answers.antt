-- Behind an open gate each figure is what its own function says of the same tables.
use mathlib.Core.Path.{sym, ◌∙◌}
use Rattle.std.proofs.lemmas.Result.{err_from_is_err_and}
use Rattle.std.specs.Prelude.{Ok}
use Rattle.ends.specs.State.{State, lending}
use lib.Seq.{length-take-le}
use Rattle.ends.proofs.Opened.{Opened, opened}
use Rattle.link.proofs.Ways.{report_shut, report_open}
use Rattle.link.proofs.status.report.Goals as goal
use Rattle.link.proofs.status.report.Goals.{In_ok-seen, Start}

abbrev whole : Start → State
whole c = lending c.args.end c.args.received.now c.args.number.now c.args.records.now c.args.payloads.now c.args.slots.now c.args.entry.now c.args.header.now c.args.joined.now c.args.index.now c.args.lengths.now c.args.held.now

opens : (c : In_ok-seen) → Opened c.args.sizes ((lending c.args.end c.args.received.now c.args.number.now c.args.records.now c.args.payloads.now c.args.slots.now c.args.entry.now c.args.header.now c.args.joined.now c.args.index.now c.args.lengths.now c.args.held.now)) c.args.output.now
opens c = opened c.args.sizes ((lending c.args.end c.args.received.now c.args.number.now c.args.records.now c.args.payloads.now c.args.slots.now c.args.entry.now c.args.header.now c.args.joined.now c.args.index.now c.args.lengths.now c.args.held.now)) c.args.output.now (sym c.in_ok-seen.ensures.gate_value)

pub returns-in_err-seen : goal.returns-in_err-seen
returns-in_err-seen c =
    let s = (goal.at.returns-in_err-seen c).Start in
    let p = err_from_is_err_and c.from_residual.result c.from_residual.ensures.1 in
    rw (p.1, p.2) (sym (report_shut s.args.sizes (whole s) s.args.output.now _ (sym c.in_err-seen.ensures.gate_value)))

pub slice_bounds-count-end : goal.slice_bounds-count-end
slice_bounds-count-end c =
    let s = c in
    sym (length-take-le s.args.sizes.packets_in_flight s.args.number.now (opens (goal.at.slice_bounds-count-end c).In_ok-seen).number_room)

pub ack_bitfield-requires : goal.ack_bitfield-requires
ack_bitfield-requires c = ((opens (goal.at.ack_bitfield-requires c).In_ok-seen).received_room, c.in_ok-seen.ensures.known_lapped)

pub returns : goal.returns
returns c =
    let s = (goal.at.returns c).Start in
    (λ i. Ok (record { packets_in_flight = c.count.ensures i; local_sequence_num = s.args.end.acks.sequence_number; remote_sequence_num = record { 0 = c.remote_sequence_num.ensures i }; ack_bitfield = c.ack_bitfield.ensures i })) ∙ sym (report_open s.args.sizes (whole s) s.args.output.now (sym c.in_ok-seen.ensures.gate_value))
