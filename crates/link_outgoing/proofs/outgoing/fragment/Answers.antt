-- A shut gate leaves the output; an open one is all that the crate below requires.
use mathlib.Core.Path.{sym}
use Rattle.std.proofs.lemmas.Result.{err_from_is_err_and}
use Rattle.ends.specs.State.{State, lending}
use Rattle.link_outgoing.proofs.Ways.{fragment_shut, fragment_open}
use Rattle.link_outgoing.proofs.outgoing.fragment.Goals as goal
use Rattle.link_outgoing.proofs.outgoing.fragment.Goals.{Start}

abbrev whole : Start → State
whole c = lending c.args.end c.args.received.now c.args.number.now c.args.records.now c.args.payloads.now c.args.slots.now c.args.entry.now c.args.header.now c.args.joined.now c.args.index.now c.args.lengths.now c.args.held.now

pub returns-in_err-seen : goal.returns-in_err-seen
returns-in_err-seen c =
    let s = (goal.at.returns-in_err-seen c).Start in
    let both = fragment_shut s.args.sizes (whole s) s.args.output.now _ s.args.packet.0 s.args.j (sym c.in_err-seen.ensures.gate_value) in
    let p = err_from_is_err_and c.from_residual.result c.from_residual.ensures.1 in
    record { value = rw (p.1, p.2) both.0; output_after = both.1 }

pub fragment-requires : goal.fragment-requires
fragment-requires c = (sym c.in_ok-seen.ensures.gate_value, c.in_ok-seen.ensures.known_home, c.in_ok-seen.ensures.known_lapped)

pub returns : goal.returns
returns c =
    let s = (goal.at.returns c).Start in
    let t = c.fragment.ensures in
    let both = fragment_open s.args.sizes (whole s) s.args.output.now _ _ s.args.packet.0 s.args.j (sym c.in_ok-seen.ensures.gate_value) t.value t.output_after in
    record { value = both.0; output_after = both.1 }
