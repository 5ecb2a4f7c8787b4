-- A shut gate leaves everything (`not_sent`); an open one is all that the crate below requires.
use mathlib.Core.Path.{sym, ap, ◌∙◌}
use Rattle.ends.specs.State.{State, lending}
use Rattle.sending.specs.Send.{transmitted_of}
use Rattle.datagrams.specs.declared.Item.{Item}
use Rattle.link_outgoing.proofs.Ways.{not_sent, send_shut, send_open}
use Rattle.link_outgoing.proofs.outgoing.send.Goals as goal
use Rattle.link_outgoing.proofs.outgoing.send.Goals.{Start}

abbrev whole : Start → State
whole c = lending c.args.end c.args.received.now c.args.number.now c.args.records.now c.args.payloads.now c.args.slots.now c.args.entry.now c.args.header.now c.args.joined.now c.args.index.now c.args.lengths.now c.args.held.now

pub returns-in-Err : goal.returns-in-Err
returns-in-Err c =
    let s = (goal.at.returns-in-Err c).Start in
    rw c.refused.ensures (not_sent _ c.in-Err.why (whole s) s.args.output.now (send_shut s.args.sizes (whole s) s.args.output.now c.in-Err.why s.args.delivery s.args.ordering s.args.stream s.args.payload.now (sym c.in-Err.ensures.gate_value)))

pub transmit-requires : goal.transmit-requires
transmit-requires c = (sym c.in-Ok.ensures.gate_value, c.in-Ok.ensures.known_home, c.in-Ok.ensures.known_lapped)

pub returns : goal.returns
returns c =
    let s = (goal.at.returns c).Start in
    let same = send_open s.args.sizes (whole s) s.args.output.now s.args.delivery s.args.ordering s.args.stream s.args.payload.now (sym c.in-Ok.ensures.gate_value) ∙ ap (λ (i : Item). transmitted_of s.args.sizes (whole s) i s.args.payload.now s.args.output.now) (sym c.item_next.ensures) in
    rw same c.transmit.ensures
