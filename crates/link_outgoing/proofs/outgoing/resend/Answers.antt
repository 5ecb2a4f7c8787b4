-- A shut gate and an unknown ordering leave everything (`not_sent`); an open gate is all that the crate below requires.
use mathlib.Core.Path.{sym, ap, ◌∙◌}
use Rattle.ends.specs.State.{State, lending}
use Rattle.terms.specs.declared.Refusal.TheVariants.{BadHeader}
use Rattle.sending.specs.Send.{transmitted_of}
use lib.Dec.{leb}
use Rattle.packet_table.specs.Table.{ordering_of, ordering_read}
use Rattle.packet_table.proofs.Known.{known, refused}
use Rattle.datagrams.specs.declared.Item.{Item}
use Rattle.link_outgoing.proofs.Ways.{not_sent, resend_shut, resend_unknown, resend_open}
use Rattle.link_outgoing.proofs.outgoing.resend.Goals as goal
use Rattle.link_outgoing.proofs.outgoing.resend.Goals.{Start}

abbrev whole : Start → State
whole c = lending c.args.end c.args.received.now c.args.number.now c.args.records.now c.args.payloads.now c.args.slots.now c.args.entry.now c.args.header.now c.args.joined.now c.args.index.now c.args.lengths.now c.args.held.now

pub returns-in-Err : goal.returns-in-Err
returns-in-Err c =
    let s = (goal.at.returns-in-Err c).Start in
    rw c.refused.ensures (not_sent _ c.in-Err.why (whole s) s.args.output.now (resend_shut s.args.sizes (whole s) s.args.output.now c.in-Err.why s.args.sent s.args.payload.now (sym c.in-Err.ensures.gate_value)))

pub returns-in-Err-try_from : goal.returns-in-Err-try_from
unfolding ordering_read
returns-in-Err-try_from c =
    let s = (goal.at.returns-in-Err-try_from c).Start in
    let w = refused (leb 3 s.args.sent.ordering) (ordering_of s.args.sent.ordering) c.in-Err-try_from.why c.in-Err-try_from.ensures in
    rw (c.refused-in-Err-try_from.ensures, w.1) (not_sent _ BadHeader (whole s) s.args.output.now (resend_unknown s.args.sizes (whole s) s.args.output.now s.args.sent s.args.payload.now (sym c.in-Ok.ensures.gate_value) w.0))

pub item_again-requires : goal.item_again-requires
unfolding ordering_read
item_again-requires c = (known (leb 3 c.args.sent.ordering) (ordering_of c.args.sent.ordering) c.in-Ok-try_from.ordering c.in-Ok-try_from.ensures).1

pub transmit-requires : goal.transmit-requires
transmit-requires c = (sym c.in-Ok.ensures.gate_value, c.in-Ok.ensures.known_home, c.in-Ok.ensures.known_lapped)

pub returns : goal.returns
unfolding ordering_read
returns c =
    let s = (goal.at.returns c).Start in
    let w = known (leb 3 s.args.sent.ordering) (ordering_of s.args.sent.ordering) c.in-Ok-try_from.ordering c.in-Ok-try_from.ensures in
    let same = resend_open s.args.sizes (whole s) s.args.output.now s.args.sent s.args.payload.now (sym c.in-Ok.ensures.gate_value) w.0 ∙ ap (λ (i : Item). transmitted_of s.args.sizes (whole s) i s.args.payload.now s.args.output.now) (sym c.item_again.ensures) in
    rw same c.transmit.ensures
