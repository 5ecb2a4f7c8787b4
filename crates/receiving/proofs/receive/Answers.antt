-- One law of `Steps` for each case of the definition: not read, over F, and the three types.
use mathlib.Core.Path.{◌≡◌, sym, ap, ◌∙◌}
use native.Mathlib.Omega.{arith}
use lib.ListN.{drop, length-drop}
use Rattle.std.specs.Prelude.{Ok, Err}
use Rattle.terms.specs.declared.Refusal.TheVariants.{TooLong}
use Rattle.packet_table.specs.declared.PacketType.TheVariants.{Packet, Fragment, Heartbeat as IsHeartbeat}
use Rattle.packet.proofs.Accepted.{within}
use Rattle.ends.specs.State.{State, lending}
use Rattle.ends.proofs.Opened.{Opened, opened}
use Rattle.receiving_plan.specs.declared.Answer.TheVariants.{Heartbeat}
use Rattle.receiving.proofs.Steps.{on_unread, on-long, on-packet, on-fragment, on-heartbeat, rest, left_all, by-packet, by-fragment}
use Rattle.receiving.proofs.receive.Goals as goal
use Rattle.receiving.proofs.receive.Goals.{Start}

-- the end as it was when the datagram came
abbrev whole : Start → State
whole s = lending s.args.end s.args.received.now s.args.number.now s.args.records.now s.args.payloads.now s.args.slots.now s.args.entry.now s.args.header.now s.args.joined.now s.args.index.now s.args.lengths.now s.args.held.now

room : (s : Start) → Opened s.args.sizes (whole s) s.args.output.now
room s = opened s.args.sizes (whole s) s.args.output.now s.requires.0

pub returns-in_default : goal.returns-in_default
returns-in_default c =
    let s = (goal.at.returns-in_default c).Start in
    left_all s.args.end _ _ _ _ _ _ _ _ _ _ _ _ _ _ (Err c.unwrap_or.result)
    (on_unread s.args.sizes (whole s) s.args.datagram.now s.args.output.now c.unwrap_or.result
    (sym c.read_headers-read.ensures ∙ c.in_default.is ∙ ap Err (sym (rw (c.err.ensures.value, c.in_default.is) at c.unwrap_or.ensures))))
    c.refused.ensures

pub overflow_sub-datagram : goal.overflow_sub-datagram
overflow_sub-datagram c = within c.args.sizes.version c.args.datagram.now c.in-Ok.field-0.headers c.in-Ok.field-0.at (sym c.read_headers-read.ensures ∙ c.in-Ok.is)

pub returns-then-sizes-datagram : goal.returns-then-sizes-datagram
returns-then-sizes-datagram c =
    let s = (goal.at.returns-then-sizes-datagram c).Start in
    left_all s.args.end _ _ _ _ _ _ _ _ _ _ _ _ _ _ (Err TooLong)
    (on-long s.args.sizes (whole s) s.args.datagram.now s.args.output.now _ _ (sym c.read_headers-read.ensures ∙ c.in-Ok.is) c.if-sizes-datagram.true)
    c.refused-then-sizes-datagram.ensures

pub slice_bounds-payload-count : goal.slice_bounds-payload-count
slice_bounds-payload-count c = within c.args.sizes.version c.args.datagram.now c.in-Ok.field-0.headers c.in-Ok.field-0.at (sym c.read_headers-read.ensures ∙ c.in-Ok.is)

pub slice_bounds-payload-start : goal.slice_bounds-payload-start
slice_bounds-payload-start c = within c.args.sizes.version c.args.datagram.now c.in-Ok.field-0.headers c.in-Ok.field-0.at (sym c.read_headers-read.ensures ∙ c.in-Ok.is)

pub accept-requires : goal.accept-requires
accept-requires c =
    let s = (goal.at.accept-requires c).Start in
    let o = room s in (
      record {
        slots = o.received_room;
        flying = o.number_room;
        streams = o.ordered;
        four = o.four;
        short = rw (rest s.args.datagram.now c.in-Ok.field-0.at, length-drop c.in-Ok.field-0.at s.args.datagram.now) c.if-sizes-datagram.false;
        room = omega (arith, o.output_room);
      },
      s.requires.1,
    )

pub join-part-requires : goal.join-part-requires
join-part-requires c =
    let s = (goal.at.join-part-requires c).Start in
    let o = room s in (
      record {
        record_slots = o.received_room;
        flying = o.number_room;
        table_slots = o.slots_room;
        table = o.parts;
        short = rw (rest s.args.datagram.now c.in-Ok.field-0.at, length-drop c.in-Ok.field-0.at s.args.datagram.now) c.if-sizes-datagram.false;
      },
      s.requires.1,
    )

pub returns-in-Packet : goal.returns-in-Packet
returns-in-Packet c =
    let s = (goal.at.returns-in-Packet c).Start in
    let t : c.in-Ok.field-0.headers.standard.packet_type ≡ Packet = c.in-Packet.is in
    by-packet s.args.end s.args.received.now s.args.number.now _ _ _ _ _ _ s.args.index.now s.args.lengths.now s.args.held.now s.args.output.now _
    s.args.sizes c.in-Ok.field-0.headers (drop c.in-Ok.field-0.at s.args.datagram.now) _ _ _ _ _ _ _
    (on-packet s.args.sizes (whole s) s.args.datagram.now s.args.output.now _ _ (sym c.read_headers-read.ensures ∙ c.in-Ok.is) c.if-sizes-datagram.false t)
    (rw (rest s.args.datagram.now c.in-Ok.field-0.at) at c.accept.ensures)

pub returns-in-Fragment : goal.returns-in-Fragment
returns-in-Fragment c =
    let s = (goal.at.returns-in-Fragment c).Start in
    let t : c.in-Ok.field-0.headers.standard.packet_type ≡ Fragment = c.in-Fragment.is in
    by-fragment s.args.end s.args.received.now s.args.number.now _ _ s.args.slots.now s.args.entry.now s.args.header.now s.args.joined.now _ _ _ s.args.output.now _
    s.args.sizes c.in-Ok.field-0.headers (drop c.in-Ok.field-0.at s.args.datagram.now) _ _ _ _ _ _ _ _
    (on-fragment s.args.sizes (whole s) s.args.datagram.now s.args.output.now _ _ (sym c.read_headers-read.ensures ∙ c.in-Ok.is) c.if-sizes-datagram.false t)
    c.join-part.result c.with_part.ensures
    (rw (rest s.args.datagram.now c.in-Ok.field-0.at) at c.join-part.ensures)

pub returns-in-Heartbeat : goal.returns-in-Heartbeat
returns-in-Heartbeat c =
    let s = (goal.at.returns-in-Heartbeat c).Start in
    let t : c.in-Ok.field-0.headers.standard.packet_type ≡ IsHeartbeat = c.in-Heartbeat.is in
    left_all s.args.end _ _ _ _ _ _ _ _ _ _ _ _ _ _ (Ok Heartbeat)
    (on-heartbeat s.args.sizes (whole s) s.args.datagram.now s.args.output.now _ _ (sym c.read_headers-read.ensures ∙ c.in-Ok.is) c.if-sizes-datagram.false t)
    c.heartbeat.ensures
