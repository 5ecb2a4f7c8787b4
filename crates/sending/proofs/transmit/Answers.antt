-- An open gate gives the plan what it requires, and with a plan that refuses nothing gives the effects theirs (`ready`).
use mathlib.Core.Path.{◌≡◌, sym, ◌∙◌}
use lib.ListN.{length}
use Rattle.std.specs.Prelude.{Result, Ok, Err}
use Rattle.ends.specs.State.{State, lending}
use Rattle.ends.proofs.Opened.{Opened, opened}
use Rattle.acks.specs.State.{table_of}
use Rattle.datagrams.proofs.Fragments.{whole}
use Rattle.sending.specs.Plan.{plan_of}
use Rattle.sending.proofs.Ready.{ready}
use Rattle.sending.proofs.Performed.{kept, sends}
use Rattle.sending.proofs.transmit.Goals as goal
use Rattle.sending.proofs.transmit.Goals.{In-Err, In-Ok, Start}
use Rattle.terms.specs.declared.Refusal.{Refusal}
use Rattle.sending.specs.declared.plan.Sending.{Sending}

abbrev state : Start → State
state c = lending c.args.end c.args.received.now c.args.number.now c.args.records.now c.args.payloads.now c.args.slots.now c.args.entry.now c.args.header.now c.args.joined.now c.args.index.now c.args.lengths.now c.args.held.now

gate : (c : Start) → Opened c.args.sizes ((lending c.args.end c.args.received.now c.args.number.now c.args.records.now c.args.payloads.now c.args.slots.now c.args.entry.now c.args.header.now c.args.joined.now c.args.index.now c.args.lengths.now c.args.held.now)) c.args.output.now
gate c = opened c.args.sizes ((lending c.args.end c.args.received.now c.args.number.now c.args.records.now c.args.payloads.now c.args.slots.now c.args.entry.now c.args.header.now c.args.joined.now c.args.index.now c.args.lengths.now c.args.held.now)) c.args.output.now c.requires.0

table : (c : Start) → length (table_of c.args.sizes c.args.number.now) ≡ c.args.sizes.packets_in_flight
table c = whole c.args.sizes ((lending c.args.end c.args.received.now c.args.number.now c.args.records.now c.args.payloads.now c.args.slots.now c.args.entry.now c.args.header.now c.args.joined.now c.args.index.now c.args.lengths.now c.args.held.now)) c.args.output.now ((opened c.args.sizes ((lending c.args.end c.args.received.now c.args.number.now c.args.records.now c.args.payloads.now c.args.slots.now c.args.entry.now c.args.header.now c.args.joined.now c.args.index.now c.args.lengths.now c.args.held.now)) c.args.output.now c.requires.0))

abbrev plan : Start → Result Sending Refusal
plan c = plan_of c.args.sizes c.args.end.acks.sequence_number.0 c.args.end.ordering c.args.end.sequencing (table_of c.args.sizes c.args.number.now) c.args.item (length c.args.payload.now)

goes : (c : In-Ok) → (plan_of c.args.sizes c.args.end.acks.sequence_number.0 c.args.end.ordering c.args.end.sequencing (table_of c.args.sizes c.args.number.now) c.args.item (length c.args.payload.now)) ≡ Ok c.in-Ok.sending
goes c = sym c.judge-plan.ensures ∙ c.in-Ok.is

stops : (c : In-Err) → (plan_of c.args.sizes c.args.end.acks.sequence_number.0 c.args.end.ordering c.args.end.sequencing (table_of c.args.sizes c.args.number.now) c.args.item (length c.args.payload.now)) ≡ Err c.in-Err.why
stops c = sym c.judge-plan.ensures ∙ c.in-Err.is

pub slice_bounds-judge-end : goal.slice_bounds-judge-end
slice_bounds-judge-end c = (gate (goal.at.slice_bounds-judge-end c).Start).number_room

pub slice_bounds-judge-end-2 : goal.slice_bounds-judge-end-2
slice_bounds-judge-end-2 c = sym (table (goal.at.slice_bounds-judge-end-2 c).Start)

pub judge-plan-requires : goal.judge-plan-requires
judge-plan-requires c =
    let s = (goal.at.judge-plan-requires c).Start in
    let g = gate s in
    (g.ranged, table s, g.ordered.four, g.four, s.requires.1)

pub perform-requires : goal.perform-requires
perform-requires c =
    let s = (goal.at.perform-requires c).Start in
    (ready s.args.sizes (state s) s.args.output.now (gate s) s.args.item _ s.args.payload.now (goes (goal.at.perform-requires c).In-Ok), s.requires.2)

pub returns-in-Err : goal.returns-in-Err
returns-in-Err c =
    let s = (goal.at.returns-in-Err c).Start in
    kept s.args.sizes (state s) s.args.item s.args.payload.now s.args.output.now _ (stops (goal.at.returns-in-Err c).In-Err)

pub returns-in-Ok : goal.returns-in-Ok
returns-in-Ok c =
    let s = (goal.at.returns-in-Ok c).Start in
    sends s.args.sizes (state s) s.args.item s.args.payload.now s.args.output.now _ _ _ _ _ _ (goes (goal.at.returns-in-Ok c).In-Ok) c.perform.ensures
