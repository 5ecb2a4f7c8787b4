-- What each part requires is in `SendReady`; what they did together is the step (`performed`).
use Prim.Native.Nat.{◌+◌, ◌*◌, ◌≤◌}
use native.Mathlib.Omega.{arith}
use lib.ListN.{length}
use Rattle.laws.proofs.Slots.{slot_end}
use Rattle.terms.proofs.Ranges.{InRange, in_range_means}
use Rattle.datagrams.proofs.Fits.{holds, few_datagrams, room}
use Rattle.sending.proofs.Planned.{not_over}
use Rattle.sending.proofs.Performed.{performed}
use Rattle.sending.proofs.effects.perform.Goals as goal
use Rattle.sending.proofs.effects.perform.Goals.{Start}

sizes : (c : Start) → InRange c.args.sizes
sizes c = in_range_means c.args.sizes c.requires.0.range

-- the payload fits its slot in flight, and that slot is there
held : (c : Start) → length c.args.payload.now ≤ 16 * c.args.sizes.fragment_size
held c = holds (length c.args.payload.now) c.args.sizes.fragment_size 16 ((in_range_means c.args.sizes c.requires.0.range)).f.0 (omega (arith, c.requires.0.few, ((in_range_means c.args.sizes c.requires.0.range)).m.1))

there : (c : Start) → c.args.sending.at * (16 * c.args.sizes.fragment_size) + 16 * c.args.sizes.fragment_size ≤ length c.args.payloads.now
there c = omega (arith, slot_end c.args.sending.at c.args.sizes.packets_in_flight (16 * c.args.sizes.fragment_size) c.requires.0.at_place, c.requires.0.room)

pub first-length-requires : goal.first-length-requires
first-length-requires c =
    let s = (goal.at.first-length-requires c).Start in
    let a = s.args in
    let r = s.requires.0 in
    let f = (sizes s).f in
    (r.slots, f.0, f.1, few_datagrams a.sizes.fragment_size (length a.payload.now) a.sizes.max_fragments (sizes s).m.1 r.few, room a.sizes.fragment_size a.item c.identify-identified.result.item a.end.acks a.received.now a.payload.now a.output.now f.0 r.wide, s.requires.1)

pub count-datagrams-requires : goal.count-datagrams-requires
count-datagrams-requires c = (sizes (goal.at.count-datagrams-requires c).Start).f

pub keep-acks-requires : goal.keep-acks-requires
keep-acks-requires c =
    let s = (goal.at.keep-acks-requires c).Start in
    let a = s.args in
    let r = s.requires.0 in
    ((sizes s).f.1, omega (arith, r.at_place, r.places), omega (arith, r.at_place, r.beside), there s, held s, omega (arith, not_over a.sizes.fragment_size (length a.payload.now) a.item r.short))

pub returns : goal.returns
returns c =
    let a = c.args in
    performed a.sizes a.end a.received.now a.number.now a.records.now a.payloads.now a.item a.sending a.payload.now a.output.now
    c.identify-identified.result c.keep-acks.result c.count-datagrams.result c.first-length.result _ _ _ _
    c.identify-identified.ensures c.first-length.ensures c.count-datagrams.ensures c.keep-acks.ensures
