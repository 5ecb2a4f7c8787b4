-- A shut gate leaves everything (`drop_shut`); behind an open one the first N numbers are a table as `drop_one` requires it.
use mathlib.Core.Path.{sym, ap, ◌∙◌}
use Rattle.std.proofs.lemmas.Result.{err_from_is_err_and}
use Rattle.std.specs.Prelude.{Ok}
use Rattle.ends.specs.State.{State, lending}
use native.Mathlib.Omega.{arith}
use lib.Seq.{length-take-le}
use Rattle.acknowledgment.proofs.Drops.{answer}
use Rattle.ends.proofs.Opened.{Opened, opened}
use Rattle.link.proofs.Ways.{drop_shut, drop_open}
use Rattle.link.proofs.drops.dropped.Goals as goal
use Rattle.link.proofs.drops.dropped.Goals.{In_ok-check, Start}

abbrev whole : Start → State
whole c = lending c.args.end c.args.received.now c.args.number.now c.args.records.now c.args.payloads.now c.args.slots.now c.args.entry.now c.args.header.now c.args.joined.now c.args.index.now c.args.lengths.now c.args.held.now

opens : (c : In_ok-check) → Opened c.args.sizes ((lending c.args.end c.args.received.now c.args.number.now c.args.records.now c.args.payloads.now c.args.slots.now c.args.entry.now c.args.header.now c.args.joined.now c.args.index.now c.args.lengths.now c.args.held.now)) c.args.output.now
opens c = opened c.args.sizes ((lending c.args.end c.args.received.now c.args.number.now c.args.records.now c.args.payloads.now c.args.slots.now c.args.entry.now c.args.header.now c.args.joined.now c.args.index.now c.args.lengths.now c.args.held.now)) c.args.output.now (sym c.in_ok-check.ensures)

pub returns-in_err-check : goal.returns-in_err-check
returns-in_err-check c =
    let s = (goal.at.returns-in_err-check c).Start in
    let both = drop_shut s.args.sizes (whole s) s.args.output.now _ (sym c.in_err-check.ensures) in
    let p = err_from_is_err_and c.from_residual.result c.from_residual.ensures.1 in
    record { value = rw (p.1, p.2) both.0; number_after = both.1.0; output_after = both.1.1 }

pub overflow_mul-room : goal.overflow_mul-room
overflow_mul-room c = omega (arith, (opens (goal.at.overflow_mul-room c).In_ok-check).within_range.f)

pub slice_bounds-drop_one-end : goal.slice_bounds-drop_one-end
slice_bounds-drop_one-end c = (opens (goal.at.slice_bounds-drop_one-end c).In_ok-check).number_room

pub slice_bounds-drop_one-end-2 : goal.slice_bounds-drop_one-end-2
slice_bounds-drop_one-end-2 c =
    let s = c in
    omega (arith, length-take-le s.args.sizes.packets_in_flight s.args.number.now (opens (goal.at.slice_bounds-drop_one-end-2 c).In_ok-check).number_room)

pub drop_one-requires : goal.drop_one-requires
drop_one-requires c = ((opens (goal.at.drop_one-requires c).In_ok-check).flight, omega (arith, (opens (goal.at.drop_one-requires c).In_ok-check).output_room))

pub returns : goal.returns
returns c =
    let s = (goal.at.returns c).Start in
    let t = c.drop_one.ensures in
    let all = drop_open s.args.sizes (whole s) s.args.output.now _ _ _ (sym c.in_ok-check.ensures) (ap Ok t.value ∙ answer _) t.number_after t.output_after in
    record { value = all.0; number_after = all.1.0; output_after = all.1.1 }
