-- A shut gate and a payload over F are refusals by `kept`; else the plan that was judged is carried out (`done`).
use mathlib.Core.Path.{refl, sym, ◌∙◌}
use lib.Seq.{length-take-le}
use borrow.Author.Tests.{lt-ltb, le-ltb}
use Rattle.terms.specs.declared.Refusal.TheVariants.{TooLong}
use Rattle.reassembly_plan.proofs.Opening.{Opens, gate_opens}
use Rattle.std.specs.Prelude.{Ok}
use Rattle.reassembly.specs.Effects.{State}
use Rattle.reassembly.specs.Call.{stated, decided}
use Rattle.reassembly.specs.Room.{lending, Room}
use Rattle.reassembly.proofs.Passing.{open_room, kept, done}
use Rattle.reassembly.proofs.handle_fragment.Goals as goal
use Rattle.reassembly.proofs.handle_fragment.Goals.{In_default}

-- behind the gate
opens : (c : In_default) → Opens c.args.sizes c.args.slots.now c.args.entry.now c.args.header.now c.args.bytes.now c.args.output.now
opens c = gate_opens c.args.sizes c.args.slots.now c.args.entry.now c.args.header.now c.args.bytes.now c.args.output.now (sym c.check.ensures ∙ c.in_default.is)

room : (c : In_default) → Room c.args.sizes.fragment_size (stated c.args.sizes.reassembly_slots (lending c.args.sequence_num.0 c.args.slots.now c.args.entry.now c.args.header.now c.args.bytes.now)) c.args.output.now
room c = open_room c.args.sizes c.args.slots.now c.args.entry.now c.args.header.now c.args.bytes.now c.args.output.now c.args.sequence_num.0 (opens c)

pub returns-in-Err : goal.returns-in-Err
unfolding decided
returns-in-Err c =
    let s = c in
    let whole : State = lending s.args.sequence_num.0 s.args.slots.now s.args.entry.now s.args.header.now s.args.bytes.now in
    kept s.args.sizes whole s.args.fragment s.args.payload.now s.args.output.now c.in-Err.why _ (rw (sym c.check.ensures ∙ c.in-Err.is)) refl refl

pub returns-then-f-payload : goal.returns-then-f-payload
unfolding decided
returns-then-f-payload c =
    let s = c in
    let whole : State = lending s.args.sequence_num.0 s.args.slots.now s.args.entry.now s.args.header.now s.args.bytes.now in
    kept s.args.sizes whole s.args.fragment s.args.payload.now s.args.output.now TooLong _ (rw (sym c.check.ensures ∙ c.in_default.is, lt-ltb _ _ c.if-f-payload.true)) refl refl

pub slice_bounds-judge-end : goal.slice_bounds-judge-end
slice_bounds-judge-end c = (opens (goal.at.slice_bounds-judge-end c).In_default).long.slots_c

pub slice_bounds-judge-end-2 : goal.slice_bounds-judge-end-2
slice_bounds-judge-end-2 c = sym (length-take-le c.args.sizes.reassembly_slots c.args.slots.now (opens (goal.at.slice_bounds-judge-end-2 c).In_default).long.slots_c)

pub judge-judged-requires : goal.judge-judged-requires
judge-judged-requires c = ((room (goal.at.judge-judged-requires c).In_default).table, c.if-f-payload.false)

pub slice_bounds-perform-end : goal.slice_bounds-perform-end
slice_bounds-perform-end c = (opens (goal.at.slice_bounds-perform-end c).In_default).long.slots_c

pub slice_bounds-perform-end-2 : goal.slice_bounds-perform-end-2
slice_bounds-perform-end-2 c = sym (length-take-le c.args.sizes.reassembly_slots c.args.slots.now (opens (goal.at.slice_bounds-perform-end-2 c).In_default).long.slots_c)

pub perform-requires : goal.perform-requires
perform-requires c = (room (goal.at.perform-requires c).In_default, c.if-f-payload.false, sym c.in-Ok.is ∙ c.judge-judged.ensures)

pub returns-in-Err-judged : goal.returns-in-Err-judged
unfolding decided
returns-in-Err-judged c =
    let s = c in
    let whole : State = lending s.args.sequence_num.0 s.args.slots.now s.args.entry.now s.args.header.now s.args.bytes.now in
    kept s.args.sizes whole s.args.fragment s.args.payload.now s.args.output.now c.in-Err-judged.why _
    (rw (sym c.check.ensures ∙ c.in_default.is, le-ltb _ _ c.if-f-payload.false) (sym c.judge-judged.ensures ∙ c.in-Err-judged.is)) refl refl

pub returns : goal.returns
unfolding decided
returns c =
    let s = c in
    let whole : State = lending s.args.sequence_num.0 s.args.slots.now s.args.entry.now s.args.header.now s.args.bytes.now in
    done s.args.sizes whole s.args.fragment s.args.payload.now s.args.output.now (Ok c.in-Ok.plan) _ _ _ _ _ _
    (rw (sym c.check.ensures ∙ c.in_default.is, le-ltb _ _ c.if-f-payload.false) (sym c.judge-judged.ensures ∙ c.in-Ok.is)) c.perform.ensures
