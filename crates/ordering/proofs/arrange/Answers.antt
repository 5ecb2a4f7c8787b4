use mathlib.Core.Path.{sym, ◌∙◌}
use native.Mathlib.Omega.{arith}
use Rattle.ordering_plan.specs.State.{lending}
use Rattle.ordering_plan.proofs.Gates.{opened}
use Rattle.ordering.proofs.Calls.{arrange_shut, arrange_long, arrange_open, refuses}
use Rattle.ordering.proofs.arrange.Goals as goal

pub returns-in-Err : goal.returns-in-Err
returns-in-Err c =
    let a = c.args in
    let s = lending a.stream a.index.now a.lengths.now a.bytes.now in
    refuses a.sizes s a.output.now a.item.0 a.payload.now c.in-Err.why (arrange_shut a.sizes s a.output.now c.in-Err.why a.item.0 a.payload.now (sym c.check.ensures ∙ c.in-Err.is))

pub returns-then-f-payload : goal.returns-then-f-payload
returns-then-f-payload c =
    let a = c.args in
    let s = lending a.stream a.index.now a.lengths.now a.bytes.now in
    refuses a.sizes s a.output.now a.item.0 a.payload.now _ (arrange_long a.sizes s a.output.now a.item.0 a.payload.now (sym c.check.ensures ∙ c.in_default.is) c.if-f-payload.true)

pub judge-answer-requires : goal.judge-answer-requires
judge-answer-requires c =
    let r = (opened _ _ _ (sym c.check.ensures ∙ c.in_default.is)).room in
    (r.few, r.indices)

pub hand_out-requires : goal.hand_out-requires
hand_out-requires c =
    let r = opened _ _ _ (sym c.check.ensures ∙ c.in_default.is) in
    omega (arith, c.if-f-payload.false)

pub perform-requires : goal.perform-requires
perform-requires c =
    let r = opened _ _ _ (sym c.check.ensures ∙ c.in_default.is) in
    (r.room, c.if-f-payload.false, c.judge-answer.ensures)

pub returns : goal.returns
returns c =
    let a = c.args in
    let s = lending a.stream a.index.now a.lengths.now a.bytes.now in
    let w = arrange_open a.sizes s a.output.now a.item.0 a.payload.now (sym c.check.ensures ∙ c.in_default.is) c.if-f-payload.false ∙ sym c.judge-answer.ensures in
    record { answer_is = sym w; leaves = rw w c.perform.ensures; output_is = rw w c.hand_out.ensures }
