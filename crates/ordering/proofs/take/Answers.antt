use mathlib.Core.Path.{refl, sym, ◌∙◌}
use native.Mathlib.Omega.{arith}
use Rattle.ordering_plan.specs.State.{lending}
use Rattle.ordering_plan.proofs.Gates.{opened}
use Rattle.ordering.proofs.Calls.{take_shut, take_open}
use Rattle.ordering.proofs.take.Goals as goal

pub returns-in-Err : goal.returns-in-Err
returns-in-Err c =
    let w = take_shut c.args.sizes (lending c.args.stream c.args.index.now c.args.lengths.now c.args.bytes.now) c.args.output.now c.in-Err.why (sym c.check.ensures ∙ c.in-Err.is) in
    record {
      answer_is = sym w;
      leaves = rw w (record { stream_is = refl; index_is = refl; lengths_are = refl; bytes_are = refl });
      output_is = rw w;
    }

pub take_next-requires : goal.take_next-requires
take_next-requires c =
    let r = opened _ _ _ (sym c.check.ensures ∙ c.in_default.is) in
    (r.room, omega arith)

pub returns : goal.returns
returns c =
    let w = take_open c.args.sizes (lending c.args.stream c.args.index.now c.args.lengths.now c.args.bytes.now) c.args.output.now (sym c.check.ensures ∙ c.in_default.is) in
    let t = c.take_next.ensures in
    record { answer_is = t.answer_is ∙ sym w; leaves = rw w t.leaves; output_is = rw w t.output_is }
