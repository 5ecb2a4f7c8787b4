use mathlib.Core.Path.{refl, sym, ◌∙◌}
use native.Mathlib.Omega.{arith}
use Rattle.arranging_plan.specs.Ordered.{lending_all}
use Rattle.arranging_plan.proofs.Gates.{opened}
use Rattle.arranging.proofs.Answers.{take_shut, take_open}
use Rattle.arranging.proofs.calls.take.Goals as goal

pub returns-in-Err : goal.returns-in-Err
returns-in-Err c =
    let a = c.args in
    let w = take_shut a.sizes (lending_all a.streams a.index.now a.lengths.now a.bytes.now) a.id a.output.now c.in-Err.why (sym c.check.ensures ∙ c.in-Err.is) in
    record {
      answer_is = sym w;
      leaves = rw w (record { counters_are = refl; index_is = refl; lengths_are = refl; bytes_are = refl });
      output_is = rw w;
    }

pub take_next-requires : goal.take_next-requires
take_next-requires c =
    let r = opened _ _ _ (sym c.check.ensures ∙ c.in_default.is) in
    (r.room, omega arith)

pub returns : goal.returns
returns c =
    let a = c.args in
    let w = take_open a.sizes (lending_all a.streams a.index.now a.lengths.now a.bytes.now) a.id a.output.now (sym c.check.ensures ∙ c.in_default.is) in
    let t = c.take_next.ensures in
    record { answer_is = t.answer_is ∙ sym w; leaves = rw w t.leaves; output_is = rw w t.output_is }
