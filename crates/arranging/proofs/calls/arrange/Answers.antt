use borrow.Author.Rules.{rules}
use mathlib.Core.Path.{◌≡◌, refl, sym, ap, ◌∙◌}
use mathlib.Core.Bool.{true, false}
use lib.ListN.{length}
use native.Mathlib.Omega.{arith}
use Rattle.arranging_plan.specs.Ids.{place_of}
use Rattle.arranging_plan.specs.Ordered.{lending_all}
use Rattle.arranging_plan.specs.declared.ordered.Planned.{Planned}
use Rattle.arranging_plan.specs.Gate.{is_refused}
use Rattle.arranging_plan.proofs.Parts.{place_lt}
use Rattle.arranging_plan.proofs.Gates.{opened, accepted, refused_nothing}
use Rattle.arranging.proofs.Answers.{arrange_shut, arrange_long, arrange_open, refuses, arranges}
use Rattle.arranging.proofs.calls.arrange.Goals as goal

pub returns-in-Err : goal.returns-in-Err
returns-in-Err c =
    let a = c.args in
    let s = lending_all a.streams a.index.now a.lengths.now a.bytes.now in
    refuses a.sizes s a.id a.output.now a.item.0 a.payload.now c.in-Err.why (arrange_shut a.sizes s a.id a.output.now c.in-Err.why a.item.0 a.payload.now (sym c.check.ensures ∙ c.in-Err.is))

pub returns-then-f-payload : goal.returns-then-f-payload
returns-then-f-payload c =
    let a = c.args in
    let s = lending_all a.streams a.index.now a.lengths.now a.bytes.now in
    refuses a.sizes s a.id a.output.now a.item.0 a.payload.now _ (arrange_long a.sizes s a.id a.output.now a.item.0 a.payload.now (sym c.check.ensures ∙ c.in_default.is) c.if-f-payload.true)

pub judge-planned-requires : goal.judge-planned-requires
judge-planned-requires c =
    let r = (opened _ _ _ (sym c.check.ensures ∙ c.in_default.is)).room in
    (r.four, r.indices, λ j h. (r.each j h).few)

-- the answer past 5 is what was planned
pub returns-then-refused : goal.returns-then-refused
returns-then-refused c =
    let a = c.args in
    let s = lending_all a.streams a.index.now a.lengths.now a.bytes.now in
    let w = arrange_open a.sizes s a.id a.output.now a.item.0 a.payload.now (sym c.check.ensures ∙ c.in_default.is) c.if-f-payload.false
    ∙ ap (λ (x : Planned). x.plan) (sym c.judge-planned.ensures) in
    let q : is_refused c.judge-planned.result.plan ≡ true = sym c.refused.ensures ∙ c.if-refused.true in
    record {
      answer_is = sym w;
      leaves =
          rw (w, q)
          (record { counters_are = refl; index_is = refl; lengths_are = refl; bytes_are = refl });
      output_is = rw (w, refused_nothing c.judge-planned.result.plan a.payload.now q);
    }

pub hand_out-requires : goal.hand_out-requires
hand_out-requires c =
    let r = opened _ _ _ (sym c.check.ensures ∙ c.in_default.is) in
    omega (arith, c.if-f-payload.false)

pub perform-requires : goal.perform-requires
perform-requires c =
    let a = c.args in
    let s = lending_all a.streams a.index.now a.lengths.now a.bytes.now in
    let r = opened a.sizes s a.output.now (sym c.check.ensures ∙ c.in_default.is) in
    let up = accepted s a.id a.item.0 (ap (λ (x : Planned). is_refused x.plan) (sym c.judge-planned.ensures) ∙ sym c.refused.ensures ∙ c.if-refused.false) in
    let e : length a.streams.known.ids ≡ 4 = search rules in
    let at : c.judge-planned.result.at ≡ place_of a.streams.known a.id = ap (λ (x : Planned). x.at) c.judge-planned.ensures ∙ up.place_is in
    let four = r.room.four in
    (r.room, rw at (place_lt a.streams.known a.id four (omega arith) up.other), c.if-f-payload.false, rw at (ap (λ (x : Planned). x.plan) c.judge-planned.ensures ∙ up.plan_is))

pub returns : goal.returns
returns c =
    let a = c.args in
    let s = lending_all a.streams a.index.now a.lengths.now a.bytes.now in
    let up = accepted s a.id a.item.0 (ap (λ (x : Planned). is_refused x.plan) (sym c.judge-planned.ensures) ∙ sym c.refused.ensures ∙ c.if-refused.false) in
    let w = arrange_open a.sizes s a.id a.output.now a.item.0 a.payload.now (sym c.check.ensures ∙ c.in_default.is) c.if-f-payload.false
    ∙ ap (λ (x : Planned). x.plan) (sym c.judge-planned.ensures) in
    let at : c.judge-planned.result.at ≡ place_of a.streams.known a.id = ap (λ (x : Planned). x.at) c.judge-planned.ensures ∙ up.place_is in
    let q : is_refused c.judge-planned.result.plan ≡ false = sym c.refused.ensures ∙ c.if-refused.false in
    arranges a.sizes s a.id a.output.now a.item.0 a.payload.now w q at c.perform.ensures c.hand_out.ensures
