use mathlib.Core.Path.{sym, ◌∙◌}
use native.Mathlib.Omega.{arith}
use Rattle.ordering_plan.proofs.Planned.{plan_out, plan_old, plan_full, plan_held, place_found, place_free}
use Rattle.ordering_plan.proofs.plan.judge.Goals as goal

pub returns-then-d-eq0 : goal.returns-then-d-eq0
returns-then-d-eq0 c =
    let a = c.args in
    sym (plan_out a.stream a.index.now a.item.0 _ (sym c.distance-d.ensures) c.if-d-eq0.true)

pub returns-then-d-gt32768 : goal.returns-then-d-gt32768
returns-then-d-gt32768 c =
    let a = c.args in
    sym (plan_old a.stream a.index.now a.item.0 _ (sym c.distance-d.ensures) c.if-d-gt32768.true)

pub returns-in-Some : goal.returns-in-Some
returns-in-Some c =
    let a = c.args in
    let p = place_found a.stream a.index.now a.item.0 (omega (arith, c.requires)) c.in-Some.place (sym c.find.ensures ∙ c.in-Some.is) in
    rw (← p.0) (sym (plan_held a.stream a.index.now a.item.0 _ (sym c.distance-d.ensures) c.if-d-eq0.false c.if-d-gt32768.false (λ q. omega (arith, c.requires, p))))

pub returns-in-None : goal.returns-in-None
returns-in-None c =
    let a = c.args in
    let p = place_free a.stream a.index.now a.item.0 (omega (arith, c.requires)) (sym c.find.ensures ∙ c.in-None.is) in
    sym (plan_full a.stream a.index.now a.item.0 _ (sym c.distance-d.ensures) c.if-d-eq0.false c.if-d-gt32768.false (p ∙ c.if-held-eq64.true))

pub returns-in-None-2 : goal.returns-in-None-2
returns-in-None-2 c =
    let a = c.args in
    let p = place_free a.stream a.index.now a.item.0 (omega (arith, c.requires)) (sym c.find.ensures ∙ c.in-None-2.is) in
    sym (plan_held a.stream a.index.now a.item.0 _ (sym c.distance-d.ensures) c.if-d-eq0.false c.if-d-gt32768.false (λ q. c.if-held-eq64.false (sym p ∙ q)) ∙ rw p)
