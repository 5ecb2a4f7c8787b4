use mathlib.Core.Path.{◌≡◌, sym, ◌∙◌}
use borrow.Author.Tests.{eq-eqb, ne_eqb}
use Rattle.arranging_plan.specs.Ids.{place_of}
use Rattle.receiving_plan.specs.Plan.{sequenced_plan}
use Rattle.receiving_plan.proofs.Places.{place_under}
use Rattle.receiving_plan.proofs.on_sequenced.Goals as goal
use Rattle.receiving_plan.proofs.on_sequenced.Goals.{Else-at-eq4}

other : (c : Else-at-eq4) → place_of c.args.sequenced.known c.args.item.stream ≡ 4 → ⊥
other c q = c.if-at-eq4.false (c.place-at.ensures ∙ q)

pub returns-then-at-eq4 : goal.returns-then-at-eq4
unfolding sequenced_plan
returns-then-at-eq4 c = rw (eq-eqb (place_of c.args.sequenced.known c.args.item.stream) 4 (sym c.place-at.ensures ∙ c.if-at-eq4.true))

pub at-requires : goal.at-requires
at-requires c =
    let s = c in
    rw c.place-at.ensures (place_under s.args.sequenced.known s.args.item.stream s.requires (other (goal.at.at-requires c).Else-at-eq4))

pub returns : goal.returns
unfolding sequenced_plan
returns c = rw (ne_eqb (place_of c.args.sequenced.known c.args.item.stream) 4 (other (goal.at.returns c).Else-at-eq4), c.arrange-after.ensures, c.at.ensures, c.place-at.ensures)
