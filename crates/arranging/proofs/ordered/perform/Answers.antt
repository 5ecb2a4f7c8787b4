use mathlib.Core.Path.{◌≡◌}
use Rattle.ordering_plan.specs.Arrange.{plan_of, arranged}
use Rattle.ordering_plan.specs.Room.{Room}
use Rattle.ordering_plan.specs.State.{State}
use Rattle.arranging_plan.specs.Ordered.{lending_all}
use Rattle.arranging.proofs.Kept.{lent_has, leaves_back}
use Rattle.arranging.proofs.ordered.perform.Goals as goal

pub perform-after-requires : goal.perform-after-requires
perform-after-requires c =
    let a = c.args in
    let s = lending_all a.streams a.index.now a.lengths.now a.bytes.now in
    let e = c.at-stream.ensures in
    (lent_has a.f s a.j (Room a.f) e (c.requires.0.each a.j c.requires.1), c.requires.2, lent_has a.f s a.j (λ (t : State). a.plan ≡ plan_of t.stream t.index a.item.0) e c.requires.3)

pub returns : goal.returns
returns c =
    let a = c.args in
    leaves_back a.f (lending_all a.streams a.index.now a.lengths.now a.bytes.now) a.j a.id (arranged a.plan a.f a.item.0 a.payload.now)
    c.at-stream.ensures c.perform-after.ensures c.with.ensures
