use mathlib.Core.Path.{sym, ap, ◌∙◌}
use Rattle.std.specs.Prelude.{Ok}
use Rattle.ordering_plan.proofs.Planned.{held_place}
use Rattle.ordering.proofs.doing.perform.Goals as goal

-- the place that was planned is one of the 64
pub hold-requires : goal.hold-requires
hold-requires c =
    (c.requires.0, c.requires.1, (held_place c.args.stream c.args.index.now c.args.item.0 c.in-Held.k c.requires.0.few c.requires.0.indices (sym (c.in-Ok.is ∙ ap Ok c.in-Held.is) ∙ c.requires.2)).1)
