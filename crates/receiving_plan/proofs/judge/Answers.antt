use mathlib.Core.Path.{◌≡◌, ap, ◌∙◌}
use Rattle.packet_table.specs.declared.OrderingGuarantee.TheVariants.{None, Sequenced, Ordered}
use Rattle.receiving_plan.specs.Plan.{plan_of, ordered_plan}
use Rattle.receiving_plan.proofs.judge.Goals as goal

pub returns-in-None : goal.returns-in-None
unfolding plan_of
returns-in-None c =
    let e : c.args.headers.standard.ordering ≡ None = c.in-None.is in
    rw e

pub returns-in-Sequenced : goal.returns-in-Sequenced
unfolding plan_of
returns-in-Sequenced c =
    let e : c.args.headers.standard.ordering ≡ Sequenced = c.in-Sequenced.is in
    rw e c.on_sequenced.ensures

pub returns-in-Ordered : goal.returns-in-Ordered
unfolding plan_of
returns-in-Ordered c =
    let e : c.args.headers.standard.ordering ≡ Ordered = c.in-Ordered.is in
    rw e (c.on_ordered.ensures ∙ ap ordered_plan c.judge.ensures)
