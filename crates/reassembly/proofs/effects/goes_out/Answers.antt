use borrow.Author.Tests.{eq-eqb, ne_eqb}
use Rattle.reassembly_plan.proofs.Below.{bit_zero}
use Rattle.reassembly.proofs.effects.goes_out.Goals as goal

pub returns-then-entry : goal.returns-then-entry
returns-then-entry c = rw (eq-eqb _ _ c.if-entry.true, bit_zero c.args.entry.ids)

pub returns-else-entry : goal.returns-else-entry
returns-else-entry c = rw (ne_eqb _ _ c.if-entry.false)
