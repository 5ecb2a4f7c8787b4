use native.Mathlib.Omega.{arith}
use lib.Pow.{shl_exact}
use Rattle.reassembly_plan.proofs.plan.grow.Goals as goal

pub returns : goal.returns
returns c = rw (shl_exact {a = 1} 1 c.args.id 16 (omega arith) (omega arith))
