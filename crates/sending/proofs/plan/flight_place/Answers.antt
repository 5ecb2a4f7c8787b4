use mathlib.Core.Path.{sym}
use Rattle.flight.proofs.Found.{found_at}
use Rattle.sending.proofs.plan.flight_place.Goals as goal

pub returns-in-Unreliable : goal.returns-in-Unreliable
returns-in-Unreliable c = rw c.in-Unreliable.is (sym (found_at 0 _ c.requires.0))

pub place-requires : goal.place-requires
place-requires c = (c.requires.0, λ e. (c.requires.1 e).1)
