-- At home a number can only stand at its own place.
use borrow.Author.Rules.{rules}
use Rattle.flight_home.proofs.Taken.{own_here, own_away}
use Rattle.flight_home.proofs.direct.remove_own.Goals as goal

pub returns-then-number-own : goal.returns-then-number-own
returns-then-number-own c = own_here c.args.number.now c.requires.1 c.args.packet.0 (search rules) c.requires.0 c.if-number-own.true

pub returns-else-number-own : goal.returns-else-number-own
returns-else-number-own c = own_away c.args.number.now c.requires.1 c.args.packet.0 (search rules) c.requires.0 c.if-number-own.false
