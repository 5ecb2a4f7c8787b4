-- Each way out is a law of keys at home.
use borrow.Author.Rules.{rules}
use Rattle.flight_home.proofs.Homes.{first_here, first_away}
use Rattle.flight_home.proofs.direct.find_at_home.Goals as goal

pub returns-then-number-own : goal.returns-then-number-own
returns-then-number-own c = first_here c.args.packet.0 c.args.number.now (search rules) c.requires.0 c.requires.1 c.if-number-own.true

pub returns : goal.returns
returns c = first_away c.args.packet.0 c.args.number.now (search rules) c.requires.0 c.requires.1 c.if-number-own.false
