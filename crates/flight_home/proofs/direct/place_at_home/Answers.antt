-- Each way out is a law of a table at home.
use borrow.Author.Rules.{rules}
use Rattle.flight_home.proofs.Homes.{place_here, place_free}
use Rattle.flight_home.proofs.direct.place_at_home.Goals as goal

pub returns-then-word-packet : goal.returns-then-word-packet
returns-then-word-packet c = place_here c.args.packet.0 c.args.number.now (search rules) c.requires.0 c.requires.1 c.if-word-packet.true

pub returns-then-word-ge-NO_PACKET : goal.returns-then-word-ge-NO_PACKET
returns-then-word-ge-NO_PACKET c = place_free c.args.packet.0 c.args.number.now (search rules) c.requires.0 c.requires.1 c.if-word-ge-NO_PACKET.true
