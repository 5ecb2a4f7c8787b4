use Rattle.std.proofs.Common.{eqb, rules, tests}
use Rattle.std.proofs.lemmas.Iterator.{YieldsList-from_slice}
use Rattle.std.proofs.lemmas.Iterator.Search.{position_from_yields_List}
use Rattle.flight.specs.Entry.{number_in}
use Rattle.flight.proofs.Walks.{first_is}
use Rattle.flight.proofs.places.find.Goals as goal

pub returns : goal.returns
returns c =
    rw (first_is c.args.packet.0 c.args.number.now)
    (position_from_yields_List (λ w. eqb (number_in w) c.args.packet.0) _ _ _ c.position.ensures.ran (YieldsList-from_slice c.args.number.now cc) (λ x b q k. search (rules, tests)))
