use Rattle.std.proofs.Common.{leb, rules, tests}
use Rattle.std.proofs.lemmas.Iterator.{YieldsList-from_slice}
use Rattle.std.proofs.lemmas.Iterator.Search.{position_from_yields_List}
use Rattle.key_parts.specs.Words.{no_packet}
use Rattle.flight.proofs.Walks.{free_is}
use Rattle.flight.proofs.places.first_free.Goals as goal

pub returns : goal.returns
returns c =
    rw (free_is c.args.number.now)
    (position_from_yields_List (leb no_packet) _ _ _ c.position.ensures.ran (YieldsList-from_slice c.args.number.now cc) (λ x b q k. search (rules, tests)))
