use Rattle.std.proofs.Common.{false, ◌||◌, rules, tests}
use Rattle.std.proofs.lemmas.Iterator.{YieldsList-from_slice}
use Rattle.std.proofs.lemmas.Iterator.Consumers.{fold_from_yields_List}
use Rattle.flight.proofs.Walks.{over, over_is}
use Rattle.flight.proofs.places.is_over_long.Goals as goal

pub returns : goal.returns
returns c =
    rw (over_is c.args.room c.args.number.now)
    (fold_from_yields_List _ (λ b w. b || over c.args.room w) false _ c.fold.ensures.ran (YieldsList-from_slice c.args.number.now cc) (λ a x b q k. search (rules, tests)))
