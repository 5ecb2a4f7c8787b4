-- What the parts that are left make of the least so far; a part of which none is lost is passed.
use Rattle.std.proofs.Common.{ℕ, List, fold, ap, ◌∙◌}
use Rattle.std.specs.Slice.Iter.{chunks_rest}
use Rattle.flight.specs.Entry.{numbers_in}
use Rattle.flight.specs.Lost.{lesser}
use Rattle.flight.proofs.Walks.{least_is, kept, parted}
use Rattle.flight.proofs.lost.least_lost.Goals as goal

pub loop-part-init : goal.loop-part-init
loop-part-init c = rw (c.into_iter-part-iterator.ensures.into_iter_gives, c.chunks-part-items.ensures.rest) (least_is c.args.remote.0 _)

pub loop-part-preserved : goal.loop-part-preserved
loop-part-preserved c =
    let remote = c.args.remote.0 in
    let part = c.in-Some.part.now in
    let rest = chunks_rest c.next.new.self in
    c.loop-part.invariant
    ∙ ap (λ (l : List ℕ). fold (lesser remote) c.loop-part.least (numbers_in l)) c.in-Some.ensures.steps.1.0
    ∙ parted remote c.loop-part.least part rest
    ∙ ap (λ (a : ℕ). fold (lesser remote) a (numbers_in rest)) (kept remote c.loop-part.least (numbers_in part) (c.is_none_lost.ensures c.if-not-is_none_lost.false))
