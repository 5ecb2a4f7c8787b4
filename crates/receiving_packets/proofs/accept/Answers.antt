-- A plan that refuses leaves all (`kept`); else the plan that was judged is carried out.
use mathlib.Core.Path.{sym}
use Rattle.receiving_packets.proofs.Plans.{kept}
use Rattle.receiving_packets.proofs.accept.Goals as goal

pub judge-requires : goal.judge-requires
judge-requires c =
    let p = c.requires.0 in
    (p.four, p.streams.four, p.streams.indices, λ j h. (p.streams.each j h).few)

pub returns-in-Err : goal.returns-in-Err
returns-in-Err c =
    let s = c in
    kept _ s.args.sizes s.args.headers s.args.payload.now s.args.end _ _ _ _ _ _ _ c.in-Err.why (sym c.in-Err.ensures) c.refused.ensures

pub returns : goal.returns
returns c = rw (← c.in-Ok.ensures) c.perform.ensures
