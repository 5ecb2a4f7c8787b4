use borrow.Author.Rules.{rules}
use native.Mathlib.Omega.{arith}
use Prim.Native.Nat.{◌<◌, ◌≤◌}
use mathlib.Core.Path.{◌≡◌, refl, sym}
use lib.ListN.{length}
use Rattle.ordering_plan.specs.Room.{Room}
use Rattle.arranging_plan.specs.Ids.{place_of}
use Rattle.arranging_plan.specs.Ordered.{lending_all}
use Rattle.arranging.proofs.Kept.{lent_has, next_away, takes_here}
use Rattle.arranging.proofs.ordered.take_next.Goals as goal

pub returns-then-streams-j : goal.returns-then-streams-j
returns-then-streams-j c =
    let a = c.args in
    let w = next_away a.f (lending_all a.streams a.index.now a.lengths.now a.bytes.now) a.id (rw (sym c.place-j.ensures) c.if-streams-j.true) in
    record {
      answer_is = sym w;
      leaves = rw w (record { counters_are = refl; index_is = refl; lengths_are = refl; bytes_are = refl });
      output_is = rw w;
    }

pub take_next-after-requires : goal.take_next-after-requires
take_next-after-requires c =
    let a = c.args in
    let j = c.place-j.result in
    let place : j < 4 = omega (arith, c.if-streams-j.false, c.requires.0.four) in
    (lent_has a.f (lending_all a.streams a.index.now a.lengths.now a.bytes.now) j (Room a.f) c.at-stream.ensures (c.requires.0.each j place), c.requires.1)

pub returns : goal.returns
returns c =
    let a = c.args in
    let p : c.place-j.result ≡ place_of a.streams.known a.id = c.place-j.ensures in
    let e : length a.streams.known.ids ≡ 4 = search rules in
    let here : place_of a.streams.known a.id < a.streams.known.made = rw (sym p) c.if-streams-j.false in
    let few : a.streams.known.made ≤ length a.streams.known.ids = omega (arith, c.requires.0.four) in
    takes_here a.f (lending_all a.streams a.index.now a.lengths.now a.bytes.now) a.id few here p c.at-stream.ensures
    c.take_next-after.ensures c.with.ensures
