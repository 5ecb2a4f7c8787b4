use borrow.Author.Rules.{rules}
use mathlib.Core.Path.{◌≡◌, sym, ◌∙◌}
use native.Mathlib.Omega.{arith}
use lib.ListN.{length}
use borrow.Author.Tests.{eq-eqb, ne_eqb}
use Rattle.arranging_plan.specs.Ids.{place_of}
use Rattle.arranging.specs.Sequence.{sequenced}
use Rattle.arranging_plan.proofs.Parts.{place_lt}
use Rattle.arranging_plan.proofs.Sound.{ids_four}
use Rattle.arranging.proofs.calls.sequence.Goals as goal

pub returns-then-not-sound : goal.returns-then-not-sound
unfolding sequenced
returns-then-not-sound c = rw (sym c.sound.ensures ∙ c.if-not-sound.true)

pub place-j-requires : goal.place-j-requires
place-j-requires c = ids_four c.args.streams.known (sym c.sound.ensures ∙ c.if-not-sound.false)

pub returns-then-j-eq4 : goal.returns-then-j-eq4
unfolding sequenced
returns-then-j-eq4 c = rw (sym c.sound.ensures ∙ c.if-not-sound.false, eq-eqb (place_of c.args.streams.known c.args.id) 4 (sym c.place-j.ensures ∙ c.if-j-eq4.true))

pub arrange-after-requires : goal.arrange-after-requires
arrange-after-requires c =
    let s = c in
    let four = ids_four s.args.streams.known (sym c.sound.ensures ∙ c.if-not-sound.false) in
    let e : length s.args.streams.known.ids ≡ 4 = search rules in
    (rw c.place-j.ensures (place_lt s.args.streams.known s.args.id four (omega arith) (λ q. c.if-j-eq4.false (c.place-j.ensures ∙ q))), four)

pub returns : goal.returns
unfolding sequenced
returns c = rw (sym c.sound.ensures ∙ c.if-not-sound.false, ne_eqb (place_of c.args.streams.known c.args.id) 4 (λ q. c.if-j-eq4.false (c.place-j.ensures ∙ q)), c.arrange-after.ensures, c.place-j.ensures)
