use Rattle.std.proofs.Common.{◌≡◌, sym, ◌∙◌, ℕ, ◌<◌, get_or, take, arith, below_more}
use borrow.Author.Tests.{lt-leb, le-leb}
use Rattle.keys.specs.Keys.{first_place}
use Rattle.arranging_plan.specs.Ids.{sound_ids}
use Rattle.arranging_plan.proofs.Once.{not_home, all_home}
use Rattle.arranging_plan.proofs.ids.StreamIds.sound.Goals as goal

pub returns-then-self-gt4 : goal.returns-then-self-gt4
unfolding sound_ids
returns-then-self-gt4 c = rw (lt-leb _ _ c.if-self-gt4.true)

pub returns-then-place-i : goal.returns-then-place-i
unfolding sound_ids
returns-then-place-i c =
    let s = c.args.self in
    let ids = take s.made s.ids in
    let i = c.loop-i.i in
    let key : get_or ids i 0 < 65536 = omega arith in
    rw (le-leb s.made 4 c.if-self-gt4.false, not_home ids i c.loop-i-test.true key (λ q. c.if-place-i.true (c.place.ensures ∙ q)))

pub loop-i-preserved : goal.loop-i-preserved
loop-i-preserved c =
    let s = c.args.self in
    let ids = take s.made s.ids in
    below_more (λ (j : ℕ). first_place (get_or ids j 0) ids ≡ j) c.loop-i.i c.loop-i.invariant (sym c.place.ensures ∙ c.if-place-i.false)

pub returns : goal.returns
unfolding sound_ids
returns c =
    let s = c.args.self in
    rw (le-leb s.made 4 c.if-self-gt4.false, all_home (take s.made s.ids) (λ j h. c.loop-i.invariant j (omega (arith, c.loop-i-test.false))))
