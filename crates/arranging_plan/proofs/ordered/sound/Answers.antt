use native.Mathlib.Omega.{arith}
use Prim.Native.Nat.{ℕ}
use mathlib.Core.Path.{◌≡◌, sym, ap, ◌∙◌}
use mathlib.Core.Bool.{true}
use Rattle.arranging_plan.specs.Ids.{sound_ids}
use Rattle.arranging_plan.specs.Ordered.{each_sound, sound_all}
use Rattle.arranging_plan.proofs.Sound.{each_zero, each_more, each_not, ids_four}
use Rattle.arranging_plan.proofs.ordered.sound.Goals as goal

pub returns-then-not-sound : goal.returns-then-not-sound
unfolding sound_all
returns-then-not-sound c = rw (← c.sound.ensures, c.if-not-sound.true)

pub loop-j-init : goal.loop-j-init
loop-j-init c =
    let a = c.args in
    each_zero a.f a.streams a.index.now a.lengths.now

pub sound_at-requires : goal.sound_at-requires
sound_at-requires c = (c.requires.0, c.requires.1, omega (arith, ids_four c.args.streams.known (sym c.sound.ensures ∙ c.if-not-sound.false), c.loop-j-test.true))

pub returns-then-not-sound_at : goal.returns-then-not-sound_at
unfolding sound_all
returns-then-not-sound_at c =
    let a = c.args in
    let l = c.loop-j in
    let ok : sound_ids c.args.streams.known ≡ true = sym c.sound.ensures ∙ c.if-not-sound.false in
    let t = c.sound_at in
    rw (ok, each_not a.f a.streams a.index.now a.lengths.now l.j a.streams.known.made (omega arith) l.invariant (sym t.ensures ∙ c.if-not-sound_at.true))

pub loop-j-preserved : goal.loop-j-preserved
loop-j-preserved c =
    let a = c.args in
    let l = c.loop-j in
    let t = c.sound_at in
    each_more a.f a.streams a.index.now a.lengths.now l.j l.invariant (sym t.ensures ∙ c.if-not-sound_at.false)

pub returns : goal.returns
unfolding sound_all
returns c =
    let a = c.args in
    let l = c.loop-j in
    let ok : sound_ids c.args.streams.known ≡ true = sym c.sound.ensures ∙ c.if-not-sound.false in
    let past : l.j ≡ a.streams.known.made = omega arith in
    rw ok (sym (ap (λ (n : ℕ). each_sound a.f a.streams a.index.now a.lengths.now n) (sym past) ∙ l.invariant))
