-- From the back: every slot from i on is sound, and has its own number or none where so it is said.
use Rattle.std.proofs.Common.{sym, ap, ◌∙◌, ◌-◌, length, not, arith}
use Rattle.keys.proofs.Homes.{home_once}
use Rattle.reassembly_plan.specs.Gate.{sound_at, sound}
use Rattle.reassembly_plan.proofs.Below.{all_of, all_not}
use Rattle.reassembly_plan.proofs.gate.sound.Goals as goal

pub returns-then-not-sound_beside : goal.returns-then-not-sound_beside
unfolding sound
returns-then-not-sound_beside c =
    let a = c.args in
    let l = c.loop-i in
    rw (all_not (sound_at a.f a.slots.now a.entry.now) (length a.slots.now) (l.i - 1) (omega (arith, c.used-i.ensures.0, c.loop-i-test.true)) (sym c.sound_beside.ensures ∙ c.if-not-sound_beside.true))

pub returns-then-home-2 : goal.returns-then-home-2
unfolding sound
returns-then-home-2 c =
    let a = c.args in
    let s = a.slots.now in
    let l = c.loop-i in
    rw (all_of (sound_at a.f s a.entry.now) (length s) (λ j. l.invariant.0 j (omega arith)), home_once s (record { own = λ j. l.invariant.1 c.if-home-2.true j (omega arith) }))

pub returns : goal.returns
unfolding sound
returns c =
    let a = c.args in
    let l = c.loop-i in
    rw (all_of (sound_at a.f a.slots.now a.entry.now) (length a.slots.now) (λ j. l.invariant.0 j (omega arith))) (ap not c.has_twice.ensures)
