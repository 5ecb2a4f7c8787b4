-- After bit k the field is the sum over the first k bits; one turn is `bits_taken` or `bits_left`.
use Rattle.std.proofs.Common.{◌≡◌, sym, ap, ◌∙◌, arith}
use Rattle.laws.specs.Bits.{bits_below}
use Rattle.laws.proofs.Bits.{bits_zero, bits_taken, bits_left}
use Rattle.sequence_buffer.specs.Buffer.{holds}
use Rattle.received.specs.Field.{heard}
use Rattle.received.proofs.bits.Goals as goal
use Rattle.received.proofs.bits.Goals.{After-exists, then-exists, else-exists}

said : (c : After-exists) → heard c.args.newest c.args.slots.now c.loop-k.k ≡ c.exists.result
said c = sym (c.exists.ensures ∙ ap (holds c.args.slots.now) c.distance.ensures)

pub loop-k-init : goal.loop-k-init
loop-k-init c = sym (bits_zero _)

pub loop-k-preserved : goal.loop-k-preserved
loop-k-preserved c =
    let l = c.loop-k in
    let p = heard c.args.newest c.args.slots.now in
    let s = said (goal.at.loop-k-preserved c).After-exists in
    elim c.if-exists.branch [
      | then-exists w ↦ w.field-is ∙ bits_taken p l.k l.field l.invariant (omega arith) (s ∙ w.if-exists.true)
      | else-exists w ↦ w.field-is ∙ bits_left p l.k l.field l.invariant (s ∙ w.if-exists.false)
    ]

pub returns : goal.returns
returns c =
    let e : c.loop-k.k ≡ 32 = omega arith in
    c.loop-k.invariant ∙ ap (bits_below (heard c.args.newest c.args.slots.now)) e
