-- Where the bits left are no packet, neither is what was kept of any word passed.
use Rattle.std.proofs.Common.{◌≡◌, ℕ, ◌+◌, ◌-◌, get_or, take, drop, arith, below_more, leb-true}
use Rattle.std.proofs.lemmas.Grind.{common_steps}
use lib.Bits.{and_le_l, and_le_r}
use Rattle.key_parts.specs.Words.{Placed}
use Rattle.key_parts.proofs.parts.in_step.Goals as goal

pub loop-k-preserved : goal.loop-k-preserved
loop-k-preserved c =
    let l = c.loop-k in
    let a = c.args in
    let u = c.unless-all.result in
    let words = a.words.now in
    let same : get_or (take (a.at + 32 - a.at) (drop a.at words)) l.k 0 ≡ get_or words (a.at + l.k) 0 = grind (arith, common_steps) in
    below_more (λ (j : ℕ). _ → Placed a.room a.lap a.last (a.at + j) (get_or a.words.now (a.at + j) 0)) l.k
    (λ j h z. l.invariant j h (omega (arith, and_le_l l.all u)))
    (λ z. rw same at (c.unless-all.ensures (omega (arith, and_le_r l.all u))))

pub returns : goal.returns
returns c = λ e k h. c.loop-k.invariant k (omega arith) (leb-true 2147483648 c.loop-k.all e)
