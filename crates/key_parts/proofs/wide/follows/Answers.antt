-- Where the bits left are no packet, neither is what was kept of any word passed.
use Rattle.std.proofs.Common.{◌≡◌, ℕ, ◌+◌, ◌-◌, ◌*◌, ◌/◌, get_or, take, drop, subst, arith, below_more}
use Rattle.std.proofs.lemmas.Grind.{common_steps}
use lib.Bits.{and_le_l, and_le_r}
use Rattle.key_parts.specs.Words.{Word}
use Rattle.key_parts.proofs.wide.follows.Goals as goal

pub loop-k-preserved : goal.loop-k-preserved
loop-k-preserved c =
    let l = c.loop-k in
    let a = c.args in
    let u = c.without-all.result in
    let words = a.words.now in
    let same : get_or (take (a.at + 64 - a.at) (drop a.at words)) l.k 0 ≡ get_or words (a.at + l.k) 0 = grind (arith, common_steps) in
    let here : l.k * 32768 / 32768 ≡ l.k = omega arith in
    below_more (λ (j : ℕ). _ → Word a.room (a.first + j) (a.first + j) (get_or a.words.now (a.at + j) 0)) l.k
    (λ j h z. l.invariant j h (omega (arith, and_le_l l.all u)))
    (λ z.
    subst (λ (x : ℕ). Word a.room (a.first + x) (a.first + x) (get_or words (a.at + l.k) 0)) here
    (rw same at (c.without-all.ensures (omega (arith, and_le_r l.all u)))))
