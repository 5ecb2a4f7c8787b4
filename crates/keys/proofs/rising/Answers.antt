use Rattle.std.proofs.Common.{◌≡◌, ℕ, ◌-◌, ◌<◌, get_or, below_more, ⊎_elim, arith}
use Rattle.laws.proofs.Cases.{lt_or_le}
use Rattle.keys.proofs.Twice.{all_apart}
use Rattle.keys.proofs.rising.Goals as goal

pub loop-i-init : goal.loop-i-init
loop-i-init c = λ j h k l. absurd (omega arith)

pub loop-i-preserved : goal.loop-i-preserved
loop-i-preserved c =
    let l = c.loop-i in
    let keys = c.args.keys.now in
    let up : get_or keys (l.i - 1) 0 < get_or keys l.i 0 = c.if-keys-i.false in
    below_more (λ (j : ℕ). (k : ℕ) → k < j → get_or keys k 0 < get_or keys j 0) l.i l.invariant
    (λ k h.
    ⊎_elim (λ m. omega (arith, l.invariant (l.i - 1) (omega arith) k m))
    (λ m. let z : k ≡ l.i - 1 = omega arith in rw z up)
    (lt_or_le k (l.i - 1)))

pub returns : goal.returns
returns c =
    let up = c.loop-i.invariant in
    λ e. all_apart c.args.keys.now (λ i j before within key same. omega (arith, up j (omega arith) i before))
