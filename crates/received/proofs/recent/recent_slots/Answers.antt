-- In turn i the bit of slot i is cleared (`clears`); slot 0's is added last.
use Rattle.std.proofs.Common.{◌≡◌, ℕ, ◌+◌, ◌-◌, ◌*◌, ◌%◌, ◌^◌, ◌<◌, cond, get_or, sym, ap, ◌∙◌, arith}
use Rattle.laws.specs.Bits.{bits_below}
use Rattle.laws.proofs.Bits.{bits_lt}
use Rattle.received.specs.Recent.{is_recent, recent_at}
use Rattle.received.proofs.Cleared.{from, byte_small, all_set, clears, all_seen, with_last}
use Rattle.received.proofs.recent.recent_slots.Goals as goal
use Rattle.received.proofs.recent.recent_slots.Goals.{After-loop-i}

small : (c : After-loop-i) → c.loop-i.all < 4294967296
small c = rw c.loop-i.invariant (bits_lt _ 32)

pub loop-i-init : goal.loop-i-init
loop-i-init c = sym (all_set _)

pub loop-i-preserved : goal.loop-i-preserved
loop-i-preserved c =
    let i = c.loop-i.i in
    let oldest = c.args.oldest in
    let slots = c.args.slots.now in
    let n : 33 - i ≡ 32 - i + 1 = omega arith in
    let m : 33 - (i + 1) ≡ 32 - i = omega arith in
    let slot : i ≡ 32 - (32 - i) = omega arith in
    rw m
    (clears (recent_at oldest slots) (32 - i) _ _ (omega arith)
    (c.loop-i.invariant ∙ ap (λ (x : ℕ). bits_below (from x (recent_at oldest slots)) 32) n)
    (c.unless_recent-all.ensures
    ∙ ap (λ (x : ℕ). cond (is_recent oldest (get_or slots x 0)) 4294967295 (4294967295 - 1 * 2 ^ (32 - i) % 2 ^ 32)) slot))

pub overflow_mul-result : goal.overflow_mul-result
overflow_mul-result c = omega (arith, byte_small c.is_recent.result)

pub returns : goal.returns
returns c =
    let q = recent_at c.args.oldest c.args.slots.now in
    let done : 33 - c.loop-i.i ≡ 0 = omega arith in
    with_last q _ _ c.is_recent.ensures
    (c.loop-i.invariant ∙ ap (λ (x : ℕ). bits_below (from x q) 32) done ∙ all_seen q)
