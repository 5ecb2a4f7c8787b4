-- Each key passed stands at its remainder.
use Rattle.std.proofs.Common.{◌≡◌, ℕ, ◌%◌, ◌<◌, length, get_or, below_more, arith}
use Rattle.keys.proofs.Homes.{home_once}
use Rattle.keys.proofs.at_home.Goals as goal
use Rattle.keys.proofs.at_home.Goals.{else-key-lt65536-via-then-key-lt65536+else-key-keys, else-key-lt65536-via-else-key-lt65536}

pub loop-i-preserved : goal.loop-i-preserved
loop-i-preserved c =
    let l = c.loop-i in
    let keys = c.args.keys.now in
    below_more (λ (j : ℕ). get_or keys j 0 < 65536 → get_or keys j 0 % length keys ≡ j) l.i l.invariant
    (elim c.else-key-lt65536.branch [
      | else-key-lt65536-via-then-key-lt65536+else-key-keys w ↦ λ k. w.if-key-keys.false
      | else-key-lt65536-via-else-key-lt65536 w ↦ λ k. absurd (omega arith)
    ])

pub returns : goal.returns
returns c = λ e. home_once c.args.keys.now (record { own = λ j h. c.loop-i.invariant j (omega arith) })
