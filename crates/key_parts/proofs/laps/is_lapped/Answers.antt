-- Where what is odd of all the entries passed is nothing, so it is of each.
use Rattle.std.proofs.Common.{◌≡◌, ℕ, ◌+◌, ◌-◌, ◌%◌, ◌<◌, get_or, sym, subst, arith, below_more, ltb-true}
use Rattle.key_parts.specs.Laps.{InLap, Lapped}
use Rattle.key_parts.proofs.Lapped.{or_parts, lapped, lapped_once}
use Rattle.key_parts.proofs.laps.is_lapped.Goals as goal
use Rattle.key_parts.proofs.laps.is_lapped.Goals.{Then-odd-eq0}

pub loop-k-init : goal.loop-k-init
loop-k-init c =
    let keys = c.args.keys.now in
    let shift = (495 + (4294967296 - get_or keys 0 0)) % 4294967296 in
    let first : InLap 0 ((get_or keys 0 0 + shift) % 4294967296) = record { laps = 15; few = omega arith; is = omega (arith, c.type_inv.keys 0) } in
    λ (j : ℕ) (h : j < 1) even small.
    let none : j ≡ 0 = omega arith in subst (λ (x : ℕ). InLap x ((get_or keys x 0 + shift) % 4294967296)) (sym none) first

pub loop-k-preserved : goal.loop-k-preserved
loop-k-preserved c =
    let l = c.loop-k in
    let keys = c.args.keys.now in
    let o = c.oddity-odd.result in
    below_more (λ (j : ℕ). _ → _ → InLap j _) l.k
    (λ j h e z. l.invariant j h (or_parts l.odd o e z).0.0 (or_parts l.odd o e z).0.1)
    (λ e z. c.oddity-odd.ensures (or_parts l.odd o e z).1.0 (or_parts l.odd o e z).1.1)

told : (c : Then-odd-eq0) → c.loop-k.odd < 1024 → Lapped c.args.keys.now
told c small =
    let keys = c.args.keys.now in
    lapped keys ((495 + (4294967296 - get_or keys 0 0)) % 4294967296) (omega (arith, c.type_inv.keys 0))
    (λ j h. c.loop-k.invariant j (omega arith) c.if-odd-eq0.true small)

pub returns-then-odd-eq0 : goal.returns-then-odd-eq0
returns-then-odd-eq0 c =
    let l = c.loop-k in
    record { keys_value = λ e. lapped_once c.args.keys.now c.requires (told c (ltb-true l.odd 1024 e)); lapped = λ e. told c (ltb-true l.odd 1024 e) }
