use Rattle.std.proofs.Common.{◌≡◌, sym, ap, ◌∙◌, ℕ, ◌*◌, ◌/◌, ◌%◌, ◌^◌, ◌<◌, length, get_or, length-set, bit_or, arith}
use borrow.Author.Tests.{eq-eqb, ne_eqb}
use lib.ListN.{length-replicate}
use Rattle.keys.proofs.KeySet.{mark, seen_none, seen_key, seen_other, seen_bit, single_none, single_more, single_all, again}
use Rattle.keys.proofs.marks.has_twice.Goals as goal
use Rattle.keys.proofs.marks.has_twice.Goals.{then-key-lt65536+else-seen-word-eq1, else-key-lt65536}

pub loop-key-init : goal.loop-key-init
loop-key-init c = let keys = c.args.keys.now in (length-replicate {A = ℕ} 1024 0, seen_none keys, single_none keys)

pub returns-then-seen-word-eq1 : goal.returns-then-seen-word-eq1
returns-then-seen-word-eq1 c =
    let keys = c.args.keys.now in
    let l = c.loop-key in
    let h : l.key-index < length keys = omega arith in
    let key : get_or keys l.key-index 0 < 65536 = c.if-key-lt65536.true in
    sym (again keys l.key-index h key (seen_bit l.seen keys l.key-index h l.invariant.1 key ∙ eq-eqb _ _ c.if-seen-word-eq1.true))

pub loop-key-preserved : goal.loop-key-preserved
loop-key-preserved c =
    let keys = c.args.keys.now in
    let l = c.loop-key in
    let v = get_or keys l.key-index 0 in
    let h : l.key-index < length keys = omega arith in
    elim c.if-key-lt65536.branch [
      | then-key-lt65536+else-seen-word-eq1 w ↦
          let key : v < 65536 = w.if-key-lt65536.true in
          let e : c.if-key-lt65536.seen ≡ mark l.seen v = w.seen-is in (
            ap length e ∙ length-set l.seen (v / 64) (bit_or (get_or l.seen (v / 64) 0) (1 * 2 ^ (v % 64) % 2 ^ 64)) ∙ l.invariant.0,
            rw e (seen_key l.seen keys l.key-index h l.invariant.1 l.invariant.0 key),
            single_more keys l.key-index l.invariant.2 (λ k. seen_bit l.seen keys l.key-index h l.invariant.1 k ∙ ne_eqb _ _ w.if-seen-word-eq1.false),
          )
      | else-key-lt65536 w ↦ (
        ap length w.seen-is ∙ l.invariant.0,
        rw w.seen-is (seen_other l.seen keys l.key-index h l.invariant.1 w.if-key-lt65536.false),
        single_more keys l.key-index l.invariant.2 (λ k. absurd (omega (arith, w.if-key-lt65536.false))),
      )
    ]

pub returns : goal.returns
returns c = sym (single_all c.args.keys.now c.loop-key.key-index (omega arith) c.loop-key.invariant.2)
