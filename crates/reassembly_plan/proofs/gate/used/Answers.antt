use Rattle.std.proofs.Common.{ℕ, ◌≡◌, subst, ◌∙◌, ◌+◌, ◌-◌, ◌≤◌, ◌<◌, List, length, get_or, take, drop, arith}
use mathlib.Core.Logic.{⊎_elim}
use lib.ListN.{length-drop}
use lib.Seq.{get_or-take, get_or-drop}
use Rattle.laws.proofs.Cases.{lt_or_le}
use Rattle.reassembly_plan.proofs.gate.used.Goals as goal

module _ (slots rest : List ℕ) (m : ℕ) (long : m + 8 ≡ length rest) (same : (j : ℕ) → j < length rest → get_or rest j 0 ≡ get_or slots j 0) where
  front_same : (j : ℕ) → j < m → get_or (take m rest) j 0 ≡ get_or slots j 0
  front_same j h = get_or-take m rest j 0 h ∙ same j (omega arith)

  part_none : ((k : ℕ) → k < length (drop m rest) → 65536 ≤ get_or (drop m rest) k 0) → (j : ℕ) → m ≤ j → j < length rest → 65536 ≤ get_or slots j 0
  part_none none j h l =
      let e : m + (j - m) ≡ j = omega arith in
      subst (λ (x : ℕ). 65536 ≤ x) (get_or-drop m rest (j - m) 0 ∙ rw e (same j l)) (none (j - m) (rw length-drop (omega arith)))

pub loop-front-preserved : goal.loop-front-preserved
loop-front-preserved c =
    let s = c.args.slots.now in
    let r = c.loop-front.rest.now in
    let i = c.loop-front.invariant in
    let g = c.in-Some.ensures.cases in
    let m : ℕ = length r - 8 in
    let long : m + 8 ≡ length r = omega (arith, g.2) in
    let e : length c.in-Some.front.now ≡ m = omega (arith, g.2) in (
      omega (arith, i.0),
      rw (e, g.0) (front_same s r m long i.1),
      rw e (λ j h l. ⊎_elim (λ v. part_none s r m long i.1 (rw g.1 at (c.none_below.ensures c.if-not-none_below.false)) j h v) (λ v. i.2 j v l) (lt_or_le j (length r))),
    )
