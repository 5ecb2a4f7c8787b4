use borrow.Author.Rules.{rules}
use native.Mathlib.Omega.{arith}
use native.Mathlib.Nat.{add-sub_cancel_left}
use Prim.Native.Nat.{ℕ, ◌*◌, ◌<◌, ◌≤◌}
use mathlib.Core.Path.{◌≡◌, sym, ◌∙◌}
use lib.ListN.{length}
use Rattle.arranging_plan.specs.Ids.{place_of}
use Rattle.arranging_plan.specs.declared.ids.StreamIds.{StreamIds}
use Rattle.arranging_plan.proofs.Parts.{part_length, place_lt, plan_none, plan_on_lem}
use Rattle.arranging_plan.proofs.ordered.judge.Goals as goal

place : (n : StreamIds) (id j : ℕ) → n.made ≤ 4 → length n.ids ≡ 4 → j ≡ place_of n id → (j ≡ 4 → ⊥) → j < 4
place n id j few four e ne = rw e (place_lt n id few (omega arith) (λ q. ne (e ∙ q)))

pub returns-then-j-eq4 : goal.returns-then-j-eq4
returns-then-j-eq4 c = sym (plan_none c.args.streams c.args.index.now c.args.id c.args.item.0 _ (sym c.place-j.ensures) c.if-j-eq4.true)

pub at-stream-requires : goal.at-stream-requires
at-stream-requires c = place c.args.streams.known c.args.id c.place-j.result c.requires.0 (search rules) c.place-j.ensures c.if-j-eq4.false

pub overflow_mul-from : goal.overflow_mul-from
overflow_mul-from c =
    let h = place c.args.streams.known c.args.id c.place-j.result c.requires.0 (search rules) c.place-j.ensures c.if-j-eq4.false in
    search rules

pub overflow_add-from : goal.overflow_add-from
overflow_add-from c =
    let h = place c.args.streams.known c.args.id c.place-j.result c.requires.0 (search rules) c.place-j.ensures c.if-j-eq4.false in
    search rules

pub offset_bounds-index-from : goal.offset_bounds-index-from
offset_bounds-index-from c =
    let h = place c.args.streams.known c.args.id c.place-j.result c.requires.0 (search rules) c.place-j.ensures c.if-j-eq4.false in
    search rules

pub slice_bounds-judge-end : goal.slice_bounds-judge-end
slice_bounds-judge-end c =
    let h = place c.args.streams.known c.args.id c.place-j.result c.requires.0 (search rules) c.place-j.ensures c.if-j-eq4.false in
    omega (arith, c.requires.1)

pub judge-requires : goal.judge-requires
judge-requires c =
    let j = c.place-j.result in
    let h = place c.args.streams.known c.args.id j c.requires.0 (search rules) c.place-j.ensures c.if-j-eq4.false in
    (rw c.at-stream.ensures (c.requires.2 j h), rw add-sub_cancel_left (omega (arith, part_length c.args.index.now (j * 64) 64 (omega (arith, c.requires.1)))))

pub returns : goal.returns
returns c =
    let w = plan_on_lem c.args.streams c.args.index.now c.args.id c.args.item.0 c.place-j.result (sym c.place-j.ensures) c.if-j-eq4.false in
    rw (w, c.judge.ensures, c.at-stream.ensures, add-sub_cancel_left)
