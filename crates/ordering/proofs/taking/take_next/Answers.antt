use mathlib.Core.Path.{refl, sym, ◌∙◌}
use Prim.Native.Nat.{◌*◌, ◌-◌, ◌≤◌, ◌<◌}
use native.Mathlib.Nat.{mul-le-mul_right}
use native.Mathlib.Omega.{arith}
use lib.ListN.{get_or}
use Rattle.ordering_plan.specs.State.{lending}
use Rattle.ordering_plan.proofs.Planned.{place_found, place_free}
use Rattle.ordering.proofs.Places.{copied_out, place_room}
use Rattle.ordering.proofs.Next.{next_none, next_item}
use Rattle.ordering.proofs.taking.take_next.Goals as goal

pub returns-in_default : goal.returns-in_default
returns-in_default c =
    let a = c.args in
    let r = c.requires.0 in
    let p = place_free a.stream a.index.now a.stream.expected_index.0 (omega (arith, r.few, r.indices)) (sym c.find.ensures ∙ c.in_default.is) in
    let w = next_none (lending a.stream a.index.now a.lengths.now a.bytes.now) _ p (omega arith) in
    record {
      answer_is = sym w;
      leaves = rw w (record { stream_is = refl; index_is = refl; lengths_are = refl; bytes_are = refl });
      output_is = rw w;
    }

pub move_down-requires : goal.move_down-requires
move_down-requires c =
    let a = c.args in
    let r = c.requires.0 in
    let p = place_found a.stream a.index.now a.stream.expected_index.0 (omega (arith, r.few, r.indices)) c.in-Some.k (sym c.find.ensures ∙ c.in-Some.is) in
    let l : c.in-Some.k ≤ a.stream.held - 1 = omega (arith, p) in
    let last : a.stream.held - 1 < 64 = omega (arith, r.few, p) in
    (mul-le-mul_right a.f l, place_room (a.stream.held - 1) a.f _ _ last (r.short (a.stream.held - 1) (omega (arith, p))) r.bytes)

-- The item is as many bytes from its place on as its length says:
-- all of them are at the output's start, and what was after them stays.
pub returns : goal.returns
returns c =
    let a = c.args in
    let r = c.requires.0 in
    let k = c.in-Some.k in
    let p = place_found a.stream a.index.now a.stream.expected_index.0 (omega (arith, r.few, r.indices)) k (sym c.find.ensures ∙ c.in-Some.is) in
    let w = next_item (lending a.stream a.index.now a.lengths.now a.bytes.now) k p.0 p.1 in
    record {
      answer_is = sym w;
      leaves = rw (w, p.0) (record { stream_is = c.shrink.ensures; index_is = refl; lengths_are = refl; bytes_are = c.move_down.ensures });
      output_is = rw (w, p.0) (c.copy.ensures.after ∙ copied_out a.bytes.now a.output.now (k * a.f) (get_or a.lengths.now k 0));
    }
