use mathlib.Core.Path.{◌≡◌, sym, ◌∙◌}
use mathlib.Core.List.{[]}
use Prim.Native.Nat.{◌+◌, ◌-◌, ◌*◌}
use native.Mathlib.Nat.{add-sub_cancel_left}
use native.Mathlib.Omega.{arith}
use lib.ListN.{length, get_or, take, drop, length-drop}
use lib.Seq.{take_all}
use Rattle.splitter.specs.Split.{pieces}
use Rattle.splitter.proofs.Pieces.{begins, piece_at}
use Rattle.splitter.proofs.fragment.Goals as goal

pub overflow_mul-start : goal.overflow_mul-start
overflow_mul-start c = omega (arith, begins c.args.f c.args.j (length c.args.payload.now) c.requires.0 c.requires.2)

pub overflow_sub-left : goal.overflow_sub-left
overflow_sub-left c = omega (arith, begins c.args.f c.args.j (length c.args.payload.now) c.requires.0 c.requires.2)

pub returns-then-f-left : goal.returns-then-f-left
returns-then-f-left c =
    let a = c.args in
    let l = a.payload.now in
    let piece : take (a.j * a.f + a.f - a.j * a.f) (drop (a.j * a.f) l) ≡ get_or (pieces a.f l) a.j [] = rw (piece_at a.f l c.requires.0 a.j, add-sub_cancel_left (a.j * a.f) a.f) in
    piece

pub slice_bounds-result-count-2 : goal.slice_bounds-result-count-2
slice_bounds-result-count-2 c = omega (arith, begins c.args.f c.args.j (length c.args.payload.now) c.requires.0 c.requires.2)

pub slice_bounds-result-start-2 : goal.slice_bounds-result-start-2
slice_bounds-result-start-2 c = omega (arith, begins c.args.f c.args.j (length c.args.payload.now) c.requires.0 c.requires.2)

pub returns : goal.returns
returns c =
    let a = c.args in
    let l = a.payload.now in
    let d = length-drop (a.j * a.f) l in
    rw (piece_at a.f l c.requires.0 a.j)
    (take_all (length l - a.j * a.f) (drop (a.j * a.f) l) (omega arith) ∙ sym (take_all a.f (drop (a.j * a.f) l) (omega arith)))
