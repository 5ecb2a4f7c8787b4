use mathlib.Core.Path.{◌≡◌, ap}
use Prim.Native.Nat.{ℕ, ◌+◌, ◌-◌}
use native.Mathlib.Omega.{arith}
use lib.ListN.{get_or, drop}
use Rattle.std.proofs.lemmas.List.{get_or-take, get_or-drop}
use Rattle.laws.proofs.Slots.{part_length}
use Rattle.flight_home.proofs.home.after_free.Goals as goal

pub returns-then-none_below : goal.returns-then-none_below
returns-then-none_below c =
    let a = c.args in
    let l = a.number.now in
    let free = c.none_below.ensures c.if-none_below.true in (
      omega arith,
      omega arith,
      λ j h k.
          let n = a.at + 32 - a.at in
          let i = j - a.at in
          let long = part_length l a.at n (omega arith) in
          let taken = get_or-take n (drop a.at l) i 0 (omega arith) in
          let at_j : a.at + i ≡ j = omega arith in
          omega (arith, free i (omega arith), taken, get_or-drop a.at l i 0, ap (λ (x : ℕ). get_or l x 0) at_j),
    )
