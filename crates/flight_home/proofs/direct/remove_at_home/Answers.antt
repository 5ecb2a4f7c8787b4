-- After i turns each number that is told of and less than i before the acknowledged one is gone.
use borrow.Author.Rules.{rules}
use mathlib.Core.Path.{◌≡◌, sym, ap, ◌∙◌, subst}
use mathlib.Core.List.{List, map}
use Prim.Native.Nat.{ℕ}
use native.Mathlib.Omega.{arith}
use lib.ListN.{length, length-map}
use Rattle.keys.specs.Home.{Home}
use Rattle.serial.specs.Order.{back}
use Rattle.sequence_buffer.specs.Buffer.{emptied}
use Rattle.flight.specs.Entry.{numbers_in}
use Rattle.flight_home.proofs.Taken.{taking, up_to, told_to, home_kept, first_turn, turn, no-turn, last_turn}
use Rattle.flight_home.proofs.direct.remove_at_home.Goals as goal
use Rattle.flight_home.proofs.direct.remove_at_home.Goals.{then-is_told, else-is_told}

pub loop-i-init : goal.loop-i-init
loop-i-init c = first_turn c.args.acked.0 c.args.field (search rules) c.args.number.now

pub remove_own-requires : goal.remove_own-requires
remove_own-requires c =
    let e = c.loop-i.invariant in
    let a = c.args in
    (omega (arith, ap length e ∙ length-map a.number.now _, c.requires.0), subst (λ (t : List ℕ). Home (numbers_in t)) (sym e) (home_kept (up_to a.acked.0 a.field c.loop-i.i) a.number.now c.requires.1))

pub loop-i-preserved : goal.loop-i-preserved
loop-i-preserved c =
    let l = c.loop-i in
    let a = c.args in
    let said = c.is_told.ensures in
    elim c.if-is_told.branch [
      | then-is_told w ↦ w.number-is ∙ w.remove_own.ensures
          ∙ ap (λ (x : ℕ). map (emptied (taking x)) l.number) w.distance.ensures
          ∙ ap (λ (t : List ℕ). map (emptied (taking (back a.acked.0 l.i))) t) l.invariant
          ∙ turn a.acked.0 a.field (search rules) l.i (omega arith) (sym said ∙ w.if-is_told.true) a.number.now
      | else-is_told w ↦ w.number-is ∙ l.invariant ∙ no-turn a.acked.0 a.field (search rules) l.i (omega arith) (sym said ∙ w.if-is_told.false) a.number.now
    ]

pub returns : goal.returns
returns c =
    let l = c.loop-i in
    let a = c.args in
    let e : l.i ≡ 33 = omega arith in
    l.invariant ∙ ap (λ (k : ℕ). map (emptied (told_to a.acked.0 a.field k)) a.number.now) e ∙ last_turn a.acked.0 a.field (search rules) a.number.now
