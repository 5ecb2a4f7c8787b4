-- A refusal leaves everything (`not_heard`); past 1, 2 and 13 the table is heard of (`past`).
use mathlib.Core.Path.{sym, ap, ◌∙◌}
use mathlib.Core.List.{List, ◌++◌}
use Prim.Native.Nat.{ℕ}
use native.Mathlib.Omega.{arith}
use lib.ListN.{drop}
use Rattle.std.proofs.lemmas.Result.{err_from_is_err_and}
use Rattle.terms.specs.declared.Refusal.TheVariants.{BadState}
use Rattle.acks.specs.State.{lending}
use Rattle.acknowledgment.specs.Calls.{incoming_of}
use Rattle.acknowledgment.proofs.Kept.{not_heard}
use Rattle.acknowledgment.proofs.Opened.{incoming_shut, Past, past}
use Rattle.acknowledgment.proofs.process_incoming.Goals as goal
use Rattle.acknowledgment.proofs.process_incoming.Goals.{In_ok-lent}

known : (c : In_ok-lent) → Past c.args.sizes c.args.received.now c.args.number.now c.args.records.now c.args.bytes.now
known c = past c.args.sizes c.args.received.now c.args.number.now c.args.records.now c.args.bytes.now (sym c.lent.ensures ∙ c.in_ok-lent.was)

pub returns-in_err-lent : goal.returns-in_err-lent
returns-in_err-lent c =
    let p = err_from_is_err_and c.from_residual.result c.from_residual.ensures.1 in
    let s = (lending c.args.state c.args.received.now c.args.number.now c.args.records.now c.args.bytes.now) in
    rw (p.1, p.2) (not_heard c.args.sizes s c.args.packet.0 c.args.acked.0 c.args.field _ (incoming_shut c.args.sizes s c.args.packet.0 c.args.acked.0 _ (sym c.lent.ensures ∙ c.in_err-lent.was)))

pub sound-requires : goal.sound-requires
sound-requires c =
    let k = known (goal.at.sound-requires c).In_ok-lent in
    (k.within_range, k.lengths.slots, k.lengths.numbers)

pub returns-in_err-at_home : goal.returns-in_err-at_home
unfolding incoming_of
returns-in_err-at_home c =
    let k = known (goal.at.returns-in_err-at_home c).In_ok-lent in
    let p = err_from_is_err_and c.from_residual-in_err-at_home.result c.from_residual-in_err-at_home.ensures.1 in
    let j = c.in_err-at_home.ensures in
    rw (p.1, p.2, j.1) (not_heard c.args.sizes (lending c.args.state c.args.received.now c.args.number.now c.args.records.now c.args.bytes.now) _ _ _ BadState (rw (k.within_range, k.long, j.0)))

pub slice_bounds-incoming-end : goal.slice_bounds-incoming-end
slice_bounds-incoming-end c = (known (goal.at.slice_bounds-incoming-end c).In_ok-lent).lengths.numbers

pub slice_bounds-incoming-end-2 : goal.slice_bounds-incoming-end-2
slice_bounds-incoming-end-2 c = omega (arith, (known (goal.at.slice_bounds-incoming-end-2 c).In_ok-lent).whole)

pub incoming-requires : goal.incoming-requires
incoming-requires c =
    let k = known (goal.at.incoming-requires c).In_ok-lent in
    (k.lengths.slots, λ e. (omega (arith, k.whole, k.sizes.n), (c.in_ok-at_home.ensures.1 e).home))

pub returns : goal.returns
unfolding incoming_of
returns c =
    let done = c.incoming.ensures in
    let n = c.args.sizes.packets_in_flight in
    let k = known (goal.at.returns c).In_ok-lent in
    let sound = c.in_ok-at_home.ensures.0 in
    record {
      answer_is = rw (k.within_range, k.long, sound, done.value);
      received_is = rw (k.within_range, k.long, sound) done.received_after;
      number_is = rw (k.within_range, k.long, sound) (ap (λ (l : List ℕ). l ++ drop n c.args.number.now) done.number_after);
    }
