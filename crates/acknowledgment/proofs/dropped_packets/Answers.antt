-- A refusal leaves everything (`not_dropped`); what is sound is what `drop_one` requires (`table`).
use mathlib.Core.Path.{◌≡◌, sym, ap, ◌∙◌}
use mathlib.Core.Bool.{true}
use mathlib.Core.List.{List}
use Prim.Native.Nat.{ℕ, ◌+◌, ◌≤◌, ◌<◌}
use native.Mathlib.Omega.{arith}
use lib.Dec.{leb}
use lib.ListN.{length}
use borrow.Author.Tests.{le-leb, lt-leb}
use Rattle.std.specs.Prelude.{Ok}
use Rattle.std.proofs.lemmas.Result.{err_from_is_err_and}
use Rattle.terms.specs.declared.Sizes.{Sizes}
use Rattle.terms.specs.declared.Refusal.TheVariants.{BadStorage, BadState}
use Rattle.flight.specs.Lost.{Table, drop_of}
use Rattle.acks.specs.State.{lending, table_of, slot_of}
use Rattle.acks.specs.Gate.{sound}
use Rattle.acks.proofs.Gates.{sound_means}
use Rattle.acknowledgment.specs.Calls.{dropped_of}
use Rattle.acknowledgment.proofs.Kept.{not_dropped}
use Rattle.acknowledgment.proofs.Drops.{answer, number_left_lem, output_left_lem}
use Rattle.acknowledgment.proofs.Opened.{dropped_shut, Past, past}
use Rattle.acknowledgment.proofs.dropped_packets.Goals as goal
use Rattle.acknowledgment.proofs.dropped_packets.Goals.{In_ok-lent, Else-output-room}

known : (c : In_ok-lent) → Past c.args.sizes c.args.received.now c.args.number.now c.args.records.now c.args.bytes.now
known c = past c.args.sizes c.args.received.now c.args.number.now c.args.records.now c.args.bytes.now (sym c.lent.ensures ∙ c.in_ok-lent.was)

table : (z : Sizes) (received number records bytes : List ℕ) → Past z received number records bytes → sound z received number ≡ true → Table (slot_of z) (table_of z number) records bytes
table z received number records bytes k s =
    record {
      small = omega (arith, k.sizes.f);
      few = omega (arith, k.sizes.n, k.whole);
      recorded = omega (arith, k.whole, k.lengths.recorded);
      slots = rw k.whole k.lengths.room;
      fits = (sound_means z received number s).fits;
    }

-- the output is as long as stated: 16 x F + 17
roomy : (c : Else-output-room) → leb (slot_of c.args.sizes + 17) (length c.args.output.now) ≡ true
roomy c =
    let enough : slot_of c.args.sizes + 17 ≤ length c.args.output.now = omega arith in
    le-leb _ _ enough

pub returns-in_err-lent : goal.returns-in_err-lent
returns-in_err-lent c =
    let p = err_from_is_err_and c.from_residual.result c.from_residual.ensures.1 in
    let s = (lending c.args.state c.args.received.now c.args.number.now c.args.records.now c.args.bytes.now) in
    rw (p.1, p.2) (not_dropped c.args.sizes s c.args.output.now _ (dropped_shut c.args.sizes s c.args.output.now _ (sym c.lent.ensures ∙ c.in_err-lent.was)))

pub overflow_mul-room : goal.overflow_mul-room
overflow_mul-room c = omega (arith, (known (goal.at.overflow_mul-room c).In_ok-lent).sizes.f)

pub overflow_add-room : goal.overflow_add-room
overflow_add-room c = omega (arith, (known (goal.at.overflow_add-room c).In_ok-lent).sizes.f)

pub returns-then-output-room : goal.returns-then-output-room
unfolding dropped_of
returns-then-output-room c =
    let k = known (goal.at.returns-then-output-room c).In_ok-lent in
    let small : length c.args.output.now < slot_of c.args.sizes + 17 = omega arith in
    not_dropped c.args.sizes (lending c.args.state c.args.received.now c.args.number.now c.args.records.now c.args.bytes.now) _ BadStorage (rw (k.within_range, k.long, lt-leb _ _ small))

pub sound-requires : goal.sound-requires
sound-requires c =
    let k = known (goal.at.sound-requires c).In_ok-lent in
    (k.within_range, k.lengths.slots, k.lengths.numbers)

pub returns-in_err-sound : goal.returns-in_err-sound
unfolding dropped_of
returns-in_err-sound c =
    let k = known (goal.at.returns-in_err-sound c).In_ok-lent in
    let p = err_from_is_err_and c.from_residual-in_err-sound.result c.from_residual-in_err-sound.ensures.1 in
    let j = c.in_err-sound.ensures in
    rw (p.1, p.2, j.1) (not_dropped c.args.sizes (lending c.args.state c.args.received.now c.args.number.now c.args.records.now c.args.bytes.now) _ BadState (rw (k.within_range, k.long, roomy (goal.at.returns-in_err-sound c).Else-output-room, j.0)))

pub slice_bounds-drop_one-end : goal.slice_bounds-drop_one-end
slice_bounds-drop_one-end c = (known (goal.at.slice_bounds-drop_one-end c).In_ok-lent).lengths.numbers

pub slice_bounds-drop_one-end-2 : goal.slice_bounds-drop_one-end-2
slice_bounds-drop_one-end-2 c = omega (arith, (known (goal.at.slice_bounds-drop_one-end-2 c).In_ok-lent).whole)

pub drop_one-requires : goal.drop_one-requires
drop_one-requires c =
    (table c.args.sizes c.args.received.now c.args.number.now c.args.records.now c.args.bytes.now (known (goal.at.drop_one-requires c).In_ok-lent) c.in_ok-sound.ensures.0, omega (arith, c.if-output-room.false))

pub returns : goal.returns
unfolding dropped_of
returns c =
    let done = c.drop_one.ensures in
    let z = c.args.sizes in
    let d = drop_of c.args.state.remote_ack_sequence_num.0 (table_of z c.args.number.now) c.args.records.now in
    let k = known (goal.at.returns c).In_ok-lent in
    let room = roomy (goal.at.returns c).Else-output-room in
    let sound = c.in_ok-sound.ensures.0 in
    record {
      answer_is = rw (k.within_range, k.long, room, sound) (ap Ok done.value ∙ answer d);
      number_is = rw (k.within_range, k.long, room, sound) (number_left_lem d z c.args.number.now _ done.number_after);
      output_is = rw (k.within_range, k.long, room, sound) (output_left_lem d z (lending c.args.state c.args.received.now c.args.number.now c.args.records.now c.args.bytes.now) c.args.output.now _ done.output_after);
    }
