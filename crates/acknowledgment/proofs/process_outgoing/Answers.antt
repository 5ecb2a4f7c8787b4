-- A rung of the ladder for each refusal (`not_sent`); where there is a place (`full_some`) its slot holds the payload, which needs at most M fragments.
use mathlib.Core.Path.{◌≡◌, sym, ◌∙◌}
use mathlib.Core.Bool.{false}
use Prim.Native.Nat.{◌*◌, ◌<◌}
use native.Mathlib.Omega.{arith}
use native.Mathlib.Nat.{mul-le-mul, mul-le-mul_right}
use lib.Dec.{ltb}
use lib.ListN.{length}
use borrow.Author.Tests.{lt-ltb, le-ltb}
use Rattle.std.proofs.lemmas.Result.{err_from_is_err_and}
use Rattle.terms.specs.declared.Refusal.TheVariants.{BadState, TooLong, ExceededMaxFragments, Full}
use Rattle.laws.proofs.Slots.{slot_end}
use Rattle.flight.specs.Entry.{numbers_in}
use Rattle.flight.specs.Places.{place_of, full}
use Rattle.flight.proofs.Room.{full_none, full_some}
use Rattle.acks.specs.State.{lending, table_of, slot_of}
use Rattle.acks.specs.Gate.{too_long}
use Rattle.acknowledgment.specs.Calls.{outgoing_of}
use Rattle.acknowledgment.proofs.Kept.{not_sent, stored}
use Rattle.acknowledgment.proofs.Opened.{outgoing_shut, Past, past}
use Rattle.acknowledgment.proofs.process_outgoing.Goals as goal
use Rattle.acknowledgment.proofs.process_outgoing.Goals.{In_ok-lent, Else-is_too_long, Else-sizes-payload, In-Some}

known : (c : In_ok-lent) → Past c.args.sizes c.args.received.now c.args.number.now c.args.records.now c.args.bytes.now
known c = past c.args.sizes c.args.received.now c.args.number.now c.args.records.now c.args.bytes.now (sym c.lent.ensures ∙ c.in_ok-lent.was)

short : (c : Else-is_too_long) → too_long c.args.sizes c.args.sent (length c.args.payload.now) ≡ false
short c = sym c.is_too_long.ensures ∙ c.if-is_too_long.false

few : (c : Else-sizes-payload) → ltb (c.args.sizes.max_fragments * c.args.sizes.fragment_size) (length c.args.payload.now) ≡ false
few c = le-ltb _ _ c.if-sizes-payload.false

-- the place that is found is the number's, and one of the table's
record Placed (c : In-Some) : Type 0 where
  roomy : full c.args.state.sequence_number.0 (numbers_in (table_of c.args.sizes c.args.number.now)) ≡ false
  at_is : c.in-Some.at ≡ place_of c.args.state.sequence_number.0 (numbers_in (table_of c.args.sizes c.args.number.now))
  within : c.in-Some.at < c.args.sizes.packets_in_flight

placed : (c : In-Some) → Past c.args.sizes c.args.received.now c.args.number.now c.args.records.now c.args.bytes.now → Placed c
placed c k =
    let p = full_some c.args.state.sequence_number.0 (table_of c.args.sizes c.args.number.now) (omega (arith, k.whole, k.sizes.n)) c.in-Some.at (sym c.place.ensures ∙ c.in-Some.is) in
    record { roomy = p.0; at_is = sym p.1.0; within = omega (arith, p.1.1, k.whole) }

pub returns-in_err-lent : goal.returns-in_err-lent
returns-in_err-lent c =
    let p = err_from_is_err_and c.from_residual.result c.from_residual.ensures.1 in
    let s = (lending c.args.state c.args.received.now c.args.number.now c.args.records.now c.args.bytes.now) in
    rw (p.1, p.2) (not_sent c.args.sizes s c.args.sent c.args.payload.now _ (outgoing_shut c.args.sizes s c.args.sent (length c.args.payload.now) _ (sym c.lent.ensures ∙ c.in_err-lent.was)))

pub sound-requires : goal.sound-requires
sound-requires c =
    let k = known (goal.at.sound-requires c).In_ok-lent in
    (k.within_range, k.lengths.slots, k.lengths.numbers)

pub returns-in_err-at_home : goal.returns-in_err-at_home
unfolding outgoing_of
returns-in_err-at_home c =
    let k = known (goal.at.returns-in_err-at_home c).In_ok-lent in
    let p = err_from_is_err_and c.from_residual-in_err-at_home.result c.from_residual-in_err-at_home.ensures.1 in
    let j = c.in_err-at_home.ensures in
    rw (p.1, p.2, j.1) (not_sent c.args.sizes (lending c.args.state c.args.received.now c.args.number.now c.args.records.now c.args.bytes.now) _ _ BadState (rw (k.within_range, k.long, j.0)))

pub returns-then-is_too_long : goal.returns-then-is_too_long
unfolding outgoing_of
returns-then-is_too_long c =
    let k = known (goal.at.returns-then-is_too_long c).In_ok-lent in
    let over = sym c.is_too_long.ensures ∙ c.if-is_too_long.true in
    not_sent c.args.sizes (lending c.args.state c.args.received.now c.args.number.now c.args.records.now c.args.bytes.now) _ c.args.payload.now TooLong (rw (k.within_range, k.long, c.in_ok-at_home.ensures.0, over))

pub overflow_mul-sizes : goal.overflow_mul-sizes
overflow_mul-sizes c =
    let z = c.args.sizes in
    let h = (known (goal.at.overflow_mul-sizes c).In_ok-lent).sizes in
    record { fits = omega (arith, mul-le-mul {n₁ = z.max_fragments} {m₁ = z.fragment_size} {n₂ = 16} {m₂ = 1024} h.m.1 h.f.1) }

pub returns-then-sizes-payload : goal.returns-then-sizes-payload
unfolding outgoing_of
returns-then-sizes-payload c =
    let k = known (goal.at.returns-then-sizes-payload c).In_ok-lent in
    not_sent c.args.sizes (lending c.args.state c.args.received.now c.args.number.now c.args.records.now c.args.bytes.now) _ c.args.payload.now ExceededMaxFragments (rw (k.within_range, k.long, c.in_ok-at_home.ensures.0, short (goal.at.returns-then-sizes-payload c).Else-is_too_long, lt-ltb _ _ c.if-sizes-payload.true))

pub slice_bounds-place-end : goal.slice_bounds-place-end
slice_bounds-place-end c = (known (goal.at.slice_bounds-place-end c).In_ok-lent).lengths.numbers

pub slice_bounds-place-end-2 : goal.slice_bounds-place-end-2
slice_bounds-place-end-2 c = omega (arith, (known (goal.at.slice_bounds-place-end-2 c).In_ok-lent).whole)

pub place-requires : goal.place-requires
place-requires c =
    let k = known (goal.at.place-requires c).In_ok-lent in
    (omega (arith, k.whole, k.sizes.n), λ e. (c.in_ok-at_home.ensures.1 e).home)

pub returns-in_default : goal.returns-in_default
unfolding outgoing_of
returns-in_default c =
    let k = known (goal.at.returns-in_default c).In_ok-lent in
    let taken = full_none c.args.state.sequence_number.0 (table_of c.args.sizes c.args.number.now) (omega (arith, k.whole, k.sizes.n)) (sym c.place.ensures ∙ c.in_default.is) in
    not_sent c.args.sizes (lending c.args.state c.args.received.now c.args.number.now c.args.records.now c.args.bytes.now) _ c.args.payload.now Full (rw (k.within_range, k.long, c.in_ok-at_home.ensures.0, short (goal.at.returns-in_default c).Else-is_too_long, few (goal.at.returns-in_default c).Else-sizes-payload, taken))

pub overflow_mul-room : goal.overflow_mul-room
overflow_mul-room c = omega (arith, (known (goal.at.overflow_mul-room c).In_ok-lent).sizes.f)

pub store-requires : goal.store-requires
store-requires c =
    let z = c.args.sizes in
    let k = known (goal.at.store-requires c).In_ok-lent in
    let h = (placed (goal.at.store-requires c).In-Some k).within in
    let m = mul-le-mul_right {m = z.max_fragments} {n = 16} z.fragment_size k.sizes.m.1 in
    let p = c.if-sizes-payload.false in
    (omega (arith, h, k.lengths.numbers), omega (arith, h, k.lengths.recorded), omega (arith, slot_end c.in-Some.at z.packets_in_flight (slot_of z) h, k.lengths.room), omega (arith, m, p), omega (arith, m, p, k.sizes.f))

pub returns : goal.returns
returns c =
    let k = known (goal.at.returns c).In_ok-lent in
    let q = placed (goal.at.returns c).In-Some k in
    stored c.args.sizes (lending c.args.state c.args.received.now c.args.number.now c.args.records.now c.args.bytes.now) c.args.sent c.args.payload.now k.within_range k.long c.in_ok-at_home.ensures.0 (short (goal.at.returns c).Else-is_too_long) (few (goal.at.returns c).Else-sizes-payload) q.roomy
    c.sent.ensures q.at_is (c.store.ensures.number_after, (c.store.ensures.records_after, c.store.ensures.bytes_after))
