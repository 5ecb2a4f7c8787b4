-- A rung of the ladder for each refusal, then the count.
use mathlib.Core.Path.{◌≡◌, sym, ◌∙◌}
use mathlib.Core.Bool.{true, false}
use Prim.Native.Nat.{◌≤◌}
use native.Mathlib.Omega.{arith}
use lib.ListN.{length}
use lib.Seq.{length-take-le}
use Rattle.std.specs.Prelude.{Ok, Err}
use Rattle.terms.specs.Sizes.{in_range}
use Rattle.terms.proofs.Ranges.{in_range_means}
use Rattle.flight.specs.Entry.{numbers_in}
use Rattle.flight.specs.Places.{count_of}
use Rattle.acks.specs.State.{table_of}
use Rattle.acks.specs.Gate.{flight_lent}
use Rattle.acks.specs.Questions.{counted_of}
use Rattle.acks.proofs.Gates.{flight_means, unsound}
use Rattle.acks.proofs.packets_in_flight.Goals as goal
use Rattle.acks.proofs.packets_in_flight.Goals.{After-count, Else-not-in_range, Else-not-is_flight_lent}

within_range : (c : Else-not-in_range) → in_range c.args.sizes ≡ true
within_range c = sym c.in_range.ensures ∙ c.if-not-in_range.false

long : (c : Else-not-is_flight_lent) → flight_lent c.args.sizes c.args.number.now c.args.records.now ≡ true
long c = sym c.is_flight_lent.ensures ∙ c.if-not-is_flight_lent.false

lengths : (c : Else-not-is_flight_lent) → (c.args.sizes.packets_in_flight ≤ length c.args.number.now) × (c.args.sizes.packets_in_flight ≤ length c.args.records.now)
lengths c = flight_means c.args.sizes c.args.number.now c.args.records.now (long c)

whole : (c : Else-not-is_flight_lent) → length (table_of c.args.sizes c.args.number.now) ≡ c.args.sizes.packets_in_flight
whole c = length-take-le c.args.sizes.packets_in_flight c.args.number.now (lengths c).0

-- the table alone is counted
counted : (c : After-count) → c.count.result ≡ count_of (numbers_in (table_of c.args.sizes c.args.number.now))
counted c = c.count.ensures

pub returns-then-not-in_range : goal.returns-then-not-in_range
unfolding counted_of
returns-then-not-in_range c =
    let out : in_range c.args.sizes ≡ false = sym c.in_range.ensures ∙ c.if-not-in_range.true in
    rw out

pub returns-then-not-is_flight_lent : goal.returns-then-not-is_flight_lent
unfolding counted_of
returns-then-not-is_flight_lent c =
    let short = sym c.is_flight_lent.ensures ∙ c.if-not-is_flight_lent.true in
    rw (within_range (goal.at.returns-then-not-is_flight_lent c).Else-not-in_range, short)

pub slice_bounds-table-end : goal.slice_bounds-table-end
slice_bounds-table-end c = omega (arith, whole (goal.at.slice_bounds-table-end c).Else-not-is_flight_lent)

pub overflow_mul-sizes : goal.overflow_mul-sizes
overflow_mul-sizes c = let h = in_range_means _ (within_range (goal.at.overflow_mul-sizes c).Else-not-in_range) in omega (arith, h.f)

pub is_sound-requires : goal.is_sound-requires
is_sound-requires c = omega (arith, whole (goal.at.is_sound-requires c).Else-not-is_flight_lent, (in_range_means _ (within_range (goal.at.is_sound-requires c).Else-not-in_range)).n)

pub returns-then-not-is_sound : goal.returns-then-not-is_sound
unfolding counted_of
returns-then-not-is_sound c =
    let bad = sym c.is_sound.ensures ∙ c.if-not-is_sound.true in
    rw (long (goal.at.returns-then-not-is_sound c).Else-not-is_flight_lent, bad) (sym (unsound _ Err (Ok 0) (within_range (goal.at.returns-then-not-is_sound c).Else-not-in_range)))

pub returns : goal.returns
unfolding counted_of
returns c =
    let good = sym c.is_sound.ensures ∙ c.if-not-is_sound.false in
    rw (within_range (goal.at.returns c).Else-not-in_range, long (goal.at.returns c).Else-not-is_flight_lent, good, counted (goal.at.returns c).After-count)
