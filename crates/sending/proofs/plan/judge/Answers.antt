-- A rung of the plan for each refusal, in its order; 6 is that there is no place in flight (`fullness`).
use mathlib.Core.Path.{◌≡◌, sym, ap, ◌∙◌}
use mathlib.Core.Bool.{true, false}
use Prim.Native.Nat.{ℕ, ◌≤◌}
use native.Mathlib.Omega.{arith}
use lib.Dec.{ltb, eqb}
use lib.ListN.{length}
use borrow.Author.Tests.{lt-ltb, le-ltb, eq-eqb, ne_eqb}
use Rattle.terms.proofs.Ranges.{InRange, in_range_means}
use native.Mathlib.Nat.{le_antisymm}
use Rattle.flight.proofs.Found.{found_is, found_none}
use Rattle.splitter.specs.Split.{needed}
use Rattle.sending.specs.Plan.{is_listed, is_long, stream_place}
use Rattle.sending.proofs.Planned.{as_many, no_place, place_most, unlisted, too_long, too_many, fifth, no_room, goes}
use Rattle.sending.proofs.plan.judge.Goals as goal
use Rattle.sending.proofs.plan.judge.Goals.{Else-is_long, Else-not-is_listed, Else-sizes-count, Else-stream-eq4, Start}

sizes : (c : Start) → InRange c.args.sizes
sizes c = in_range_means c.args.sizes c.requires.0

some : (c : Start) → 1 ≤ length c.args.number.now
some c = omega (arith, c.requires.1, ((in_range_means c.args.sizes c.requires.0)).n.0)

listed : (c : Else-not-is_listed) → is_listed c.args.item ≡ true
listed c = sym c.is_listed.ensures ∙ c.if-not-is_listed.false

short : (c : Else-is_long) → is_long c.args.sizes.fragment_size c.args.item c.args.size ≡ false
short c = sym c.is_long.ensures ∙ c.if-is_long.false

few : (c : Else-sizes-count) → ltb c.args.sizes.max_fragments (needed c.args.size c.args.sizes.fragment_size) ≡ false
few c =
    let z = (in_range_means c.args.sizes c.requires.0) in
    rw (← (as_many _ _ _ z.m.0 z.f.0), ← c.count.ensures) (le-ltb _ _ c.if-sizes-count.false)

known : (c : Else-stream-eq4) → eqb (stream_place c.args.item c.args.ordered c.args.sequenced) 4 ≡ false
known c = ap (λ (k : ℕ). eqb k 4) (sym c.stream_place-stream.ensures) ∙ ne_eqb _ _ c.if-stream-eq4.false

pub returns-then-not-is_listed : goal.returns-then-not-is_listed
returns-then-not-is_listed c =
    let a = c.args in
    let bad : is_listed a.item ≡ false = sym c.is_listed.ensures ∙ c.if-not-is_listed.true in
    sym (unlisted a.sizes _ _ _ _ _ _ bad)

pub returns-then-is_long : goal.returns-then-is_long
returns-then-is_long c =
    let a = c.args in
    let over : is_long a.sizes.fragment_size a.item a.size ≡ true = sym c.is_long.ensures ∙ c.if-is_long.true in
    sym (too_long a.sizes _ _ _ _ _ _ (listed (goal.at.returns-then-is_long c).Else-not-is_listed) over)

pub count-requires : goal.count-requires
count-requires c = (sizes (goal.at.count-requires c).Start).f

pub returns-then-sizes-count : goal.returns-then-sizes-count
returns-then-sizes-count c =
    let a = c.args in
    let z = sizes (goal.at.returns-then-sizes-count c).Start in
    let many : ltb a.sizes.max_fragments (needed a.size a.sizes.fragment_size) ≡ true = rw (← (as_many _ _ _ z.m.0 z.f.0), ← c.count.ensures) (lt-ltb _ _ c.if-sizes-count.true) in
    sym (too_many a.sizes _ _ _ _ _ _ (listed (goal.at.returns-then-sizes-count c).Else-not-is_listed) (short (goal.at.returns-then-sizes-count c).Else-is_long) many)

pub returns-then-stream-eq4 : goal.returns-then-stream-eq4
returns-then-stream-eq4 c =
    let a = c.args in
    let out : eqb (stream_place a.item a.ordered a.sequenced) 4 ≡ true = ap (λ (k : ℕ). eqb k 4) (sym c.stream_place-stream.ensures) ∙ eq-eqb _ _ c.if-stream-eq4.true in
    sym (fifth a.sizes _ _ _ _ _ _ (listed (goal.at.returns-then-stream-eq4 c).Else-not-is_listed) (short (goal.at.returns-then-stream-eq4 c).Else-is_long) (few (goal.at.returns-then-stream-eq4 c).Else-sizes-count) out)

pub flight_place-requires : goal.flight_place-requires
flight_place-requires c = (some (goal.at.flight_place-requires c).Start, c.requires.4)

pub returns-in_default : goal.returns-in_default
returns-in_default c =
    let a = c.args in
    let most = found_none _ _ (sym c.in_default.ensures) in
    let out = no_place a.item.delivery a.acks.sequence_number.0 a.number.now (some (goal.at.returns-in_default c).Start) ∙ eq-eqb _ _ (le_antisymm (place_most a.item.delivery a.acks.sequence_number.0 a.number.now (some (goal.at.returns-in_default c).Start)) most) in
    sym (no_room a.sizes _ _ _ _ _ _ (listed (goal.at.returns-in_default c).Else-not-is_listed) (short (goal.at.returns-in_default c).Else-is_long) (few (goal.at.returns-in_default c).Else-sizes-count) (known (goal.at.returns-in_default c).Else-stream-eq4) out)

pub returns : goal.returns
returns c =
    let a = c.args in
    let here = found_is _ _ c.in-Some.at (sym c.in-Some.ensures) in
    let free = no_place a.item.delivery a.acks.sequence_number.0 a.number.now (some (goal.at.returns c).Start) ∙ ne_eqb _ _ (λ e. omega (arith, here.1)) in
    rw (← here.0, c.stream_place-stream.ensures)
    (sym (goes a.sizes _ _ _ _ _ _ (listed (goal.at.returns c).Else-not-is_listed) (short (goal.at.returns c).Else-is_long) (few (goal.at.returns c).Else-sizes-count) (known (goal.at.returns c).Else-stream-eq4) free))
