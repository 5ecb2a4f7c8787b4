-- 1, 2 and 13 rung by rung; what is lent is long enough for 13 to be tried. What is known of the packets in flight and of
-- the received record is what `is_home` and `is_lapped` saw.
use mathlib.Core.Path.{◌≡◌, sym, ◌∙◌}
use mathlib.Core.Bool.{true}
use mathlib.Core.List.{List}
use Prim.Native.Nat.{ℕ, ◌≤◌}
use native.Mathlib.Omega.{arith}
use lib.ListN.{length, take}
use lib.Seq.{length-take-le}
use Rattle.terms.specs.Sizes.{in_range}
use Rattle.terms.proofs.Ranges.{in_range_means}
use Rattle.ends.specs.State.{State, lending}
use Rattle.ends.specs.Gate.{is_lent}
use Rattle.ends.proofs.Rungs.{no_counters, RecordSound, RestSound, rest_unsound, record_unsound, both_sound}
use Rattle.ends.proofs.Opened.{stored_means, gate_sizes, gate_storage, gate_state, opens}
use Rattle.ends.proofs.gate.look.Goals as goal
use Rattle.ends.proofs.gate.look.Goals.{After-is_record_sound, After-is_sound, Else-not-in_range, Else-not-is_lent, Start}

abbrev whole : Start → State
whole c = lending c.args.end c.args.received.now c.args.number.now c.args.records.now c.args.payloads.now c.args.slots.now c.args.entry.now c.args.header.now c.args.joined.now c.args.index.now c.args.lengths.now c.args.held.now

abbrev out : Start → List ℕ
out c = c.args.output.now

ranged : (c : Else-not-in_range) → in_range c.args.sizes ≡ true
ranged c = sym c.in_range.ensures ∙ c.if-not-in_range.false

stored : (c : Else-not-is_lent) → is_lent c.args.sizes ((lending c.args.end c.args.received.now c.args.number.now c.args.records.now c.args.payloads.now c.args.slots.now c.args.entry.now c.args.header.now c.args.joined.now c.args.index.now c.args.lengths.now c.args.held.now)) ((c.args.output.now)) ≡ true
stored c =
    let s = c in
    no_counters s.args.sizes ((lending s.args.end s.args.received.now s.args.number.now s.args.records.now s.args.payloads.now s.args.slots.now s.args.entry.now s.args.header.now s.args.joined.now s.args.index.now s.args.lengths.now s.args.held.now)) ((s.args.output.now)) ∙ sym c.is_lent.ensures ∙ c.if-not-is_lent.false

some : (c : Else-not-is_lent) → 1 ≤ length (take c.args.sizes.packets_in_flight c.args.number.now)
some c =
    let s = c in
    omega (arith, (in_range_means s.args.sizes ((sym c.in_range.ensures ∙ c.if-not-in_range.false))).n, length-take-le s.args.sizes.packets_in_flight s.args.number.now (stored_means s.args.sizes ((lending s.args.end s.args.received.now s.args.number.now s.args.records.now s.args.payloads.now s.args.slots.now s.args.entry.now s.args.header.now s.args.joined.now s.args.index.now s.args.lengths.now s.args.held.now)) ((s.args.output.now)) ((let s = c.before.before.before.before.before.before.before.before.before.before.before.before.before.before.before.before in no_counters s.args.sizes ((lending s.args.end s.args.received.now s.args.number.now s.args.records.now s.args.payloads.now s.args.slots.now s.args.entry.now s.args.header.now s.args.joined.now s.args.index.now s.args.lengths.now s.args.held.now)) ((s.args.output.now)) ∙ sym c.is_lent.ensures ∙ c.if-not-is_lent.false))).acks.numbers)

-- 13 of all but the received record, and of that
rest : (c : After-is_sound) → RestSound c.args.sizes ((lending c.args.end c.args.received.now c.args.number.now c.args.records.now c.args.payloads.now c.args.slots.now c.args.entry.now c.args.header.now c.args.joined.now c.args.index.now c.args.lengths.now c.args.held.now)) ≡ c.is_sound.result
rest c = sym c.is_sound.ensures

record_is : (c : After-is_record_sound) → RecordSound c.args.sizes ((lending c.args.end c.args.received.now c.args.number.now c.args.records.now c.args.payloads.now c.args.slots.now c.args.entry.now c.args.header.now c.args.joined.now c.args.index.now c.args.lengths.now c.args.held.now)) ≡ c.is_record_sound.result
record_is c = sym c.is_record_sound.ensures

pub returns-then-not-in_range : goal.returns-then-not-in_range
returns-then-not-in_range c =
    let s = (goal.at.returns-then-not-in_range c).Start in
    record { gate_value = sym (gate_sizes s.args.sizes (whole s) (out s) (sym c.in_range.ensures ∙ c.if-not-in_range.true)); known_home = tt; known_lapped = tt }

pub is_lent-requires : goal.is_lent-requires
is_lent-requires c = ranged (goal.at.is_lent-requires c).Else-not-in_range

pub returns-then-not-is_lent : goal.returns-then-not-is_lent
returns-then-not-is_lent c =
    let s = (goal.at.returns-then-not-is_lent c).Start in
    record { gate_value = sym (gate_storage s.args.sizes (whole s) (out s) (ranged (goal.at.returns-then-not-is_lent c).Else-not-in_range) (no_counters s.args.sizes (whole s) (out s) ∙ sym c.is_lent.ensures ∙ c.if-not-is_lent.true)); known_home = tt; known_lapped = tt }

pub is_home-home-requires : goal.is_home-home-requires
is_home-home-requires c =
    let s = (goal.at.is_home-home-requires c).Start in
    let t = stored_means s.args.sizes (whole s) (out s) (stored (goal.at.is_home-home-requires c).Else-not-is_lent) in
    (ranged (goal.at.is_home-home-requires c).Else-not-in_range, t.acks.numbers)

pub is_sound-requires : goal.is_sound-requires
is_sound-requires c =
    let s = (goal.at.is_sound-requires c).Start in
    let t = stored_means s.args.sizes (whole s) (out s) (stored (goal.at.is_sound-requires c).Else-not-is_lent) in
    (ranged (goal.at.is_sound-requires c).Else-not-in_range, t.acks.numbers, t.parts.slots_c, t.parts.entry_c, t.ordered.index_room, t.ordered.lengths_room, c.is_home-home.ensures)

pub returns-then-not-is_sound : goal.returns-then-not-is_sound
returns-then-not-is_sound c =
    let s = (goal.at.returns-then-not-is_sound c).Start in
    let r = (goal.at.returns-then-not-is_sound c).After-is_sound in record { gate_value = sym (gate_state s.args.sizes (whole s) (out s) (ranged (goal.at.returns-then-not-is_sound c).Else-not-in_range) (stored (goal.at.returns-then-not-is_sound c).Else-not-is_lent) (rest_unsound s.args.sizes (whole s) (rest r ∙ c.if-not-is_sound.true))); known_home = tt; known_lapped = tt }

pub is_lapped-lapped-requires : goal.is_lapped-lapped-requires
is_lapped-lapped-requires c =
    let s = (goal.at.is_lapped-lapped-requires c).Start in
    (stored_means s.args.sizes (whole s) (out s) (stored (goal.at.is_lapped-lapped-requires c).Else-not-is_lent)).acks.slots

pub is_record_sound-requires : goal.is_record_sound-requires
is_record_sound-requires c =
    let s = (goal.at.is_record_sound-requires c).Start in
    ((stored_means s.args.sizes (whole s) (out s) (stored (goal.at.is_record_sound-requires c).Else-not-is_lent)).acks.slots, c.is_lapped-lapped.ensures.received_value)

pub returns-then-not-is_record_sound : goal.returns-then-not-is_record_sound
returns-then-not-is_record_sound c =
    let s = (goal.at.returns-then-not-is_record_sound c).Start in
    let r = (goal.at.returns-then-not-is_record_sound c).After-is_record_sound in record { gate_value = sym (gate_state s.args.sizes (whole s) (out s) (ranged (goal.at.returns-then-not-is_record_sound c).Else-not-in_range) (stored (goal.at.returns-then-not-is_record_sound c).Else-not-is_lent) (record_unsound s.args.sizes (whole s) (record_is r ∙ c.if-not-is_record_sound.true))); known_home = tt; known_lapped = tt }

pub returns : goal.returns
returns c =
    let s = (goal.at.returns c).Start in
    let r = (goal.at.returns c).After-is_sound in
    let t = (goal.at.returns c).After-is_record_sound in record { gate_value = sym (opens s.args.sizes (whole s) (out s) (ranged (goal.at.returns c).Else-not-in_range) (stored (goal.at.returns c).Else-not-is_lent) (both_sound s.args.sizes (whole s) (record_is t ∙ c.if-not-is_record_sound.false) (rest r ∙ c.if-not-is_sound.false))); known_home = λ h. (some (goal.at.returns c).Else-not-is_lent, (c.is_home-home.ensures h).home); known_lapped = c.is_lapped-lapped.ensures.known_lapped }
