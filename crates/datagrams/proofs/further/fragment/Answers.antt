-- A packet in flight has a place (`place`), and its slot holds its payload (`slot`), so that the part lent is the payload (`piece_is`).
use mathlib.Core.Path.{◌≡◌, refl, sym, ap, ◌∙◌}
use Prim.Native.Nat.{ℕ, ◌*◌, ◌≤◌, ◌<◌}
use native.Mathlib.Nat.{add-sub_cancel_left}
use native.Mathlib.Omega.{arith}
use mathlib.Core.List.{[]}
use lib.ListN.{length, get_or, take, drop}
use Rattle.ends.specs.State.{State, lending}
use Rattle.ends.proofs.Opened.{Opened, opened}
use Rattle.acks.specs.State.{table_of}
use Rattle.flight.specs.Entry.{length_of, bytes_at}
use Rattle.flight.proofs.Found.{found_is, found_none}
use Rattle.splitter.specs.Split.{needed, pieces}
use Rattle.packet_table.specs.Table.{follows}
use Rattle.datagrams.specs.Further.{place_for, fragment_standard}
use Rattle.datagrams.proofs.Fragments.{whole, none_there, none_over, none_left, written, Slot, in_slot, piece_most, fragment_room}
use Rattle.datagrams.proofs.further.fragment.Goals as goal
use Rattle.datagrams.proofs.further.fragment.Goals.{After-fragment-piece, After-headers_after-following, After-payload_length-count, In-Some, Start}

abbrev state : Start → State
state c = lending c.args.end c.args.received.now c.args.number.now c.args.records.now c.args.payloads.now c.args.slots.now c.args.entry.now c.args.header.now c.args.joined.now c.args.index.now c.args.lengths.now c.args.held.now

gate : (c : Start) → Opened c.args.sizes (state c) c.args.output.now
gate c = opened c.args.sizes (state c) c.args.output.now c.requires.0

table : (c : Start) → length (table_of c.args.sizes c.args.number.now) ≡ c.args.sizes.packets_in_flight
table c = whole c.args.sizes (state c) c.args.output.now (gate c)

-- where it is found
place : (c : In-Some) → (c.in-Some.at ≡ place_for c.args.sizes c.args.number.now c.args.packet.0) × (c.in-Some.at < c.args.sizes.packets_in_flight)
place c =
    let a = c.args in
    let s = lending a.end a.received.now a.number.now a.records.now a.payloads.now a.slots.now a.entry.now a.header.now a.joined.now a.index.now a.lengths.now a.held.now in
    let w = found_is _ _ c.in-Some.at (sym c.in-Some.ensures) in
    (sym w.0, omega (arith, w.0, w.1, whole a.sizes s a.output.now (opened a.sizes s a.output.now c.requires.0)))

within : (c : In-Some) → c.in-Some.at < c.args.sizes.packets_in_flight
within c = (place c).1

slot : (c : After-payload_length-count) → (c.in-Some.at ≡ place_for c.args.sizes c.args.number.now c.args.packet.0) × (c.in-Some.at < c.args.sizes.packets_in_flight)
    → Slot c.args.sizes c.args.payloads.now c.in-Some.at c.payload_length-count.result
slot c w =
    let a = c.args in
    let s = lending a.end a.received.now a.number.now a.records.now a.payloads.now a.slots.now a.entry.now a.header.now a.joined.now a.index.now a.lengths.now a.held.now in
    let small : a.packet.0 < 65536 = omega (arith, c.well_formed.1.1.1.1.1.1.1.1.1.1.1.1.1.0) in
    in_slot a.sizes s a.output.now (opened a.sizes s a.output.now c.requires.0) a.packet.0 c.in-Some.at c.payload_length-count.result small w.0 w.1 c.payload_length-count.ensures

-- the part that is lent is the payload
piece_is : (c : After-fragment-piece) → c.fragment-piece.result.now ≡ get_or (pieces c.args.sizes.fragment_size (bytes_at (16 * c.args.sizes.fragment_size) c.args.payloads.now c.in-Some.at c.payload_length-count.result)) c.args.j []
piece_is c =
    let a = c.args in
    let start = c.in-Some.at * (16 * a.sizes.fragment_size) in
    c.fragment-piece.ensures ∙ ap (λ (n : ℕ). get_or (pieces a.sizes.fragment_size (take n (drop start a.payloads.now))) a.j []) (add-sub_cancel_left start c.payload_length-count.result)

listing : (c : After-headers_after-following) → c.headers_after-following.result ≡ follows fragment_standard
listing c = c.headers_after-following.ensures ∙ ap follows c.standard.ensures

pub slice_bounds-find-end : goal.slice_bounds-find-end
slice_bounds-find-end c = sym (table (goal.at.slice_bounds-find-end c).Start)

pub find-requires : goal.find-requires
find-requires c = c.requires.1

pub returns-in_default : goal.returns-in_default
returns-in_default c =
    let a = c.args in
    let w = found_none _ _ (sym c.in_default.ensures) in
    let both =
    none_there a.sizes a.end.acks a.received.now a.number.now a.payloads.now a.packet.0 a.j (omega (arith, w, table (goal.at.returns-in_default c).Start)) a.output.now in
    record { value = both.0; output_after = both.1 }

pub offset_bounds-number-at : goal.offset_bounds-number-at
offset_bounds-number-at c = omega (arith, within (goal.at.offset_bounds-number-at c).In-Some, (gate (goal.at.offset_bounds-number-at c).Start).within_range.n.1)

pub bounds-number-at : goal.bounds-number-at
bounds-number-at c = omega (arith, within (goal.at.bounds-number-at c).In-Some, (gate (goal.at.bounds-number-at c).Start).number_room)

pub returns-then-count-f : goal.returns-then-count-f
returns-then-count-f c =
    let a = c.args in
    let at = (place (goal.at.returns-then-count-f c).In-Some).0 in
    let count = c.payload_length-count.ensures ∙ ap (λ (k : ℕ). length_of (get_or a.number.now k 0)) at in
    let both =
    none_over a.sizes a.end.acks a.received.now a.number.now a.payloads.now a.packet.0 a.j (omega (arith, within (goal.at.returns-then-count-f c).In-Some, at)) (omega (arith, c.if-count-f.true, count)) a.output.now in
    record { value = both.0; output_after = both.1 }

pub fragments_needed-total-requires : goal.fragments_needed-total-requires
fragments_needed-total-requires c = (gate (goal.at.fragments_needed-total-requires c).Start).within_range.f

pub returns-then-total-j : goal.returns-then-total-j
returns-then-total-j c =
    let a = c.args in
    let at = (place (goal.at.returns-then-total-j c).In-Some).0 in
    let count = c.payload_length-count.ensures ∙ ap (λ (k : ℕ). length_of (get_or a.number.now k 0)) at in
    let total = c.fragments_needed-total.ensures ∙ ap (λ (k : ℕ). needed k a.sizes.fragment_size) count in
    let both =
    none_left a.sizes a.end.acks a.received.now a.number.now a.payloads.now a.packet.0 a.j (omega (arith, within (goal.at.returns-then-total-j c).In-Some, at)) (omega (arith, c.if-count-f.false, count)) (omega (arith, c.if-total-j.true, total)) a.output.now in
    record { value = both.0; output_after = both.1 }

pub overflow_mul-start : goal.overflow_mul-start
overflow_mul-start c = omega (arith, (gate (goal.at.overflow_mul-start c).Start).within_range.f.1)

pub overflow_mul-start-2 : goal.overflow_mul-start-2
overflow_mul-start-2 c = omega (arith, (slot (goal.at.overflow_mul-start-2 c).After-payload_length-count (place (goal.at.overflow_mul-start-2 c).In-Some)).low)

pub overflow_add-start : goal.overflow_add-start
overflow_add-start c = omega (arith, (slot (goal.at.overflow_add-start c).After-payload_length-count (place (goal.at.overflow_add-start c).In-Some)).low, (slot (goal.at.overflow_add-start c).After-payload_length-count (place (goal.at.overflow_add-start c).In-Some)).fits)

pub slice_bounds-fragment-end : goal.slice_bounds-fragment-end
slice_bounds-fragment-end c = (slot (goal.at.slice_bounds-fragment-end c).After-payload_length-count (place (goal.at.slice_bounds-fragment-end c).In-Some)).ends

pub fragment-piece-requires : goal.fragment-piece-requires
fragment-piece-requires c =
    let f = (gate (goal.at.fragment-piece-requires c).Start).within_range.f in
    let start = c.in-Some.at * (16 * c.args.sizes.fragment_size) in
    let below = c.if-total-j.false in
    (f.0, f.1, rw (add-sub_cancel_left start c.payload_length-count.result, (slot (goal.at.fragment-piece-requires c).After-payload_length-count (place (goal.at.fragment-piece-requires c).In-Some)).part) (rw c.fragments_needed-total.ensures at below))

pub headers-headers-requires : goal.headers-headers-requires
headers-headers-requires c =
    let few = rw (← c.fragments_needed-total.ensures) at (slot (goal.at.headers-headers-requires c).After-payload_length-count (place (goal.at.headers-headers-requires c).In-Some)).few in
    (listing (goal.at.headers-headers-requires c).After-headers_after-following, (gate (goal.at.headers-headers-requires c).Start).received_room, omega (arith, few, c.if-total-j.false), omega (arith, few), c.requires.2)

pub write-requires : goal.write-requires
write-requires c =
    let a = c.args in
    let g = gate (goal.at.write-requires c).Start in
    let f = g.within_range.f.0 in
    let p : length c.fragment-piece.result.now ≤ a.sizes.fragment_size = rw (piece_is (goal.at.write-requires c).After-fragment-piece) (piece_most a.sizes.fragment_size (bytes_at (16 * a.sizes.fragment_size) a.payloads.now c.in-Some.at c.payload_length-count.result) a.j f) in
    rw (c.headers-headers.ensures, listing (goal.at.write-requires c).After-headers_after-following)
    (refl, fragment_room a.end.acks a.received.now a.packet a.sizes.fragment_size a.j c.fragments_needed-total.result c.fragment-piece.result.now a.output.now f p g.output_room)

pub returns : goal.returns
returns c =
    let a = c.args in
    let both =
    written a.sizes a.end.acks a.received.now a.number.now a.payloads.now a.packet.0 a.j
    c.in-Some.at c.payload_length-count.result c.fragments_needed-total.result c.headers-headers.result c.fragment-piece.result.now a.output.now _ _
    (place (goal.at.returns c).In-Some).0 c.payload_length-count.ensures c.fragments_needed-total.ensures c.headers-headers.ensures (piece_is (goal.at.returns c).After-fragment-piece) (within (goal.at.returns c).In-Some) c.if-count-f.false c.if-total-j.false c.write.ensures in
    record { value = both.0; output_after = both.1 }
