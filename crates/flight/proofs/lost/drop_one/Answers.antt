-- The least lost number stands in the table (`found`), so its slot ends within the bytes (`ends`) and holds its payload (`fits`).
use Rattle.std.proofs.Common.{◌≡◌, ℕ, ◌+◌, ◌*◌, ◌%◌, ◌<◌, ◌≤◌, List, ◌++◌, length, get_or, take, drop, sym, ap, ◌∙◌, arith, rules, le-ltb, lt-ltb}
use native.Mathlib.Nat.{add-sub_cancel_left}
use lib.Seq.{take-length}
use Rattle.laws.proofs.Slots.{slot_end, part_length}
use Rattle.key_parts.specs.Words.{no_packet}
use Rattle.keys.specs.Keys.{first_place}
use Rattle.flight.specs.Entry.{numbers_in}
use Rattle.flight.specs.Lost.{least_lost, drop_of}
use Rattle.flight.proofs.Found.{least_found, fits_at, found_is, found_none}
use Rattle.flight.proofs.Words.{is_number, numbers_length}
use Rattle.flight.proofs.Viewed.{word_at}
use Rattle.flight.proofs.lost.drop_one.Goals as goal
use Rattle.flight.proofs.lost.drop_one.Goals.{In_ok-at}

-- the least lost number stands in the table
there : (remote least : ℕ) (words : List ℕ) → least ≡ least_lost remote (numbers_in words) → least < 65536 → first_place least (numbers_in words) < length words
there remote least words e h =
    omega (arith, numbers_length words, rw (← e) at (least_found remote (numbers_in words) (omega (arith, e))))

-- what is known once the number is found
record Found (c : In_ok-at) : Type 0 where
  at_is : first_place c.least_lost-least.result (numbers_in c.args.number.now) ≡ c.in_ok-at.at
  within : c.in_ok-at.at < length c.args.number.now
  ends : c.in_ok-at.at * c.args.room + c.args.room ≤ length c.args.bytes.now
  in_flight : get_or c.args.number.now c.in_ok-at.at 0 < no_packet

found : (c : In_ok-at) → Found c
found c =
    let words = c.args.number.now in
    let least = c.least_lost-least.result in
    let e = found_is (first_place least (numbers_in words)) (length words) c.in_ok-at.at (sym c.find.ensures ∙ c.in_ok-at.was) in
    let within : c.in_ok-at.at < length words = omega (arith, e) in
    record {
      at_is = e.0;
      within = within;
      ends = omega (arith, slot_end c.in_ok-at.at (length words) c.args.room within, c.requires.0.slots);
      in_flight = is_number (get_or words c.in_ok-at.at 0) (omega (arith, rw e.0 at (word_at least words (there c.args.remote.0 least words c.least_lost-least.ensures c.if-least-ge65536.false)), c.if-least-ge65536.false));
    }

-- the payload's length, where it is that of the word found
fits : (c : In_ok-at) (count : ℕ) → Found c → count ≡ get_or c.args.number.now c.in_ok-at.at 0 % 32768 → count ≤ c.args.room
fits c count f e = rw e (fits_at c.args.room c.args.number.now c.in_ok-at.at c.requires.0.fits f.within f.in_flight)

-- the part that is copied: all of the payload
part_is : (bytes : List ℕ) (at room count : ℕ) → at * room + room ≤ length bytes → count ≤ room → length (take count (drop (at * room) bytes)) ≡ count
part_is bytes at room count e f = part_length bytes (at * room) count (omega (arith, e, f))

pub returns-then-least-ge65536 : goal.returns-then-least-ge65536
unfolding drop_of
returns-then-least-ge65536 c =
    let none = rw c.least_lost-least.ensures at (le-ltb _ _ c.if-least-ge65536.true) in
    record { value = rw none; number_after = rw none; output_after = rw none }

pub returns-in_err-at : goal.returns-in_err-at
returns-in_err-at c =
    let none = found_none (first_place c.least_lost-least.result (numbers_in c.args.number.now)) (length c.args.number.now) (sym c.find.ensures ∙ c.in_err-at.was) in
    absurd (omega (arith, none, there c.args.remote.0 c.least_lost-least.result c.args.number.now c.least_lost-least.ensures c.if-least-ge65536.false))

pub bounds-number-at : goal.bounds-number-at
bounds-number-at c = (found (goal.at.bounds-number-at c).In_ok-at).within

pub slice_bounds-copy-end : goal.slice_bounds-copy-end
slice_bounds-copy-end c =
    let d = (goal.at.slice_bounds-copy-end c).In_ok-at in
    let h = (found d).ends in
    let f = fits d _ (found d) c.payload_length-count.ensures in
    search rules

pub overflow_mul-start : goal.overflow_mul-start
overflow_mul-start c = let h = (found (goal.at.overflow_mul-start c).In_ok-at).ends in search rules

pub overflow_add-start : goal.overflow_add-start
overflow_add-start c =
    let d = (goal.at.overflow_add-start c).In_ok-at in
    let h = (found d).ends in
    let f = fits d _ (found d) c.payload_length-count.ensures in
    search rules

pub copy-requires : goal.copy-requires
copy-requires c =
    let d = (goal.at.copy-requires c).In_ok-at in
    let f = fits d _ (found d) c.payload_length-count.ensures in
    let start = c.in_ok-at.at * c.args.room in
    rw (add-sub_cancel_left start c.payload_length-count.result, part_is c.args.bytes.now c.in_ok-at.at c.args.room c.payload_length-count.result (found d).ends f)
    (omega (arith, f, c.requires.1))

pub bounds-records-at : goal.bounds-records-at
bounds-records-at c = omega (arith, (found (goal.at.bounds-records-at c).In_ok-at).within, c.requires.0.recorded)

pub returns : goal.returns
unfolding drop_of
returns c =
    let d = (goal.at.returns c).In_ok-at in
    let f = fits d _ (found d) c.payload_length-count.ensures in
    let a = c.args in
    let at_is = (found d).at_is in
    let start = c.in_ok-at.at * a.room in
    let count = c.payload_length-count.result in
    let part = take count (drop start a.bytes.now) in
    let cut = ap (λ (n : ℕ). take n (drop start a.bytes.now)) (add-sub_cancel_left start count) in
    let written : c.copy.new.to ≡ part ++ drop count a.output.now =
    c.copy.ensures.after
    ∙ ap (λ (l : List ℕ). take (length l) l ++ drop (length l) a.output.now) cut
    ∙ rw (take-length part, part_is a.bytes.now c.in_ok-at.at a.room count (found d).ends f) in
    record {
      value = rw (← c.least_lost-least.ensures, lt-ltb _ _ c.if-least-ge65536.false, at_is, c.sent_packet.ensures, c.payload_length-count.ensures);
      number_after = rw (← c.least_lost-least.ensures, lt-ltb _ _ c.if-least-ge65536.false, at_is);
      output_after = rw (← c.least_lost-least.ensures, lt-ltb _ _ c.if-least-ge65536.false, at_is, ← c.payload_length-count.ensures) written;
    }
