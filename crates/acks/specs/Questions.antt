-- Document 01, module 2: what an end is asked.
use Rattle.std.specs.Prelude.{ℕ, not, List, length, leb, Result, Ok, Err}
use Rattle.keys.specs.Keys.{twice}
use Rattle.terms.specs.Refusals.{number_of}
use Rattle.terms.specs.declared.Sizes.{Sizes}
use Rattle.received.specs.Record.{slot_count, slots_of}
use Rattle.received.specs.Field.{field_of}
use Rattle.flight.specs.Entry.{numbers_in}
use Rattle.flight.specs.Places.{count_of, sound as flight_sound}
use Rattle.acks.specs.State.{table_of, slot_of}
use Rattle.acks.specs.Gate.{flight_lent, gated}
use Rattle.acks.specs.declared.Acknowledgment.{Acknowledgment}
use Rattle.terms.specs.declared.Refusal.{Refusal}

-- 01's number of each answer, 0 where nothing is refused
abbrev pub number_of_counted : Result ℕ Refusal → ℕ
number_of_counted (Ok n) = 0
number_of_counted (Err why) = number_of why

abbrev pub number_of_told : Result ℕ Refusal → ℕ
number_of_told (Ok f) = 0
number_of_told (Err why) = number_of why

-- how many packets are in flight
unfoldable pub counted_of : Sizes → List ℕ → List ℕ → Result ℕ Refusal
counted_of z number records =
    gated z (flight_lent z number records) (flight_sound (slot_of z) (table_of z number)) Err
    (Ok (count_of (numbers_in (table_of z number))))

-- the field
unfoldable pub told_of : Sizes → Acknowledgment → List ℕ → Result ℕ Refusal
told_of z c received =
    gated z (leb slot_count (length received)) (not (twice (slots_of received))) Err
    (Ok (field_of c.received.0 (slots_of received)))
