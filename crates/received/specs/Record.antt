-- Document 01, module 2: the record of received packet numbers.
use Rattle.std.specs.Prelude.{◌≡◌, ℕ, Bool, true, List, ◌++◌, take, drop}
use Rattle.key_parts.specs.Laps.{Lapped}
use Rattle.sequence_buffer.specs.Buffer.{inserted_slots}

-- "33 slots"
abbrev pub slot_count : ℕ
slot_count = 33

-- the record is the first slots of what is lent
abbrev pub slots_of : List ℕ → List ℕ
slots_of received = take slot_count received

-- "inserts the packet number (a too old one is ignored)"; what is lent beyond the record stays
abbrev pub recorded : ℕ → List ℕ → ℕ → List ℕ
recorded num received n = inserted_slots num (slots_of received) n ++ drop slot_count received

-- the slots were seen to stand in laps; where it is false nothing is said
abbrev pub KnownLapped : Bool → List ℕ → Type 0
KnownLapped lapped received = lapped ≡ true → Lapped (slots_of received)
