-- Document 01, "Order: 1, 2, 13": what every call of a user tries first.
use Rattle.std.specs.Prelude.{ℕ, ◌*◌, Bool, cond, not, ◌&&◌, ◌||◌, List, length, ltb, leb, eqb}
use Rattle.keys.specs.Keys.{twice}
use Rattle.terms.specs.Sizes.{in_range}
use Rattle.terms.specs.declared.Sizes.{Sizes}
use Rattle.terms.specs.declared.Refusal.{Refusal}
use Rattle.terms.specs.declared.Refusal.TheVariants.{BadSizes, BadStorage, BadState}
use Rattle.received.specs.Record.{slot_count, slots_of}
use Rattle.flight.specs.declared.SentPacket.{SentPacket}
use Rattle.flight.specs.Places.{sound as flight_sound}
use Rattle.acks.specs.State.{table_of, slot_of}

-- not 2: "N x 16 x F in flight", and the columns
unfoldable pub flight_lent : Sizes → List ℕ → List ℕ → Bool
flight_lent z number records = leb z.packets_in_flight (length number) && leb z.packets_in_flight (length records)

unfoldable pub lent : Sizes → List ℕ → List ℕ → List ℕ → List ℕ → Bool
lent z received number records bytes =
    leb slot_count (length received) && (flight_lent z number records && leb (z.packets_in_flight * slot_of z) (length bytes))

-- not 13: no length is over its slot, and no packet number is twice in flight or received
unfoldable pub sound : Sizes → List ℕ → List ℕ → Bool
sound z received number = not (twice (slots_of received)) && flight_sound (slot_of z) (table_of z number)

-- 1, 2, 13, and then what the call says
abbrev pub gated : {A : Type 0} → Sizes → Bool → Bool → (Refusal → A) → A → A
gated z is_lent is_sound refused answer =
    cond (in_range z) (cond is_lent (cond is_sound answer (refused BadState)) (refused BadStorage)) (refused BadSizes)

-- 5: "a payload to send over 65,535, or over F and not both reliable and unordered"; whatever is in flight is reliable
unfoldable pub too_long : Sizes → SentPacket → ℕ → Bool
too_long z sent count = ltb 65535 count || (ltb z.fragment_size count && not (eqb sent.ordering 0))
