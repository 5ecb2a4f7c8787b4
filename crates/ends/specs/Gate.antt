-- Document 01, "Order: 1, 2, 13": what every call of a user tries first.
use Rattle.std.specs.Prelude.{ℕ, Bool, cond, not, ◌&&◌, List, take, Result, Ok, Err, ⊤}
use Rattle.terms.specs.Sizes.{in_range}
use Rattle.terms.specs.declared.Sizes.{Sizes}
use Rattle.terms.specs.declared.Refusal.TheVariants.{BadSizes, BadStorage, BadState}
use Rattle.acks.specs.Gate.{lent, sound as acks_sound}
use Rattle.reassembly_plan.specs.Gate.{too_short as parts_too_short, sound as parts_sound}
use Rattle.arranging_plan.specs.Ids.{sound_ids}
use Rattle.arranging_plan.specs.Ordered.{sound_all}
use Rattle.arranging_plan.specs.Gate.{too_short as ordered_too_short}
use Rattle.ends.specs.State.{State}
use Rattle.ends.specs.declared.gate.Seen.{Seen}
use Rattle.terms.specs.declared.Refusal.{Refusal}

-- not 2: "Lent storage: N x 16 x F in flight, C x 16 x F reassembly, 64 x F per ordered stream, and an output buffer of
-- 16 x F + 17", and the tables that go with them
unfoldable pub is_lent : Sizes → State → List ℕ → Bool
is_lent z s output =
    lent z s.acks.received s.acks.number s.acks.records s.acks.bytes
    && (not (parts_too_short z.fragment_size z.reassembly_slots s.parts.slots s.parts.entry s.parts.header s.parts.bytes output)
    && not (ordered_too_short z.fragment_size s.ordered.index s.ordered.lengths s.ordered.bytes output))

-- not 13: packets received and in flight, messages, ordered streams, sequenced streams
unfoldable pub is_sound : Sizes → State → Bool
is_sound z s =
    acks_sound z s.acks.received s.acks.number
    && (parts_sound z.fragment_size (take z.reassembly_slots s.parts.slots) s.parts.entry
    && (sound_all z.fragment_size s.ordered.counters s.ordered.index s.ordered.lengths
    && sound_ids s.sequenced.known))

unfoldable pub gate_of : Sizes → State → List ℕ → Result ⊤ Refusal
gate_of z s output =
    cond (not (in_range z)) (Err BadSizes)
    (cond (not (is_lent z s output)) (Err BadStorage)
    (cond (not (is_sound z s)) (Err BadState)
    (Ok tt)))

-- what the gate says where it has seen more
abbrev pub said : Result Seen Refusal → Result ⊤ Refusal
said (Ok seen) = Ok tt
said (Err why) = Err why
