-- Rows of calls from a fresh end. Document 01: "From a fresh end whose sizes, state and storage go from call to call
-- unaltered, 13 never arises."
use Rattle.std.specs.Prelude.{◌≡◌, true, List, [], ◌∷◌, ℕ, ◌*◌, ◌<◌, length, set, Result, Ok, Err}
use Rattle.std.proofs.Math.Seq.{paste}
use Rattle.terms.specs.Sizes.{in_range}
use Rattle.terms.specs.declared.Sizes.{Sizes}
use Rattle.sequence_buffer.specs.Buffer.{fresh}
use Rattle.received.specs.Record.{recorded}
use Rattle.flight.specs.Entry.{word_of, packed}
use Rattle.flight.specs.declared.SentPacket.{SentPacket}
use Rattle.acks.specs.State.{State, lending, slot_of, fresh_counters, unacked}
use Rattle.acknowledgment.specs.Calls.{is_lent, is_sound, kept, incoming_of, outgoing_of, at, dropped_of, number_kept}
use Rattle.acks.specs.declared.Acknowledgment.{Acknowledgment}
use Rattle.terms.specs.declared.Refusal.{Refusal}

pub data Call : Type 0 where
  -- a packet with this number comes, and acknowledges this number and this field
  comes : ℕ → ℕ → ℕ → Call
  -- a packet is sent
  goes : SentPacket → List ℕ → Call
  -- one is given up, to an output of these bytes
  drops : List ℕ → Call

abbrev pub counters_after : Result Acknowledgment Refusal → Acknowledgment → Acknowledgment
counters_after (Ok c) before = c
counters_after (Err why) before = before

-- what a call leaves, as its contract says
unfoldable pub called : Sizes → State → Call → State
called z s (comes n acked field) =
    let r = incoming_of z s n acked in
    record {
      counters = counters_after r s.counters;
      received = kept r (recorded s.counters.received.0 s.received n) s.received;
      number = kept r (unacked z s.number acked field) s.number;
      records = s.records;
      bytes = s.bytes;
    }
called z s (goes sent payload) =
    let r = outgoing_of z s sent (length payload) in
    record {
      counters = counters_after r s.counters;
      received = s.received;
      number = kept r (set s.number (at z s) (word_of s.counters.sequence_number.0 (length payload))) s.number;
      records = kept r (set s.records (at z s) (packed sent)) s.records;
      bytes = kept r (paste s.bytes (at z s * slot_of z) payload (length payload)) s.bytes;
    }
called z s (drops output) =
    record {
      counters = s.counters;
      received = s.received;
      number = number_kept z (dropped_of z s output) s.number;
      records = s.records;
      bytes = s.bytes;
    }

unfoldable pub after : Sizes → State → List Call → State
after z s [] = s
after z s (c ∷ cs) = after z (called z s c) cs

-- what the types of a record say
pub record Typed (sent : SentPacket) : Type 0 where
  pub ordering_byte : sent.ordering < 256
  pub stream_byte : sent.stream < 256
  pub item_word : sent.item.0 < 65536

pub data AllTyped : List Call → Type 0 where
  none : AllTyped []
  with_comes : {n acked field : ℕ} {cs : List Call} → AllTyped cs → AllTyped (comes n acked field ∷ cs)
  with_goes : {sent : SentPacket} {payload : List ℕ} {cs : List Call} → Typed sent → AllTyped cs → AllTyped (goes sent payload ∷ cs)
  with_drops : {output : List ℕ} {cs : List Call} → AllTyped cs → AllTyped (drops output ∷ cs)

-- a fresh end, with whatever the records and bytes have
abbrev pub fresh_end : ℕ → ℕ → List ℕ → List ℕ → State
fresh_end a b records bytes = lending fresh_counters (fresh a) (fresh b) records bytes

-- neither 2 nor 13 arises, whatever is called
pub record NeverBroken : Type 0 where
  pub lent_stays : (z : Sizes) (a b : ℕ) (records bytes : List ℕ) (calls : List Call)
      → in_range z ≡ true
      → is_lent z (fresh_end a b records bytes) ≡ true
      → AllTyped calls
      → is_lent z (after z (fresh_end a b records bytes) calls) ≡ true
  pub sound_stays : (z : Sizes) (a b : ℕ) (records bytes : List ℕ) (calls : List Call)
      → in_range z ≡ true
      → is_lent z (fresh_end a b records bytes) ≡ true
      → AllTyped calls
      → is_sound z (after z (fresh_end a b records bytes) calls) ≡ true
