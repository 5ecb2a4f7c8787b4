-- A refusal leaves everything as it was, and past all of them a packet is stored. Assumes nothing.
use mathlib.Core.Path.{◌≡◌, sym, ap}
use mathlib.Core.Bool.{true, false}
use mathlib.Core.List.{List}
use Prim.Native.Nat.{ℕ, ◌*◌}
use lib.Dec.{ltb}
use lib.ListN.{length, set}
use lib.Seq.{paste}
use Rattle.std.specs.Prelude.{Ok, Err}
use Rattle.terms.specs.Sizes.{in_range}
use Rattle.terms.specs.declared.Sizes.{Sizes}
use Rattle.terms.specs.declared.Refusal.{Refusal}
use Rattle.flight.specs.declared.SentPacket.{SentPacket}
use Rattle.flight.specs.Entry.{word_of, numbers_in, packed}
use Rattle.flight.specs.Places.{full}
use Rattle.acks.specs.State.{State, table_of, slot_of, sent_one}
use Rattle.acks.specs.Gate.{too_long}
use Rattle.acks.specs.declared.Acknowledgment.{Acknowledgment}
use Rattle.acknowledgment.specs.Calls.{is_lent, is_sound, at, Incoming, incoming_of, Outgoing, outgoing_of, Dropping, dropped_of}

pub not_heard : (z : Sizes) (s : State) (n acked field : ℕ) (why : Refusal)
    → incoming_of z s n acked ≡ Err why
    → Incoming z s n acked field (Err why) s.received s.number
not_heard z s n acked field why e = record { answer_is = sym e; received_is = rw e; number_is = rw e }

pub not_sent : (z : Sizes) (s : State) (sent : SentPacket) (payload : List ℕ) (why : Refusal)
    → outgoing_of z s sent (length payload) ≡ Err why
    → Outgoing z s sent payload (Err why) s.number s.records s.bytes
not_sent z s sent payload why e = record { answer_is = sym e; number_is = rw e; records_is = rw e; bytes_is = rw e }

-- past every refusal: the packet is stored at the place j
pub stored : (z : Sizes) (s : State) (sent : SentPacket) (payload : List ℕ) {j : ℕ} {counters : Acknowledgment} {number records bytes : List ℕ}
    → in_range z ≡ true → is_lent z s ≡ true → is_sound z s ≡ true → too_long z sent (length payload) ≡ false
    → ltb (z.max_fragments * z.fragment_size) (length payload) ≡ false
    → full s.counters.sequence_number.0 (numbers_in (table_of z s.number)) ≡ false
    → counters ≡ sent_one s.counters → j ≡ at z s
    → (number ≡ set s.number j (word_of s.counters.sequence_number.0 (length payload))) × ((records ≡ set s.records j (packed sent)) × (bytes ≡ paste s.bytes (j * slot_of z) payload (length payload)))
    → Outgoing z s sent payload (Ok counters) number records bytes
unfolding outgoing_of
stored z s sent payload within_range long sound short few room e p done =
    record {
      answer_is = rw (within_range, long, sound, short, few, room) (ap Ok e);
      number_is = rw (within_range, long, sound, short, few, room, ← p) done.0;
      records_is = rw (within_range, long, sound, short, few, room, ← p) done.1.0;
      bytes_is = rw (within_range, long, sound, short, few, room, ← p) done.1.1;
    }

pub not_dropped : (z : Sizes) (s : State) (output : List ℕ) (why : Refusal)
    → dropped_of z s output ≡ Err why
    → Dropping z s output (Err why) s.number output
not_dropped z s output why e = record { answer_is = sym e; number_is = rw e; output_is = rw e }
