-- Document 01, module 2: what each call answers and leaves, refused or not.
use Rattle.std.specs.Prelude.{ℕ, ◌+◌, ◌*◌, ◌≡◌, Bool, cond, ◌&&◌, List, ◌++◌, length, set, drop, ltb, leb, Result, Ok, Err, Option, Some, None}
use Rattle.std.proofs.Math.Seq.{paste}
use Rattle.terms.specs.declared.Sizes.{Sizes}
use Rattle.terms.specs.Refusals.{number_of}
use Rattle.terms.specs.declared.Refusal.TheVariants.{TooLong, ExceededMaxFragments, Full}
use Rattle.received.specs.Record.{recorded}
use Rattle.flight.specs.Entry.{word_of, numbers_in, packed}
use Rattle.flight.specs.Places.{place_of, full}
use Rattle.flight.specs.declared.SentPacket.{SentPacket}
use Rattle.acks.specs.State.{State, table_of, slot_of, heard, unacked, sent_one}
use Rattle.flight.specs.Lost.{drop_of, number_left, output_left}
use Rattle.acks.specs.Gate.{lent, sound, gated, too_long}
use Rattle.flight.specs.declared.lost.Dropped.{Dropped}
use Rattle.terms.specs.declared.Refusal.{Refusal}
use Rattle.acks.specs.declared.Acknowledgment.{Acknowledgment}

abbrev pub is_lent : Sizes → State → Bool
is_lent z s = lent z s.received s.number s.records s.bytes

abbrev pub is_sound : Sizes → State → Bool
is_sound z s = sound z s.received s.number

-- 01's number of each answer, 0 where nothing is refused
abbrev pub number_of_processed : Result Acknowledgment Refusal → ℕ
number_of_processed (Ok c) = 0
number_of_processed (Err why) = number_of why

abbrev pub number_of_dropped : Result (Option Dropped) Refusal → ℕ
number_of_dropped (Ok None) = 0
number_of_dropped (Ok (Some d)) = 0
number_of_dropped (Err why) = number_of why

-- what is left: the new where the call is done, the old where it is refused
abbrev pub kept : {A : Type 0} → Result Acknowledgment Refusal → A → A → A
kept (Ok c) after before = after
kept (Err why) after before = before

-- a packet has come
unfoldable pub incoming_of : Sizes → State → ℕ → ℕ → Result Acknowledgment Refusal
incoming_of z s n acked =
    gated z (is_lent z s) (is_sound z s) Err (Ok (heard s.counters s.received n acked))

pub record Incoming (z : Sizes) (s : State) (n acked field : ℕ) (r : Result Acknowledgment Refusal) (received number : List ℕ) : Type 0 where
  pub answer_is : r ≡ incoming_of z s n acked
  pub received_is : received ≡ kept (incoming_of z s n acked) (recorded s.counters.received.0 s.received n) s.received
  pub number_is : number ≡ kept (incoming_of z s n acked) (unacked z s.number acked field) s.number

-- a packet is sent: "1, 2, 13, .. 5, 8, .. 6"; more than M fragments are needed exactly where the payload is over M x F
unfoldable pub outgoing_of : Sizes → State → SentPacket → ℕ → Result Acknowledgment Refusal
outgoing_of z s sent count =
    gated z (is_lent z s) (is_sound z s) Err
    (cond (too_long z sent count) (Err TooLong)
    (cond (ltb (z.max_fragments * z.fragment_size) count) (Err ExceededMaxFragments)
    (cond (full s.counters.sequence_number.0 (numbers_in (table_of z s.number))) (Err Full)
    (Ok (sent_one s.counters)))))

-- where it is stored: "under the local number, replacing an entry of that number"
abbrev pub at : Sizes → State → ℕ
at z s = place_of s.counters.sequence_number.0 (numbers_in (table_of z s.number))

pub record Outgoing (z : Sizes) (s : State) (sent : SentPacket) (payload : List ℕ) (r : Result Acknowledgment Refusal) (number records bytes : List ℕ) : Type 0 where
  pub answer_is : r ≡ outgoing_of z s sent (length payload)
  pub number_is : number ≡ kept (outgoing_of z s sent (length payload)) (set s.number (at z s) (word_of s.counters.sequence_number.0 (length payload))) s.number
  pub records_is : records ≡ kept (outgoing_of z s sent (length payload)) (set s.records (at z s) (packed sent)) s.records
  pub bytes_is : bytes ≡ kept (outgoing_of z s sent (length payload)) (paste s.bytes (at z s * slot_of z) payload (length payload)) s.bytes

abbrev pub answered_by : Option Dropped → Result (Option Dropped) Refusal
answered_by None = Ok None
answered_by (Some d) = Ok (Some d)

-- one is given up: 1, 2 (the output too: 16 x F + 17), 13
unfoldable pub dropped_of : Sizes → State → List ℕ → Result (Option Dropped) Refusal
dropped_of z s output =
    gated z (is_lent z s && leb (slot_of z + 17) (length output)) (is_sound z s) Err
    (answered_by (drop_of s.counters.remote_ack_sequence_num.0 (table_of z s.number) s.records))

-- its entry goes, its payload is written at the output's start; nothing and a refusal leave everything
abbrev pub number_kept : Sizes → Result (Option Dropped) Refusal → List ℕ → List ℕ
number_kept z (Ok None) number = number
number_kept z (Ok (Some d)) number = number_left (Some d) (table_of z number) ++ drop z.packets_in_flight number
number_kept z (Err why) number = number

abbrev pub output_kept : Sizes → Result (Option Dropped) Refusal → State → List ℕ → List ℕ
output_kept z (Ok None) s output = output
output_kept z (Ok (Some d)) s output = output_left (Some d) (slot_of z) (table_of z s.number) s.bytes output
output_kept z (Err why) s output = output

pub record Dropping (z : Sizes) (s : State) (output : List ℕ) (r : Result (Option Dropped) Refusal) (number out : List ℕ) : Type 0 where
  pub answer_is : r ≡ dropped_of z s output
  pub number_is : number ≡ number_kept z (dropped_of z s output) s.number
  pub output_is : out ≡ output_kept z (dropped_of z s output) s output
