-- What is in flight as a user sees it: under each number the record and the payload, or nothing. Then what each call makes
-- of it, whatever the places.
use Rattle.std.specs.Prelude.{◌≡◌, ℕ, suc, ◌*◌, ◌<◌, ◌≤◌, Bool, true, false, cond, not, ◌&&◌, List, [], ◌∷◌, map, length, ◌==◌, nat_lt, slice_index, slice_set, Some, None, Option}
use Rattle.std.proofs.Math.Seq.{paste}
use Rattle.keys.specs.Keys.{first_place, occurs}
use Rattle.sequence_buffer.specs.Buffer.{emptied}
use Rattle.flight.specs.Entry.{word_of, numbers_in, packed, packet_of, length_of, bytes_at}
use Rattle.flight.specs.Places.{count_of, sound, place_of, full}
use Rattle.flight.specs.Acked.{is_acked, is_told}
use Rattle.flight.specs.Lost.{is_lost, drop_of, number_left}
use Rattle.flight.specs.declared.SentPacket.{SentPacket}
use Rattle.flight.specs.declared.lost.Dropped.{Dropped}

pub record Flight : Type 0 where
  pub number : List ℕ
  pub records : List ℕ
  pub bytes : List ℕ

pub record Sent : Type 0 where
  pub packet : SentPacket
  pub payload : List ℕ

unfoldable pub in_flight : Flight → ℕ → Bool
in_flight f n = nat_lt (first_place n (numbers_in f.number)) (length f.number)

-- what stands at a place
abbrev pub entry_at : ℕ → Flight → ℕ → Sent
entry_at room f at =
    record { packet = packet_of (slice_index f.records at); payload = bytes_at room f.bytes at (length_of (slice_index f.number at)) }

unfoldable pub view : ℕ → Flight → ℕ → Option Sent
view room f n = cond (in_flight f n) (Some (entry_at room f (first_place n (numbers_in f.number)))) None

-- what each call makes of the columns, as their contracts say
abbrev pub stored : ℕ → Flight → ℕ → SentPacket → List ℕ → Flight
stored room f n sent payload =
    record {
      number = slice_set f.number (place_of n (numbers_in f.number)) (word_of n (length payload));
      records = slice_set f.records (place_of n (numbers_in f.number)) (packed sent);
      bytes = paste f.bytes (place_of n (numbers_in f.number) * room) payload (length payload);
    }

abbrev pub acknowledged : Flight → ℕ → ℕ → Flight
acknowledged f acked field =
    record { number = map (emptied (is_told acked field)) f.number; records = f.records; bytes = f.bytes }

abbrev pub without : Flight → Dropped → Flight
without f d = record { number = number_left (Some d) f.number; records = f.records; bytes = f.bytes }

-- a record and a slot for each place, and not 13
pub record Sound (room : ℕ) (f : Flight) : Type 0 where
  pub some_place : 1 ≤ length f.number
  pub recorded : length f.number ≤ length f.records
  pub slots : length f.number * room ≤ length f.bytes
  pub not_13 : sound room f.number ≡ true

-- a record of bytes and a sixteen-bit identifier, with a payload that fits its slot
pub record Fits (room : ℕ) (sent : SentPacket) (payload : List ℕ) : Type 0 where
  pub ordering_byte : sent.ordering < 256
  pub stream_byte : sent.stream < 256
  pub item_word : sent.item.0 < 65536
  pub slot : length payload ≤ room
  pub word : length payload < 32768

-- how many numbers stand in a column, each counted once
unfoldable pub distinct_of : List ℕ → ℕ
distinct_of [] = 0
distinct_of (x ∷ xs) = cond (nat_lt x 65536 && not (occurs x xs)) (suc (distinct_of xs)) (distinct_of xs)

pub record FlightFacts : Type 0 where
  -- the count is "the number of distinct entries"
  pub counted : (room : ℕ) (f : Flight) → Sound room f → count_of (numbers_in f.number) ≡ distinct_of (numbers_in f.number)
  -- "stores under the local number, replacing an entry of that number"; every other number is as it was
  pub stored_view : (room : ℕ) (f : Flight) (n : ℕ) (sent : SentPacket) (payload : List ℕ)
      → Sound room f
      → n < 65536
      → Fits room sent payload
      → full n (numbers_in f.number) ≡ false
      → (m : ℕ)
      → m < 65536
      → view room (stored room f n sent payload) m ≡ cond (m == n) (Some (record { packet = sent; payload = payload })) (view room f m)
  -- "removes from flight exactly the acknowledged number and each number i before it whose bit is set"
  pub acked_view : (room : ℕ) (f : Flight) (acked field m : ℕ)
      → m < 65536
      → view room (acknowledged f acked field) m ≡ cond (is_acked acked field m) None (view room f m)
  -- a drop gives back what was in flight, and only that goes
  pub given_back : (room : ℕ) (f : Flight) (remote : ℕ) (d : Dropped)
      → drop_of remote f.number f.records ≡ Some d
      → view room f d.number.0 ≡ Some (record { packet = d.sent; payload = bytes_at room f.bytes (first_place d.number.0 (numbers_in f.number)) d.count })
  pub dropped_view : (room : ℕ) (f : Flight) (remote : ℕ) (d : Dropped)
      → Sound room f
      → drop_of remote f.number f.records ≡ Some d
      → (m : ℕ)
      → m < 65536
      → view room (without f d) m ≡ cond (m == d.number.0) None (view room f m)
  -- it is the least lost number in flight; where nothing is dropped, none is lost
  pub lost : (f : Flight) (remote : ℕ) (d : Dropped) → drop_of remote f.number f.records ≡ Some d → is_lost remote d.number.0 ≡ true
  pub least : (f : Flight) (remote : ℕ) (d : Dropped)
      → drop_of remote f.number f.records ≡ Some d
      → (m : ℕ)
      → in_flight f m ≡ true
      → is_lost remote m ≡ true
      → d.number.0 ≤ m
  pub none_lost : (f : Flight) (remote : ℕ)
      → drop_of remote f.number f.records ≡ None
      → (m : ℕ)
      → m < 65536
      → in_flight f m ≡ true
      → is_lost remote m ≡ false
  -- and a sound table stays sound
  pub stored_sound : (room : ℕ) (f : Flight) (n : ℕ) (sent : SentPacket) (payload : List ℕ)
      → Sound room f
      → n < 65536
      → Fits room sent payload
      → full n (numbers_in f.number) ≡ false
      → Sound room (stored room f n sent payload)
  pub acked_sound : (room : ℕ) (f : Flight) (acked field : ℕ) → Sound room f → Sound room (acknowledged f acked field)
  pub dropped_sound : (room : ℕ) (f : Flight) (d : Dropped) → Sound room f → Sound room (without f d)
