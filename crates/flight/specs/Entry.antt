-- What a place has. A word: below 2^31 the number of a packet (16 bits) above the length of its payload (15), any other is none. A
-- record: ordering (8 bits), stream (8) and item identifier (16).
use Rattle.std.specs.Prelude.{ℕ, ◌+◌, ◌*◌, ◌/◌, ◌%◌, cond, List, map, take, drop, nat_lt}
use Rattle.key_parts.specs.Words.{no_packet}
use Rattle.sequence_buffer.specs.Buffer.{none}
use Rattle.flight.specs.declared.SentPacket.{SentPacket}

abbrev pub word_of : ℕ → ℕ → ℕ
word_of n count = n * 32768 + count

-- the number, or none
unfoldable pub number_in : ℕ → ℕ
number_in word = cond (nat_lt word no_packet) (word / 32768) none

abbrev pub length_of : ℕ → ℕ
length_of word = word % 32768

-- the numbers of a column of words
abbrev pub numbers_in : List ℕ → List ℕ
numbers_in words = map number_in words

abbrev pub packed : SentPacket → ℕ
packed sent = sent.ordering + sent.stream * 256 + sent.item.0 * 65536

abbrev pub packet_of : ℕ → SentPacket
packet_of word = record { ordering = word % 256; stream = word / 256 % 256; item = record { 0 = word / 65536 % 65536 } }

-- so many bytes at a place, whose slot has `room` bytes
abbrev pub bytes_at : ℕ → List ℕ → ℕ → ℕ → List ℕ
bytes_at room bytes at count = take count (drop (at * room) bytes)
