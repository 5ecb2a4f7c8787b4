-- What an entry has beside its number: two words of 64 bits, of which every value means something.
use Rattle.std.specs.Prelude.{ℕ, ◌+◌, ◌*◌, ◌/◌, ◌%◌}
use Rattle.reassembly_plan.specs.declared.words.Entry.{Entry}
use Rattle.reassembly_plan.specs.declared.words.AckHeader.{AckHeader}

-- bits 0..7 the fragment total, 8..15 the received count, 16..31 the received ids, 32..47 the joined length
abbrev pub entry_of : ℕ → Entry
entry_of w = record {
  total = w % 256;
  received = w / 256 % 256;
  ids = w / 65536 % 65536;
  joined = w / 4294967296 % 65536;
}

abbrev pub entry_word : Entry → ℕ
entry_word e = e.total + e.received * 256 + e.ids * 65536 + e.joined * 4294967296

-- bits 0..15 the packet number, 16..31 the acknowledged number, 32..63 the field
abbrev pub header_of : ℕ → AckHeader
header_of w = record {
  number = record { 0 = w % 65536 };
  acked = record { 0 = w / 65536 % 65536 };
  field = w / 4294967296;
}

abbrev pub header_word : AckHeader → ℕ
header_word h = h.number.0 + h.acked.0 * 65536 + h.field * 4294967296
