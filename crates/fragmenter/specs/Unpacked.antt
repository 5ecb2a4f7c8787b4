-- The words of an entry: what was packed is read again, for fields of the widths that they have.
use Rattle.std.specs.Prelude.{◌≡◌, ◌<◌}
use Rattle.reassembly_plan.specs.Words.{entry_of, entry_word, header_of, header_word}
use Rattle.reassembly_plan.specs.declared.words.Entry.{Entry}
use Rattle.reassembly_plan.specs.declared.words.AckHeader.{AckHeader}

pub record Unpacked : Type 0 where
  pub entry_again : (e : Entry) → e.total < 256 → e.received < 256 → e.ids < 65536 → e.joined < 65536 → entry_of (entry_word e) ≡ e
  pub header_again : (h : AckHeader) → h.number.0 < 65536 → h.acked.0 < 65536 → header_of (header_word h) ≡ h
