-- A reader of a datagram: where it stands once the headers are read.
use Rattle.std.specs.Prelude.{ℕ, Result, Ok, Err}
use Rattle.packet_reader.specs.declared.PacketReader.{PacketReader}
use Rattle.terms.specs.declared.Refusal.{Refusal}
use Rattle.packet.specs.declared.Found.{Found}

-- where the payload starts; 3 and 4 leave "all unchanged"
abbrev pub position_after : Result Found Refusal → ℕ → ℕ
position_after (Ok r) position = r.at
position_after (Err why) position = position

-- the same datagram, at the position after this answer
abbrev pub moved : PacketReader → Result Found Refusal → PacketReader
moved r answer = record { buffer = r.buffer; position = position_after answer r.position }
