-- What a datagram reads as.
use Rattle.std.specs.Prelude.{ℕ, ◌+◌, ◌-◌, Bool, true, false, not, cond, ◌||◌, List, length, ltb, leb, eqb, Result, Ok, Err, Option, Some, None}
use Rattle.terms.specs.declared.Refusal.TheVariants.{CouldNotReadHeader, BadHeader}
use Rattle.terms.specs.Refusals.{number_of}
use Rattle.packet_table.specs.declared.StandardHeader.{StandardHeader}
use Rattle.packet_table.specs.declared.FragmentHeader.{FragmentHeader}
use Rattle.packet_table.specs.declared.AckedPacketHeader.{AckedPacketHeader}
use Rattle.packet_table.specs.declared.ArrangingHeader.{ArrangingHeader}
use Rattle.packet_table.specs.declared.Headers.{Headers}
use Rattle.packet_table.specs.declared.table.Following.{Following}
use Rattle.packet_table.specs.Numbers.{number_at}
use Rattle.packet_table.specs.Table.{type_of, delivery_of, ordering_of, follows, has_fragment, has_acked, has_arranging, misfit}
use Rattle.packet_table.specs.Layout.{acked_at, arranging_at, payload_at}
use Rattle.packet.specs.declared.reader.Cursor.{Cursor}
use Rattle.terms.specs.declared.Refusal.{Refusal}
use Rattle.packet.specs.declared.Found.{Found}

abbrev pub standard_of : List ℕ → StandardHeader
standard_of d = record { packet_type = type_of (number_at 1 d 2); delivery = delivery_of (number_at 1 d 3); ordering = ordering_of (number_at 1 d 4) }

-- a header that is not there has 0 in every field
abbrev pub no_fragment : FragmentHeader
no_fragment = record { number = record { 0 = 0 }; id = 0; count = 0 }

abbrev pub no_acked : AckedPacketHeader
no_acked = record { number = record { 0 = 0 }; acked = record { 0 = 0 }; field = 0 }

abbrev pub no_arranging : ArrangingHeader
no_arranging = record { index = record { 0 = 0 }; stream = 0 }

-- each header at its place, where it is there
abbrev pub fragment_of : Bool → List ℕ → ℕ → FragmentHeader
fragment_of there d at =
    cond there (record { number = record { 0 = number_at 2 d at }; id = number_at 1 d (at + 2); count = number_at 1 d (at + 3) }) no_fragment

abbrev pub acked_of : Bool → List ℕ → ℕ → AckedPacketHeader
acked_of there d at =
    cond there (record { number = record { 0 = number_at 2 d at }; acked = record { 0 = number_at 2 d (at + 2) }; field = number_at 4 d (at + 4) }) no_acked

abbrev pub arranging_of : Bool → List ℕ → ℕ → ArrangingHeader
arranging_of there d at = cond there (record { index = record { 0 = number_at 2 d at }; stream = number_at 1 d (at + 2) }) no_arranging

unfoldable pub headers_of : StandardHeader → Following → List ℕ → Headers
headers_of s f d =
    let fragment : FragmentHeader = fragment_of (has_fragment f) d 5 in
    record {
      standard = s;
      fragment = fragment;
      acked = acked_of (has_acked f fragment.id) d (acked_at f);
      arranging = arranging_of (has_arranging f) d (arranging_at f fragment.id);
    }

-- the headers, and where the payload starts
abbrev pub found : Headers → ℕ → Result Found Refusal
found h at = Ok (record { headers = h; at = at })

-- 3 where "the datagram ends inside a header it must have"
unfoldable pub following_read : StandardHeader → Following → List ℕ → Result Found Refusal
following_read s f d =
    let at : ℕ = payload_at f (headers_of s f d).fragment.id in
    cond (ltb (length d) at) (Err CouldNotReadHeader) (found (headers_of s f d) at)

-- "V differs, a type, delivery or ordering byte is unknown"
unfoldable pub unknown : ℕ → List ℕ → Bool
unknown v d = not (eqb (number_at 2 d 0) v) || (leb 3 (number_at 1 d 2) || (leb 2 (number_at 1 d 3) || leb 3 (number_at 1 d 4)))

abbrev pub standard_read : ℕ → List ℕ → Result StandardHeader Refusal
standard_read v d = cond (unknown v d) (Err BadHeader) (Ok (standard_of d))

-- "3 for the standard header, 4, 3 for the others"
unfoldable pub read_of : ℕ → List ℕ → Result Found Refusal
read_of v d =
    let s : StandardHeader = standard_of d in
    cond (ltb (length d) 5) (Err CouldNotReadHeader)
    (cond (unknown v d || misfit s (follows s) (length d - 5)) (Err BadHeader)
    (following_read s (follows s) d))

-- document 01's number for each answer, 0 where nothing is refused
abbrev pub number_of_read : Result Found Refusal → ℕ
number_of_read (Ok r) = 0
number_of_read (Err why) = number_of why

-- a cursor goes past a header of n bytes where it is there
abbrev pub past_of : ℕ → ℕ → Bool → ℕ → Option Cursor
past_of len at true n = cond (leb (at + n) len) (Some (record { at = at + n })) None
past_of len at false n = Some (record { at = at })
