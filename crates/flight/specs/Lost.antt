-- Document 01, module 2: "`dropped_packets` removes, in rising numeric order, those less than the remote acknowledged number
-- and more than 32 before it; ours gives one at a call, least first, until none."
use Rattle.std.specs.Prelude.{◌≡◌, ℕ, ◌*◌, ◌<◌, ◌≤◌, Bool, false, cond, ◌&&◌, List, [], ◌∷◌, ◌++◌, length, drop, nat_lt, slice_index, slice_set, Option, Some, None}
use Rattle.keys.specs.Keys.{first_place}
use Rattle.serial.specs.Order.{greater, back}
use Rattle.sequence_buffer.specs.Buffer.{none}
use Rattle.flight.specs.Entry.{numbers_in, packet_of, length_of, bytes_at}
use Rattle.flight.specs.Places.{over_long}
use Rattle.flight.specs.declared.lost.Dropped.{Dropped}

-- "less than the remote acknowledged number and more than 32 before it"
unfoldable pub is_lost : ℕ → ℕ → Bool
is_lost remote entry = nat_lt entry 65536 && (greater remote entry && nat_lt 32 (back remote entry))

-- none of these numbers is lost
abbrev pub NoneLost : ℕ → List ℕ → Type 0
NoneLost remote number = (j : ℕ) → j < length number → is_lost remote (slice_index number j) ≡ false

-- the least of the lost numbers, or none
unfoldable pub least_lost : ℕ → List ℕ → ℕ
least_lost remote [] = none
least_lost remote (x ∷ xs) = cond (nat_lt x (least_lost remote xs) && is_lost remote x) x (least_lost remote xs)

-- a number, or a lesser one that is lost
abbrev pub lesser : ℕ → ℕ → ℕ → ℕ
lesser remote least x = cond (nat_lt x least && is_lost remote x) x least

-- what is given back
unfoldable pub drop_of : ℕ → List ℕ → List ℕ → Option Dropped
drop_of remote words records =
    let least = least_lost remote (numbers_in words) in
    let at = first_place least (numbers_in words) in
    cond (nat_lt least 65536)
    (Some (record { number = record { 0 = least }; sent = packet_of (slice_index records at); count = length_of (slice_index words at) }))
    None

-- its entry goes
abbrev pub number_left : Option Dropped → List ℕ → List ℕ
number_left None words = words
number_left (Some d) words = slice_set words (first_place d.number.0 (numbers_in words)) none

-- its payload is written at the output's start; "None" leaves everything
abbrev pub output_left : Option Dropped → ℕ → List ℕ → List ℕ → List ℕ → List ℕ
output_left None room words bytes output = output
output_left (Some d) room words bytes output =
    bytes_at room bytes (first_place d.number.0 (numbers_in words)) d.count ++ drop d.count output

-- what is required of a table: a record and a slot for each place, and no length over its slot
pub record Table (room : ℕ) (number records bytes : List ℕ) : Type 0 where
  pub small : room ≤ 16384
  pub few : length number ≤ 256
  pub recorded : length number ≤ length records
  pub slots : length number * room ≤ length bytes
  pub fits : over_long room number ≡ false
