-- Document 01, module 2: what is told of the received record.
use Rattle.std.specs.Prelude.{◌≡◌, ℕ, ◌+◌, ◌-◌, ◌^◌, ◌<◌, ◌≤◌, Bool, List}
use Rattle.laws.specs.Bits.{bit, bits_below}
use Rattle.serial.specs.Order.{back}
use Rattle.sequence_buffer.specs.Buffer.{fresh, holds}
use Rattle.received.specs.Record.{slot_count}

-- "Reported newest is `sequence_num` - 1"
abbrev pub newest_of : ℕ → ℕ
newest_of num = back num 1

-- newest - (k + 1) is in the buffer
abbrev pub heard : ℕ → List ℕ → ℕ → Bool
heard newest slots k = holds slots (back newest (k + 1))

-- "Bit i - 1 says that newest - i is in the buffer, i = 1..32."
unfoldable pub field_of : ℕ → List ℕ → ℕ
field_of num slots = bits_below (heard (newest_of num) slots) 32

pub record FieldFacts : Type 0 where
  -- each bit, for every buffer
  pub each_bit : (num : ℕ) (slots : List ℕ) (i : ℕ)
      → 1 ≤ i
      → i ≤ 32
      → bit (field_of num slots) (i - 1) ≡ holds slots (back (newest_of num) i)
  -- and no other bit
  pub small : (num : ℕ) (slots : List ℕ) → field_of num slots < 2 ^ 32
  -- "so a fresh end reports 65,535 and field 0"
  pub fresh_newest : newest_of 0 ≡ 65535
  pub fresh_field : field_of 0 (fresh slot_count) ≡ 0
