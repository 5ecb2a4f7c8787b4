-- Which slots of a record in laps have one of the 32 numbers before the newest.
use Rattle.std.specs.Prelude.{◌≡◌, ℕ, ◌+◌, ◌-◌, ◌%◌, ◌≤◌, Bool, List, length, nat_lt, slice_index, slice_index_or}
use Rattle.key_parts.specs.Laps.{Lapped}
use Rattle.received.specs.Record.{slot_count}

-- a record in laps whose newest number stands in its slot, with 32 numbers below it
pub record Settled (newest : ℕ) (slots : List ℕ) : Type 0 where
  pub count : length slots ≡ slot_count
  pub laps : Lapped slots
  pub enough : 32 ≤ newest
  pub stands : slice_index_or slots (newest % slot_count) 0 ≡ newest

-- an entry is one of the 32 from the oldest on, or 2^31 above one of them, which no entry of a settled record is
unfoldable pub is_recent : ℕ → ℕ → Bool
is_recent oldest entry = nat_lt ((entry + 4294967296 - oldest) % 4294967296 % 2147483648) 32

-- bit b is that of slot 32 - b
abbrev pub recent_at : ℕ → List ℕ → ℕ → Bool
recent_at oldest slots b = is_recent oldest (slice_index slots (32 - b))
