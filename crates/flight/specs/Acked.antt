-- Document 01, module 2: "removes from flight exactly the acknowledged number and each number i before it whose bit is set"
use Rattle.std.specs.Prelude.{ℕ, ◌-◌, Bool, ◌&&◌, ◌||◌, ◌==◌, nat_le, nat_lt}
use Rattle.laws.specs.Bits.{bit}
use Rattle.serial.specs.Order.{back}
use Rattle.flight.specs.Entry.{number_in}

-- a number, and the acknowledged one or i before it, i = 1..32, with bit i - 1 set
unfoldable pub is_acked : ℕ → ℕ → ℕ → Bool
is_acked acked field entry =
    nat_lt entry 65536 && (back acked entry == 0 || (nat_le (back acked entry) 32 && bit field (back acked entry - 1)))

-- the same of a word's number
abbrev pub is_told : ℕ → ℕ → ℕ → Bool
is_told acked field word = is_acked acked field (number_in word)
