-- Document 01, module 1: the order of sixteen-bit numbers, and what is added to and taken from them.
use Rattle.std.specs.Prelude.{ℕ, ◌+◌, ◌-◌, ◌%◌, Bool, ◌&&◌, ◌||◌, nat_le, nat_lt}

-- "a > b and a - b <= 32,768, or a < b and b - a > 32,768"
unfoldable pub greater : ℕ → ℕ → Bool
greater a b = (nat_lt b a && nat_le (a - b) 32768) || (nat_lt a b && nat_lt 32768 (b - a))

-- "adds one with wrap-around"
abbrev pub next : ℕ → ℕ
next a = (a + 1) % 65536

-- a minus b, wrapping
abbrev pub back : ℕ → ℕ → ℕ
back a b = (a + (65536 - b)) % 65536
