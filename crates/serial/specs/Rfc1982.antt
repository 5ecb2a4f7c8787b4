-- RFC 1982, "Serial Number Arithmetic", from its section 3. A serial number s of SERIAL_BITS bits has an integer i for
-- its value, from 0 to 2^SERIAL_BITS - 1; `bits` is SERIAL_BITS.
use Rattle.std.specs.Prelude.{ℕ, ◌+◌, ◌-◌, ◌%◌, ◌^◌, Bool, ◌&&◌, ◌||◌, ◌==◌, nat_lt}

-- 3.1: s' = (s + n) modulo 2^SERIAL_BITS, for n from 0 to 2^(SERIAL_BITS - 1) - 1
abbrev pub sum : ℕ → ℕ → ℕ → ℕ
sum bits s n = (s + n) % 2 ^ bits

-- 3.2: s1 is less than s2: i1 < i2 and i2 - i1 < 2^(SERIAL_BITS - 1), or i1 > i2 and i1 - i2 > 2^(SERIAL_BITS - 1)
abbrev pub less : ℕ → ℕ → ℕ → Bool
less bits i1 i2 =
    (nat_lt i1 i2 && nat_lt (i2 - i1) (2 ^ (bits - 1))) || (nat_lt i2 i1 && nat_lt (2 ^ (bits - 1)) (i1 - i2))

-- 3.2: s1 is greater than s2: i1 < i2 and i2 - i1 > 2^(SERIAL_BITS - 1), or i1 > i2 and i1 - i2 < 2^(SERIAL_BITS - 1)
abbrev pub more : ℕ → ℕ → ℕ → Bool
more bits i1 i2 =
    (nat_lt i1 i2 && nat_lt (2 ^ (bits - 1)) (i2 - i1)) || (nat_lt i2 i1 && nat_lt (i1 - i2) (2 ^ (bits - 1)))

-- 3.2: of two numbers that are neither equal, less nor greater an order is undefined
abbrev pub defined : ℕ → ℕ → ℕ → Bool
defined bits i1 i2 = i1 == i2 || (less bits i1 i2 || more bits i1 i2)
