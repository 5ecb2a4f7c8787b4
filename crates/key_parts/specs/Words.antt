-- A word of a packet in flight: below 2^31 it has a packet's number (16 bits) above its payload's length (15); any other has none.
use Rattle.std.specs.Prelude.{◌≡◌, ℕ, ◌+◌, ◌/◌, ◌%◌, ◌<◌, ◌≤◌, ◌⊎◌}

-- the least word that has no packet
abbrev pub no_packet : ℕ
no_packet = 2147483648

-- a packet's number is one of two, and its length at most `room`
abbrev pub Word : ℕ → ℕ → ℕ → ℕ → Type 0
Word room this that word = word < no_packet → ((word / 32768 ≡ this) ⊎ (word / 32768 ≡ that)) × (word % 32768 ≤ room)

-- the number is its place added to one of two numbers
abbrev pub Placed : ℕ → ℕ → ℕ → ℕ → ℕ → Type 0
Placed room lap last place word = Word room (lap + place) (last + place) word
