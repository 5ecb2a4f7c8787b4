-- The places of the packets in flight, by the numbers of their words: one below 65,536 is that of a packet, at any other the place is
-- free.
use Rattle.std.specs.Prelude.{ℕ, suc, ◌%◌, Bool, false, cond, not, ◌&&◌, ◌||◌, List, [], ◌∷◌, length, ◌==◌, nat_lt, slice_index}
use Rattle.keys.specs.Keys.{first_place, twice}
use Rattle.key_parts.specs.Words.{no_packet}
use Rattle.flight.specs.Entry.{length_of, numbers_in}

-- how many packets are in flight
unfoldable pub count_of : List ℕ → ℕ
count_of [] = 0
count_of (x ∷ xs) = cond (nat_lt x 65536) (suc (count_of xs)) (count_of xs)

-- 13: "a recorded length .. is over what its slot .. holds"
unfoldable pub over_long : ℕ → List ℕ → Bool
over_long room [] = false
over_long room (w ∷ ws) = (nat_lt w no_packet && nat_lt room (length_of w)) || over_long room ws

-- not 13: nor "the packet number in flight" twice
unfoldable pub sound : ℕ → List ℕ → Bool
sound room words = not (over_long room words) && not (twice (numbers_in words))

unfoldable pub first_free : List ℕ → ℕ
first_free [] = 0
first_free (x ∷ xs) = cond (nat_lt x 65536) (suc (first_free xs)) 0

-- where a number goes: where it is already; else its own place, if that is free; else the first free place
unfoldable pub place_of : ℕ → List ℕ → ℕ
place_of n number =
    cond (nat_lt (first_place n number) (length number)) (first_place n number)
    (cond (nat_lt (slice_index number (n % length number)) 65536) (first_free number) (n % length number))

-- 6: "N other numbers in flight"
unfoldable pub others_of : ℕ → List ℕ → ℕ
others_of n [] = 0
others_of n (x ∷ xs) = cond (nat_lt x 65536 && not (x == n)) (suc (others_of n xs)) (others_of n xs)

abbrev pub full : ℕ → List ℕ → Bool
full n number = others_of n number == length number
