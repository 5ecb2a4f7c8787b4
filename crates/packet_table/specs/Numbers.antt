-- Document 01, "Headers on the wire": "all numbers high byte first".
use Rattle.std.specs.Prelude.{ℕ, zero, suc, ◌+◌, ◌*◌, ◌/◌, ◌%◌, ◌<◌, List, [], ◌∷◌, ◌++◌, length, get_or, take, drop}

-- n in `width` bytes
unfoldable pub bytes : ℕ → ℕ → List ℕ
bytes zero n = []
bytes (suc width) n = bytes width (n / 256) ++ (n % 256 ∷ [])

-- the number that n begins and these bytes go on
unfoldable pub onward : ℕ → List ℕ → ℕ
onward n [] = n
onward n (b ∷ bs) = onward (n * 256 + b) bs

-- the number of the `width` bytes at a place
unfoldable pub number_at : ℕ → List ℕ → ℕ → ℕ
number_at width d at = onward 0 (take width (drop at d))

abbrev pub Bytes : List ℕ → Type 0
Bytes d = (i : ℕ) → i < length d → get_or d i 0 < 256

-- the output with these bytes at a place
unfoldable pub written : ℕ → List ℕ → List ℕ → List ℕ
written at b output = take at output ++ (b ++ drop (at + length b) output)
