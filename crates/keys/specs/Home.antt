-- Where the keys of a column stand.
use Rattle.std.specs.Prelude.{◌≡◌, List, ◌⊎◌, ℕ, ◌+◌, ◌%◌, ◌<◌, length, get_or}

-- an entry that is a key is its place added to one of two numbers
abbrev pub InStep : ℕ → ℕ → ℕ → ℕ → Type 0
InStep lap last place entry = entry < 65536 → (entry ≡ lap + place) ⊎ (entry ≡ last + place)

-- each key stands at its own place: its remainder by the column's length
pub record Home (l : List ℕ) : Type 0 where
  pub own : (j : ℕ) → j < length l → get_or l j 0 < 65536 → get_or l j 0 % length l ≡ j
