-- What `twice` says of a column, place by place.
use Rattle.std.specs.Prelude.{◌≡◌, true, List, ℕ, ◌<◌, length, get_or}
use Rattle.keys.specs.Keys.{twice}

-- two places of the column hold the same key
pub record SameKey (l : List ℕ) : Type 0 where
  pub first : ℕ
  pub second : ℕ
  pub before : first < second
  pub within : second < length l
  pub key : get_or l first 0 < 65536
  pub same : get_or l first 0 ≡ get_or l second 0

-- true if and only if two places hold the same key
pub record TwiceIsExact : Type 0 where
  pub if_same : (l : List ℕ) → SameKey l → twice l ≡ true
  pub only_if_same : (l : List ℕ) → twice l ≡ true → SameKey l
