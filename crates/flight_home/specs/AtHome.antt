-- A table of which a number is found without a walk.
use Rattle.std.specs.Prelude.{◌≡◌, Bool, true, false, List, ℕ, ◌≤◌, length, get_or}
use Rattle.key_parts.specs.Words.{Placed}
use Rattle.keys.specs.Home.{Home}
use Rattle.flight.specs.Entry.{numbers_in}
use Rattle.flight.specs.Places.{over_long}

-- each number stands at its own place, and no recorded length is over its slot
pub record AtHome (room : ℕ) (number : List ℕ) : Type 0 where
  pub home : Home (numbers_in number)
  pub fits : over_long room number ≡ false

-- the same of one place, where a number is the place added to one of two numbers
abbrev pub PlaceHome : ℕ → ℕ → ℕ → List ℕ → ℕ → Type 0
PlaceHome room lap last number place = Placed room lap last place (get_or number place 0)

-- what a caller knows of a table: where it says `true`, there is a place, and each number stands at its own
abbrev pub KnownHome : Bool → List ℕ → Type 0
KnownHome home number = home ≡ true → (1 ≤ length number) × Home (numbers_in number)
