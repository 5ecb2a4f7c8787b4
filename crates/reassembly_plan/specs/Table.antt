-- What judging requires, for the crates above.
use Rattle.std.specs.Prelude.{ℕ, ◌≤◌, true, List, ◌≡◌, length}
use Rattle.reassembly_plan.specs.Gate.{sound}

-- a sound table, of as many slots as the list has
pub record Growing (f : ℕ) (slots entry : List ℕ) : Type 0 where
  pub f_most : f ≤ 1024
  pub some : 1 ≤ length slots
  pub most : length slots ≤ 64
  pub beside : length slots ≤ length entry
  pub is_sound_lem : sound f slots entry ≡ true
