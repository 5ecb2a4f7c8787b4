-- What the functions for the crates above require: a sound stream in enough storage.
use Rattle.std.specs.Prelude.{ℕ, ◌*◌, ◌≤◌, ◌<◌, length, get_or}
use Rattle.ordering_plan.specs.State.{State}

pub record Room (f : ℕ) (s : State) : Type 0 where
  pub small : f ≤ 1024
  pub few : s.stream.held ≤ 64
  pub indices : 64 ≤ length s.index
  pub lengths : 64 ≤ length s.lengths
  pub bytes : 64 * f ≤ length s.bytes
  pub short : (k : ℕ) → k < s.stream.held → get_or s.lengths k 0 ≤ f
