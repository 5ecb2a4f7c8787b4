-- What a take finds, by cases. Assumes nothing.
use Prim.Native.Nat.{ℕ, ◌≤◌, ◌<◌}
use mathlib.Core.Path.{◌≡◌}
use lib.ListN.{get_or}
use borrow.Author.Tests.{le-ltb, lt-ltb}
use Rattle.std.specs.Prelude.{Ok, Some, None}
use Rattle.ordering_plan.specs.State.{State}
use Rattle.ordering.specs.Take.{next_place, next_of}

module _ (s : State) (k : ℕ) (e : next_place s ≡ k) where
  pub next_none : s.stream.held ≤ k → next_of s ≡ Ok None
  unfolding next_of
  next_none h = rw (e, le-ltb k s.stream.held h)

  pub next_item : k < s.stream.held → next_of s ≡ Ok (Some (get_or s.lengths k 0))
  unfolding next_of
  next_item h = rw (e, lt-ltb k s.stream.held h)
