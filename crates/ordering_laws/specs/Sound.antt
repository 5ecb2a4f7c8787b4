-- From a fresh stream on, in storage that goes from call to call unaltered, a call of a stream is never refused 13.
use Rattle.std.specs.Prelude.{ℕ, ◌+◌, ◌*◌, ◌≤◌, ◌≡◌, true, List, length, Ok}
use Rattle.terms.specs.Sizes.{in_range}
use Rattle.terms.specs.declared.Sizes.{Sizes}
use Rattle.ordering_plan.specs.State.{State, lending, fresh, written, numbered}
use Rattle.ordering_plan.specs.Arrange.{handed_out, arranged}
use Rattle.ordering.specs.Take.{taken_out, taken}
use Rattle.ordering_plan.specs.Gate.{gate_of}
use Rattle.ordering.specs.Calls.{arrange_of, take_of}

-- after a call: the state that it leaves, and the output
abbrev pub after_arrange : Sizes → State → ℕ → List ℕ → List ℕ → State
after_arrange z s i p out = arranged (arrange_of z s i p out) z.fragment_size i p s

abbrev pub after_take : Sizes → State → List ℕ → State
after_take z s out = taken (take_of z s out) z.fragment_size s

pub record StaysSound : Type 0 where
  -- a fresh stream passes 1, 2 and 13 in any storage that is long enough, whatever it holds
  pub from_fresh : (z : Sizes) (index lengths bytes out : List ℕ) → in_range z ≡ true
      → 64 ≤ length index → 64 ≤ length lengths → 64 * z.fragment_size ≤ length bytes → 16 * z.fragment_size + 17 ≤ length out
      → gate_of z (lending fresh index lengths bytes) out ≡ Ok tt
  -- and so does what any call leaves
  pub by_arrange : (z : Sizes) (s : State) (i : ℕ) (p out : List ℕ) → gate_of z s out ≡ Ok tt
      → gate_of z (after_arrange z s i p out) (written (handed_out (arrange_of z s i p out) p) out) ≡ Ok tt
  pub by_take : (z : Sizes) (s : State) (out : List ℕ) → gate_of z s out ≡ Ok tt
      → gate_of z (after_take z s out) (written (taken_out (take_of z s out) z.fragment_size s) out) ≡ Ok tt
  pub by_send : (z : Sizes) (s : State) (out : List ℕ) → gate_of z s out ≡ Ok tt
      → gate_of z (lending (numbered s.stream).stream s.index s.lengths s.bytes) out ≡ Ok tt
