-- The whole answers, by what the gate says. Assumes nothing.
use Prim.Native.Nat.{ℕ, ◌≤◌, ◌<◌}
use mathlib.Core.Path.{◌≡◌, refl, sym}
use mathlib.Core.List.{List}
use lib.ListN.{length}
use borrow.Author.Tests.{le-ltb, lt-ltb}
use Rattle.std.specs.Prelude.{Ok, Err}
use Rattle.terms.specs.declared.Sizes.{Sizes}
use Rattle.terms.specs.declared.Refusal.{Refusal}
use Rattle.terms.specs.declared.Refusal.TheVariants.{TooLong}
use Rattle.ordering_plan.specs.State.{State}
use Rattle.ordering_plan.specs.Arrange.{plan_of}
use Rattle.ordering.specs.Take.{next_of}
use Rattle.ordering_plan.specs.Gate.{gate_of}
use Rattle.ordering.specs.Calls.{arrange_of, Arranges, take_of}

module _ (z : Sizes) (s : State) (output : List ℕ) where
  pub arrange_shut : (why : Refusal) (i : ℕ) (p : List ℕ) → gate_of z s output ≡ Err why → arrange_of z s i p output ≡ Err why
  unfolding arrange_of
  arrange_shut why i p e = rw e

  pub arrange_long : (i : ℕ) (p : List ℕ) → gate_of z s output ≡ Ok tt → z.fragment_size < length p → arrange_of z s i p output ≡ Err TooLong
  unfolding arrange_of
  arrange_long i p e h = rw (e, lt-ltb z.fragment_size (length p) h)

  pub arrange_open : (i : ℕ) (p : List ℕ) → gate_of z s output ≡ Ok tt → length p ≤ z.fragment_size → arrange_of z s i p output ≡ plan_of s.stream s.index i
  unfolding arrange_of
  arrange_open i p e h = rw (e, le-ltb z.fragment_size (length p) h)

  -- a refusal leaves everything
  pub refuses : (i : ℕ) (p : List ℕ) (why : Refusal) → arrange_of z s i p output ≡ Err why
      → Arranges z s i p output (record { answer = Err why; stream = s.stream }) s.index s.lengths s.bytes output
  refuses i p why e = record {
    answer_is = sym e;
    leaves = rw e (record { stream_is = refl; index_is = refl; lengths_are = refl; bytes_are = refl });
    output_is = rw e;
  }

  pub take_shut : (why : Refusal) → gate_of z s output ≡ Err why → take_of z s output ≡ Err why
  unfolding take_of
  take_shut why e = rw e

  pub take_open : gate_of z s output ≡ Ok tt → take_of z s output ≡ next_of s
  unfolding take_of
  take_open e = rw e
