-- The whole answers, by what the gate says, and what is left past it. Assumes nothing.
use Prim.Native.Nat.{ℕ, ◌≤◌, ◌<◌}
use mathlib.Core.Path.{◌≡◌, refl, sym}
use mathlib.Core.Bool.{false}
use mathlib.Core.List.{List}
use lib.ListN.{length}
use borrow.Author.Tests.{lt-ltb, le-ltb}
use Rattle.std.specs.Prelude.{Result, Ok, Err}
use Rattle.terms.specs.declared.Sizes.{Sizes}
use Rattle.terms.specs.declared.Refusal.{Refusal}
use Rattle.terms.specs.declared.Refusal.TheVariants.{TooLong}
use Rattle.ordering_plan.specs.State.{written}
use Rattle.ordering_plan.specs.Arrange.{handed_out, arranged}
use Rattle.ordering_plan.specs.declared.Arranged.{Arranged}
use Rattle.arranging_plan.specs.Ids.{place_of}
use Rattle.arranging_plan.specs.Ordered.{States, LeavesAll, state_at, stored_at, plan_on, next_on}
use Rattle.arranging_plan.specs.Gate.{gate_of, is_refused}
use Rattle.arranging_plan.specs.declared.ordered.OrderingStreams.{OrderingStreams}
use Rattle.arranging.specs.Calls.{arrange_of, Arranges, take_of}

module _ (z : Sizes) (s : States) (id : ℕ) (o : List ℕ) where
  pub arrange_shut : (why : Refusal) (i : ℕ) (p : List ℕ) → gate_of z s o ≡ Err why → arrange_of z s id i p o ≡ Err why
  unfolding arrange_of
  arrange_shut why i p e = rw e

  pub arrange_long : (i : ℕ) (p : List ℕ) → gate_of z s o ≡ Ok tt → z.fragment_size < length p → arrange_of z s id i p o ≡ Err TooLong
  unfolding arrange_of
  arrange_long i p e h = rw (e, lt-ltb z.fragment_size (length p) h)

  pub arrange_open : (i : ℕ) (p : List ℕ) → gate_of z s o ≡ Ok tt → length p ≤ z.fragment_size → arrange_of z s id i p o ≡ (plan_on s.counters s.index id i).plan
  unfolding arrange_of
  arrange_open i p e h = rw (e, le-ltb z.fragment_size (length p) h)

  -- a refusal leaves everything
  pub refuses : (i : ℕ) (p : List ℕ) (why : Refusal) → arrange_of z s id i p o ≡ Err why
      → Arranges z s id i p o (record { answer = Err why; streams = s.counters }) s.index s.lengths s.bytes o
  refuses i p why e = record {
    answer_is = sym e;
    leaves = rw e (record { counters_are = refl; index_is = refl; lengths_are = refl; bytes_are = refl });
    output_is = rw e;
  }

  -- any other item is arranged at the place of its stream
  pub arranges : (i : ℕ) (p : List ℕ) {a : Result Arranged Refusal} {j : ℕ} {counters : OrderingStreams} {index lengths bytes out : List ℕ}
      → arrange_of z s id i p o ≡ a → is_refused a ≡ false → j ≡ place_of s.counters.known id
      → LeavesAll (stored_at z.fragment_size s j id (arranged a z.fragment_size i p (state_at z.fragment_size s j))) counters index lengths bytes
      → out ≡ written (handed_out a p) o → Arranges z s id i p o (record { answer = a; streams = counters }) index lengths bytes out
  arranges i p w q e left out = record { answer_is = sym w; leaves = rw (w, q, ← e) left; output_is = rw w out }

  pub take_shut : (why : Refusal) → gate_of z s o ≡ Err why → take_of z s id o ≡ Err why
  unfolding take_of
  take_shut why e = rw e

  pub take_open : gate_of z s o ≡ Ok tt → take_of z s id o ≡ next_on z.fragment_size s id
  unfolding take_of
  take_open e = rw e
