-- What is known of an item that no rung of the plan for sending refuses. Assumes nothing.
use Prim.Native.Nat.{ℕ, ◌≤◌}
use mathlib.Core.Path.{◌≡◌, sym, ap}
use mathlib.Core.Bool.{true, false}
use mathlib.Core.List.{List}
use native.Mathlib.Omega.{arith}
use borrow.Author.Tests.{ltb-false}
use lib.Dec.{ltb, eqb}
use Rattle.std.specs.Prelude.{Ok, Err}
use Rattle.laws.proofs.Cases.{case, no_answer, same_answer}
use Rattle.terms.specs.declared.Sizes.{Sizes}
use Rattle.terms.specs.declared.Refusal.{Refusal}
use Rattle.acks.specs.State.{table_of}
use Rattle.splitter.specs.Split.{needed}
use Rattle.ends.specs.State.{State}
use Rattle.sending.specs.Plan.{is_listed, is_long, stream_place, is_full, flight_place, plan_of}
use Rattle.datagrams.specs.declared.Item.{Item}
use Rattle.sending.specs.declared.plan.Sending.{Sending}

pub record Allowed (z : Sizes) (s : State) (i : Item) (n : ℕ) (q : Sending) : Type 0 where
  pub listed : is_listed i ≡ true
  pub short : is_long z.fragment_size i n ≡ false
  pub few : needed n z.fragment_size ≤ z.max_fragments
  pub placed : eqb (stream_place i s.ordered.counters s.sequenced) 4 ≡ false
  pub room : is_full i.delivery s.acks.counters.sequence_number.0 (table_of z s.acks.number) ≡ false
  pub at_is : q.at ≡ flight_place i.delivery s.acks.counters.sequence_number.0 (table_of z s.acks.number)
  pub stream_is : q.stream ≡ stream_place i s.ordered.counters s.sequenced

module _ (z : Sizes) (s : State) (i : Item) (n : ℕ) (q : Sending) where
  abbrev N : ℕ
  N = s.acks.counters.sequence_number.0

  abbrev table : List ℕ
  table = table_of z s.acks.number

  pub allowed : plan_of z s.acks.counters.sequence_number.0 s.ordered.counters s.sequenced (table_of z s.acks.number) i n ≡ Ok q → Allowed z s i n q
  unfolding plan_of
  allowed =
      case (is_listed i)
      (λ a.
      case (is_long z.fragment_size i n) (λ b. rw (a, b) (λ e. no_answer e))
      (λ b.
      case (ltb z.max_fragments (needed n z.fragment_size)) (λ c. rw (a, b, c) (λ e. no_answer e))
      (λ c.
      case (eqb (stream_place i s.ordered.counters s.sequenced) 4) (λ d. rw (a, b, c, d) (λ e. no_answer e))
      (λ d.
      case (is_full i.delivery N table) (λ g. rw (a, b, c, d, g) (λ e. no_answer e))
      (λ g.
      rw (a, b, c, d, g)
      (λ e.
      let same = same_answer e in
      record {
        listed = a;
        short = b;
        few = ltb-false z.max_fragments (needed n z.fragment_size) c;
        placed = d;
        room = g;
        at_is = sym (ap (λ (y : Sending). y.at) same);
        stream_is = sym (ap (λ (y : Sending). y.stream) same);
      })))))) (λ a. rw a (λ e. no_answer e))
