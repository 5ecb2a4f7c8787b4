-- The ways of each call. What is refused leaves everything as it was; where the gate is open the call does what the crates below
-- it say. Assumes nothing.
use Prim.Native.Nat.{ℕ}
use mathlib.Core.Path.{◌≡◌, refl}
use mathlib.Core.Bool.{true, false}
use mathlib.Core.List.{List, ◌++◌}
use lib.ListN.{drop}
use Rattle.std.specs.Prelude.{Result, Ok, Err, Option, ⊤}
use Rattle.terms.specs.Sizes.{in_range}
use Rattle.terms.specs.declared.Sizes.{Sizes}
use Rattle.terms.specs.declared.Refusal.{Refusal}
use Rattle.terms.specs.declared.Refusal.TheVariants.{BadSizes, BadStorage}
use Rattle.flight.specs.Lost.{drop_of as lost_of, number_left, output_left}
use Rattle.acks.specs.State.{table_of, slot_of}
use Rattle.acknowledgment.specs.Calls.{answered_by}
use Rattle.acknowledgment.proofs.Drops.{number_left_lem, output_left_lem}
use Rattle.ends.specs.State.{State, lending, fresh_end}
use Rattle.ends.specs.Gate.{is_lent, gate_of}
use Rattle.link.specs.Calls.{new_of, drop_of, drop_number, drop_output, status_of, report_of}
use Rattle.flight.specs.declared.lost.Dropped.{Dropped}

module _ (z : Sizes) (received number records payloads slots entry header joined index lengths held output : List ℕ) where
  abbrev Lent : State
  Lent = lending fresh_end received number records payloads slots entry header joined index lengths held

  abbrev New : Result ⊤ Refusal
  New = new_of z received number records payloads slots entry header joined index lengths held output

  pub new_sizes : in_range z ≡ false → New ≡ Err BadSizes
  unfolding new_of
  new_sizes e = rw e

  pub new_storage : in_range z ≡ true → is_lent z Lent output ≡ false → New ≡ Err BadStorage
  unfolding new_of
  new_storage e l = rw (e, l)

  pub new_ready : in_range z ≡ true → is_lent z Lent output ≡ true → New ≡ Ok tt
  unfolding new_of
  new_ready e l = rw (e, l)

-- a drop: its answer, and what it leaves of the numbers in flight and of the output
abbrev pub Drops : Sizes → State → List ℕ → Result (Option Dropped) Refusal → List ℕ → List ℕ → Type 0
Drops z s output r number out = (r ≡ drop_of z s output) × ((number ≡ drop_number z s output) × (out ≡ drop_output z s output))

module _ (z : Sizes) (s : State) (output : List ℕ) where
  abbrev Lost : Option Dropped
  Lost = lost_of s.acks.counters.remote_ack_sequence_num.0 (table_of z s.acks.number) s.acks.records

  drop_refused : (why : Refusal) → gate_of z s output ≡ Err why → drop_of z s output ≡ Err why
  unfolding drop_of
  drop_refused why e = rw e

  drop_opened : gate_of z s output ≡ Ok tt → drop_of z s output ≡ answered_by Lost
  unfolding drop_of
  drop_opened e = rw e

  pub drop_shut : (why : Refusal) → gate_of z s output ≡ Err why → Drops z s output (Err why) s.acks.number output
  drop_shut why e = rw (drop_refused why e) (refl, (refl, refl))

  -- `part` is what is left of the first N
  pub drop_open : (r : Result (Option Dropped) Refusal) (part out : List ℕ) → gate_of z s output ≡ Ok tt → r ≡ answered_by Lost
      → part ≡ number_left Lost (table_of z s.acks.number)
      → out ≡ output_left Lost (slot_of z) (table_of z s.acks.number) s.acks.bytes output
      → Drops z s output r (part ++ drop z.packets_in_flight s.acks.number) out
  drop_open r part out e a n o =
      rw (drop_opened e) (a, (number_left_lem Lost z s.acks.number part n, output_left_lem Lost z s.acks output out o))

  pub report_shut : (why : Refusal) → gate_of z s output ≡ Err why → report_of z s output ≡ Err why
  unfolding report_of
  report_shut why e = rw e

  pub report_open : gate_of z s output ≡ Ok tt → report_of z s output ≡ Ok (status_of z s)
  unfolding report_of
  report_open e = rw e
