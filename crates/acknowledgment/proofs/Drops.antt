-- What a drop leaves of the lent column and of the output, from what it leaves of the table. Assumes nothing.
use mathlib.Core.Path.{◌≡◌, refl, ap, ◌∙◌}
use mathlib.Core.List.{List, ◌++◌}
use Prim.Native.Nat.{ℕ}
use lib.ListN.{drop, take-append-drop}
use Rattle.std.specs.Prelude.{Option, Some, None, Result, Ok}
use Rattle.terms.specs.declared.Sizes.{Sizes}
use Rattle.terms.specs.declared.Refusal.{Refusal}
use Rattle.flight.specs.Lost.{number_left, output_left}
use Rattle.acks.specs.State.{State, table_of, slot_of}
use Rattle.acknowledgment.specs.Calls.{answered_by, number_kept, output_kept}
use Rattle.flight.specs.declared.lost.Dropped.{Dropped}

-- what is answered is the drop
pub answer : (d : Option Dropped) → ◌≡◌ {A = Result (Option Dropped) Refusal} (Ok d) (answered_by d)
answer None = refl
answer (Some d) = refl

pub number_left_lem : (d : Option Dropped) (z : Sizes) (number part : List ℕ)
    → part ≡ number_left d (table_of z number)
    → part ++ drop z.packets_in_flight number ≡ number_kept z (answered_by d) number
number_left_lem None z number part e =
    ap (λ (l : List ℕ). l ++ drop z.packets_in_flight number) e ∙ take-append-drop z.packets_in_flight number
number_left_lem (Some d) z number part e = ap (λ (l : List ℕ). l ++ drop z.packets_in_flight number) e

pub output_left_lem : (d : Option Dropped) (z : Sizes) (s : State) (output out : List ℕ)
    → out ≡ output_left d (slot_of z) (table_of z s.number) s.bytes output
    → out ≡ output_kept z (answered_by d) s output
output_left_lem None z s output out e = e
output_left_lem (Some d) z s output out e = e
