-- What is known once 1, 2 and 13 have been passed, and what is told where 13 is not. Assumes nothing.
use mathlib.Core.Path.{◌≡◌, ap}
use mathlib.Core.Bool.{Bool, true, false, cond, not, ◌&&◌}
use mathlib.Core.List.{List}
use Prim.Native.Nat.{ℕ, ◌*◌, ◌≤◌}
use lib.ListN.{length}
use lib.Dec.{leb}
use borrow.Author.Tests.{leb-true}
use Rattle.laws.proofs.Cases.{each, off}
use Rattle.keys.specs.Keys.{twice}
use Rattle.terms.specs.declared.Sizes.{Sizes}
use Rattle.received.specs.Record.{slot_count, slots_of}
use Rattle.flight.specs.Entry.{numbers_in}
use Rattle.flight.specs.Places.{over_long, sound as flight_sound}
use Rattle.acks.specs.State.{table_of, slot_of}
use Rattle.terms.specs.Sizes.{in_range}
use Rattle.terms.specs.declared.Refusal.{Refusal}
use Rattle.terms.specs.declared.Refusal.TheVariants.{BadSizes, BadState}
use Rattle.acks.specs.Gate.{flight_lent, lent, sound, gated}

pub flight_means : (z : Sizes) (number records : List ℕ) → flight_lent z number records ≡ true
    → (z.packets_in_flight ≤ length number) × (z.packets_in_flight ≤ length records)
unfolding flight_lent
flight_means z number records e =
    let h = each (leb z.packets_in_flight (length number)) (leb z.packets_in_flight (length records)) e in
    (leb-true z.packets_in_flight (length number) h.0, leb-true z.packets_in_flight (length records) h.1)

pub record Lent (z : Sizes) (received number records bytes : List ℕ) : Type 0 where
  pub slots : slot_count ≤ length received
  pub numbers : z.packets_in_flight ≤ length number
  pub recorded : z.packets_in_flight ≤ length records
  pub room : z.packets_in_flight * slot_of z ≤ length bytes

pub lent_means : (z : Sizes) (received number records bytes : List ℕ) → lent z received number records bytes ≡ true → Lent z received number records bytes
unfolding lent
lent_means z received number records bytes e =
    let p = each (leb slot_count (length received)) (flight_lent z number records && leb (z.packets_in_flight * slot_of z) (length bytes)) e in
    let q = each (flight_lent z number records) (leb (z.packets_in_flight * slot_of z) (length bytes)) p.1 in
    let f = flight_means z number records q.0 in
    record {
      slots = leb-true slot_count (length received) p.0;
      numbers = f.0;
      recorded = f.1;
      room = leb-true (z.packets_in_flight * slot_of z) (length bytes) q.1;
    }

pub record Sound (z : Sizes) (received number : List ℕ) : Type 0 where
  pub once_received : twice (slots_of received) ≡ false
  pub fits : over_long (slot_of z) (table_of z number) ≡ false
  pub once_sent : twice (numbers_in (table_of z number)) ≡ false

pub sound_means : (z : Sizes) (received number : List ℕ) → sound z received number ≡ true → Sound z received number
unfolding sound flight_sound
sound_means z received number e =
    let p = each (not (twice (slots_of received))) (not (over_long (slot_of z) (table_of z number)) && not (twice (numbers_in (table_of z number)))) e in
    let q = each (not (over_long (slot_of z) (table_of z number))) (not (twice (numbers_in (table_of z number)))) p.1 in
    record {
      once_received = off (twice (slots_of received)) p.0;
      fits = off (over_long (slot_of z) (table_of z number)) q.0;
      once_sent = off (twice (numbers_in (table_of z number))) q.1;
    }

-- sizes in range and long storage with a bad state: 13, whatever the answer would be
pub unsound : {A : Type 0} (z : Sizes) (refused : Refusal → A) (answer : A) → in_range z ≡ true → gated z true false refused answer ≡ refused BadState
unsound {A = A} z refused answer e = ap (λ (b : Bool). cond {A = A} b (refused BadState) (refused BadSizes)) e
