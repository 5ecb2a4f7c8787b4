-- The two ways of each call. Where the gate is shut everything stays as it was; where it is open the call does what the crate below
-- it says. Assumes nothing.
use Prim.Native.Nat.{ℕ}
use mathlib.Core.Path.{◌≡◌, refl}
use mathlib.Core.List.{List}
use mathlib.Core.Bool.{true, false}
use lib.Dec.{leb}
use Rattle.std.specs.Prelude.{Result, Ok, Err, Option}
use Rattle.terms.specs.declared.Sizes.{Sizes}
use Rattle.terms.specs.declared.Refusal.{Refusal}
use Rattle.terms.specs.declared.Refusal.TheVariants.{BadHeader}
use Rattle.flight.specs.declared.SentPacket.{SentPacket}
use Rattle.packet_table.specs.declared.DeliveryGuarantee.{DeliveryGuarantee}
use Rattle.packet_table.specs.declared.OrderingGuarantee.{OrderingGuarantee}
use Rattle.ends.specs.State.{State, counters_of}
use Rattle.ends.specs.Gate.{gate_of}
use Rattle.sending.specs.Send.{Step as Sent, transmitted_of, Sends}
use Rattle.datagrams.specs.Further.{further_of, further_output}
use Rattle.link_outgoing.specs.Calls.{send_refused, item_next, send_of, item_again, resend_of, fragment_of, fragment_output}

-- nothing was sent
pub not_sent : (t : Sent) (why : Refusal) (s : State) (output : List ℕ) → t ≡ send_refused why s output
    → Sends t (record { end = counters_of s; answer = Err why }) s.acks.received s.acks.number s.acks.records s.acks.bytes s.parts.slots s.parts.entry s.parts.header s.parts.bytes s.ordered.index s.ordered.lengths s.ordered.bytes output
not_sent t why s output e =
    rw e
    (record {
      answer_is = refl;
      leaves = record {
        end_is = refl;
        received_is = refl;
        number_is = refl;
        records_are = refl;
        payloads_are = refl;
        slots_are = refl;
        entry_is = refl;
        header_is = refl;
        joined_are = refl;
        index_is = refl;
        lengths_are = refl;
        held_are = refl;
      };
      output_is = refl;
    })

module _ (z : Sizes) (s : State) (output : List ℕ) where
  pub send_shut : (why : Refusal) (delivery : DeliveryGuarantee) (ordering : OrderingGuarantee) (stream : ℕ) (payload : List ℕ) → gate_of z s output ≡ Err why
      → send_of z s delivery ordering stream payload output ≡ send_refused why s output
  unfolding send_of
  send_shut why delivery ordering stream payload e = rw e

  pub send_open : (delivery : DeliveryGuarantee) (ordering : OrderingGuarantee) (stream : ℕ) (payload : List ℕ) → gate_of z s output ≡ Ok tt
      → send_of z s delivery ordering stream payload output ≡ transmitted_of z s (item_next delivery ordering stream) payload output
  unfolding send_of
  send_open delivery ordering stream payload e = rw e

  pub resend_shut : (why : Refusal) (sent : SentPacket) (payload : List ℕ) → gate_of z s output ≡ Err why → resend_of z s sent payload output ≡ send_refused why s output
  unfolding resend_of
  resend_shut why sent payload e = rw e

  pub resend_unknown : (sent : SentPacket) (payload : List ℕ) → gate_of z s output ≡ Ok tt → leb 3 sent.ordering ≡ true → resend_of z s sent payload output ≡ send_refused BadHeader s output
  unfolding resend_of
  resend_unknown sent payload e h = rw (e, h)

  pub resend_open : (sent : SentPacket) (payload : List ℕ) → gate_of z s output ≡ Ok tt → leb 3 sent.ordering ≡ false → resend_of z s sent payload output ≡ transmitted_of z s (item_again sent) payload output
  unfolding resend_of
  resend_open sent payload e h = rw (e, h)

  pub fragment_shut : (why : Refusal) (n j : ℕ) → gate_of z s output ≡ Err why → (Err why ≡ fragment_of z s n j output) × (output ≡ fragment_output z s n j output)
  unfolding fragment_of fragment_output
  fragment_shut why n j e = rw e (refl, refl)

  pub fragment_open : (r : Result (Option ℕ) Refusal) (out : List ℕ) (n j : ℕ) → gate_of z s output ≡ Ok tt
      → r ≡ further_of z s.acks.counters s.acks.received s.acks.number s.acks.bytes n j
      → out ≡ further_output z s.acks.counters s.acks.received s.acks.number s.acks.bytes n j output
      → (r ≡ fragment_of z s n j output) × (out ≡ fragment_output z s n j output)
  unfolding fragment_of fragment_output
  fragment_open r out n j e a o = rw e (a, o)
