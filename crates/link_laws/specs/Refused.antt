-- Document 01, "Numbers that come back", the column "Leaves": "all unchanged", but for two numbers of a fragment that comes.
use Rattle.std.specs.Prelude.{ℕ, ◌≡◌, List, Err}
use Rattle.terms.specs.Refusals.{number_of}
use Rattle.terms.specs.declared.Sizes.{Sizes}
use Rattle.terms.specs.declared.Refusal.{Refusal}
use Rattle.flight.specs.declared.SentPacket.{SentPacket}
use Rattle.packet_table.specs.declared.DeliveryGuarantee.{DeliveryGuarantee}
use Rattle.packet_table.specs.declared.OrderingGuarantee.{OrderingGuarantee}
use Rattle.ends.specs.State.{State}
use Rattle.link_incoming.specs.Calls.{receive_of, take_of}
use Rattle.link_outgoing.specs.Calls.{send_of, resend_of, fragment_of, fragment_output}
use Rattle.link.specs.Calls.{new_of, filled, drop_of, drop_output}
use Rattle.link_laws.specs.Calls.{dropped}

-- "all unchanged": the end and the output after a call are those before it
pub record Unchanged (s : State) (output : List ℕ) (end : State) (written : List ℕ) : Type 0 where
  pub end_is : end ≡ s
  pub output_is : written ≡ output

-- all but the messages that are put together from fragments
pub record PartsAlone (s : State) (output : List ℕ) (end : State) (written : List ℕ) : Type 0 where
  pub acks_are : end.acks ≡ s.acks
  pub ordered_are : end.ordered ≡ s.ordered
  pub sequenced_are : end.sequenced ≡ s.sequenced
  pub output_is : written ≡ output

pub record RefusedLeaves : Type 0 where
  -- a datagram comes, and the number is neither 8 nor 12
  pub receive : (z : Sizes) (s : State) (datagram output : List ℕ) (why : Refusal)
      → (receive_of z s datagram output).answer ≡ Err why
      → (number_of why ≡ 8 → ⊥)
      → (number_of why ≡ 12 → ⊥)
      → Unchanged s output (receive_of z s datagram output).end (receive_of z s datagram output).output
  -- 8 "receiving: the entry stays, and where it was absent it has been made .."; 12 "entry removed"; so whatever the number is
  pub receive_any : (z : Sizes) (s : State) (datagram output : List ℕ) (why : Refusal)
      → (receive_of z s datagram output).answer ≡ Err why
      → PartsAlone s output (receive_of z s datagram output).end (receive_of z s datagram output).output
  -- the item that is expected on an ordered stream is taken
  pub take : (z : Sizes) (s : State) (stream : ℕ) (output : List ℕ) (why : Refusal)
      → (take_of z s stream output).answer ≡ Err why
      → Unchanged s output (take_of z s stream output).end (take_of z s stream output).output
  -- an item is sent, or sent again
  pub send : (z : Sizes) (s : State) (delivery : DeliveryGuarantee) (ordering : OrderingGuarantee) (stream : ℕ) (payload output : List ℕ) (why : Refusal)
      → (send_of z s delivery ordering stream payload output).answer ≡ Err why
      → Unchanged s output (send_of z s delivery ordering stream payload output).end (send_of z s delivery ordering stream payload output).output
  pub resend : (z : Sizes) (s : State) (sent : SentPacket) (payload output : List ℕ) (why : Refusal)
      → (resend_of z s sent payload output).answer ≡ Err why
      → Unchanged s output (resend_of z s sent payload output).end (resend_of z s sent payload output).output
  -- a further fragment is written: the call changes no end
  pub fragment : (z : Sizes) (s : State) (n j : ℕ) (output : List ℕ) (why : Refusal)
      → fragment_of z s n j output ≡ Err why
      → fragment_output z s n j output ≡ output
  -- a packet is given up
  pub drop : (z : Sizes) (s : State) (output : List ℕ) (why : Refusal)
      → drop_of z s output ≡ Err why
      → Unchanged s output (dropped z s output) (drop_output z s output)
  -- an end is to be made: no table is emptied
  pub new : (z : Sizes) (received number records payloads slots entry header joined index lengths held output table : List ℕ) (why : Refusal)
      → new_of z received number records payloads slots entry header joined index lengths held output ≡ Err why
      → filled (new_of z received number records payloads slots entry header joined index lengths held output) table ≡ table
