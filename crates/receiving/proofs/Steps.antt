-- A datagram that has come, by its cases. Assumes nothing.
use Prim.Native.Nat.{ℕ, ◌-◌, ◌<◌, ◌≤◌}
use mathlib.Core.Path.{◌≡◌, refl}
use mathlib.Core.List.{List}
use lib.ListN.{length, take, drop, length-drop}
use lib.Seq.{take-length}
use borrow.Author.Tests.{lt-ltb, le-ltb}
use Rattle.std.specs.Prelude.{Result, Ok, Err}
use Rattle.terms.specs.declared.Sizes.{Sizes}
use Rattle.terms.specs.declared.Refusal.{Refusal}
use Rattle.terms.specs.declared.Refusal.TheVariants.{TooLong}
use Rattle.packet.specs.Read.{read_of, found}
use Rattle.packet_table.specs.declared.Headers.{Headers}
use Rattle.packet_table.specs.declared.PacketType.TheVariants.{Packet, Fragment, Heartbeat as IsHeartbeat}
use Rattle.ends.specs.State.{State, lending}
use Rattle.ends.specs.declared.End.{End}
use Rattle.receiving_packets.specs.Packets.{Accepts}
use Rattle.receiving_fragments.specs.Fragments.{Joins}
use Rattle.receiving.specs.Receive.{Step, refused, packet_of, fragment_of, with_part, received_of, Receives}
use Rattle.receiving_packets.specs.declared.Received.{Received}
use Rattle.receiving_fragments.specs.declared.Joined.{Joined}
use Rattle.receiving_plan.specs.declared.Answer.{Answer}
use Rattle.receiving_plan.specs.declared.Answer.TheVariants.{Heartbeat}

module _ (z : Sizes) (s : State) (d output : List ℕ) where
  pub on_unread : (why : Refusal) → read_of z.version d ≡ Err why → received_of z s d output ≡ refused why s output
  unfolding received_of
  on_unread why q = rw q

  module _ (h : Headers) (at : ℕ) (q : read_of z.version d ≡ found h at) where
    pub on-long : z.fragment_size < length d - at → received_of z s d output ≡ refused TooLong s output
    unfolding received_of
    on-long l = rw (q, lt-ltb _ _ l)

    module _ (short : length d - at ≤ z.fragment_size) where
      pub on-packet : h.standard.packet_type ≡ Packet → received_of z s d output ≡ packet_of z h (drop at d) s output
      unfolding received_of
      on-packet t = rw (q, le-ltb _ _ short, t)

      pub on-fragment : h.standard.packet_type ≡ Fragment → received_of z s d output ≡ fragment_of z h (drop at d) s output
      unfolding received_of
      on-fragment t = rw (q, le-ltb _ _ short, t)

      pub on-heartbeat : h.standard.packet_type ≡ IsHeartbeat → received_of z s d output ≡ record { answer = Ok Heartbeat; end = s; output = output }
      unfolding received_of
      on-heartbeat t = rw (q, le-ltb _ _ short, t)

-- the rest of a datagram, as a part that is lent is
pub rest : (d : List ℕ) (a : ℕ) → take (length d - a) (drop a d) ≡ drop a d
rest d a = rw (← length-drop a d) (take-length (drop a d))

module _ (end : End) (received number records payloads slots entry header joined index lengths held output : List ℕ) where
  abbrev whole : State
  whole = lending end received number records payloads slots entry header joined index lengths held

  -- nothing has changed
  pub left_all : (t : Step) (r : Received) (a : Result Answer Refusal) → t ≡ record { answer = a; end = whole; output = output } → r ≡ record { end = end; answer = a }
      → Receives t r received number records payloads slots entry header joined index lengths held output
  left_all t r a q w =
      rw (q, w)
      (record {
        answer_is = refl;
        leaves = record {
          end_is = refl;
          received_is = refl;
          number_is = refl;
          records_are = refl;
          payloads_are = refl;
          slots_are = refl;
          entry_is = refl;
          header_is = refl;
          joined_are = refl;
          index_is = refl;
          lengths_are = refl;
          held_are = refl;
        };
        output_is = refl;
      })

  module _ (t : Step) (z : Sizes) (h : Headers) (payload : List ℕ) (r : Received) where
    pub by-packet : (received' number' index' lengths' held' output' : List ℕ) → t ≡ packet_of z h payload whole output
        → Accepts z h payload end received number index lengths held output r received' number' index' lengths' held' output'
        → Receives t r received' number' records payloads slots entry header joined index' lengths' held' output'
    by-packet received' number' index' lengths' held' output' q p =
        rw q
        (record {
          answer_is = p.answer_is;
          leaves = record {
            end_is = λ i. record { acks = p.acks_are i; reassembly = p.reassembly_is i; ordering = p.ordering_is i; sequencing = p.sequencing_is i };
            received_is = p.received_is;
            number_is = p.number_is;
            records_are = refl;
            payloads_are = refl;
            slots_are = refl;
            entry_is = refl;
            header_is = refl;
            joined_are = refl;
            index_is = p.index_is;
            lengths_are = p.lengths_are;
            held_are = p.held_are;
          };
          output_is = p.output_is;
        })

    pub by-fragment : (received' number' slots' entry' header' joined' output' : List ℕ) → t ≡ fragment_of z h payload whole output
        → (j : Joined) → r ≡ with_part end j
        → Joins z h payload end.acks end.reassembly received number slots entry header joined output j received' number' slots' entry' header' joined' output'
        → Receives t r received' number' records payloads slots' entry' header' joined' index lengths held output'
    by-fragment received' number' slots' entry' header' joined' output' q j w p =
        rw (q, w)
        (record {
          answer_is = p.answer_is;
          leaves = record {
            end_is = λ i. record { acks = p.acks_are i; reassembly = record { 0 = p.reassembly_is i }; ordering = end.ordering; sequencing = end.sequencing };
            received_is = p.received_is;
            number_is = p.number_is;
            records_are = refl;
            payloads_are = refl;
            slots_are = p.slots_are;
            entry_is = p.entry_is;
            header_is = p.header_is;
            joined_are = p.joined_are;
            index_is = refl;
            lengths_are = refl;
            held_are = refl;
          };
          output_is = p.output_is;
        })
