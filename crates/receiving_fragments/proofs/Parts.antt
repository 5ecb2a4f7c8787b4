-- What module 3 says of a fragment, in the words of a datagram's headers. Assumes nothing.
use Prim.Native.Nat.{ℕ}
use mathlib.Core.Path.{◌≡◌, sym, ap}
use mathlib.Core.List.{List, ◌++◌}
use lib.ListN.{length, drop, take-append-drop}
use Rattle.terms.specs.declared.Sizes.{Sizes}
use Rattle.packet_table.specs.declared.Headers.{Headers}
use Rattle.std.specs.Prelude.{Err}
use Rattle.terms.specs.declared.Refusal.{Refusal}
use Rattle.serial.specs.declared.PacketNumber.{PacketNumber}
use Rattle.acks.specs.declared.Acknowledgment.{Acknowledgment}
use Rattle.reassembly.specs.Effects.{State, Performs, performed, num_after, slots_after, entry_after, header_after, bytes_after, output_after, answer_of}
use Rattle.reassembly.specs.Room.{lending}
use Rattle.reassembly.specs.Call.{stated}
use Rattle.reassembly.specs.declared.effects.Handled.{Handled}
use Rattle.receiving_fragments.specs.Fragments.{part_of, part_plan, parts_after, part_answer, part_output, Joins}

-- a fragment's plan was carried out on the first C of the slots that are lent
pub record Joined (z : Sizes) (h : Headers) (payload : List ℕ) (p : State) (output : List ℕ) (r : Handled) (slots entry header bytes out : List ℕ) : Type 0 where
  pub number : r.sequence_num.0 ≡ (parts_after z h payload p).num
  pub answer : r.answer ≡ part_answer z h payload p
  pub slots_are : slots ++ drop z.reassembly_slots p.slots ≡ (parts_after z h payload p).slots
  pub entry_is : entry ≡ (parts_after z h payload p).entry
  pub header_is : header ≡ (parts_after z h payload p).header
  pub bytes_are : bytes ≡ (parts_after z h payload p).bytes
  pub output_is : out ≡ part_output z h payload p output

pub joined : (z : Sizes) (h : Headers) (payload : List ℕ) (p : State) (output : List ℕ) (r : Handled) (slots entry header bytes out : List ℕ)
    → Performs (part_plan z p h (length payload)) z.fragment_size (part_of h) payload (stated z.reassembly_slots p) output r slots entry header bytes out
    → Joined z h payload p output r slots entry header bytes out
joined z h payload p output r slots entry header bytes out d =
    record {
      number = d.number;
      answer = d.answer;
      slots_are = ap (λ (l : List ℕ). l ++ drop z.reassembly_slots p.slots) d.slots_are;
      entry_is = d.entry_is;
      header_is = d.header_is;
      bytes_are = d.bytes_are;
      output_is = d.output_is;
    }

-- a refusal leaves everything
pub kept : (z : Sizes) (h : Headers) (payload : List ℕ) (acks : Acknowledgment) (num : PacketNumber) (received number slots entry header joined output : List ℕ) (why : Refusal)
    → part_plan z (lending num.0 slots entry header joined) h (length payload) ≡ Err why
    → Joins z h payload acks num received number slots entry header joined output (record { acks = acks; reassembly = num; answer = Err why }) received number slots entry header joined output
unfolding performed num_after slots_after entry_after header_after bytes_after output_after answer_of
kept z h payload acks num received number slots entry header joined output why e =
    record {
      answer_is = rw e;
      acks_are = rw e;
      received_is = rw e;
      number_is = rw e;
      reassembly_is = rw e;
      slots_are = rw e (sym (take-append-drop z.reassembly_slots slots));
      entry_is = rw e;
      header_is = rw e;
      joined_are = rw e;
      output_is = rw e;
    }
