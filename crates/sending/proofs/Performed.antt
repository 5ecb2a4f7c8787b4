-- From what each part of a send did, and from the plan, to what the whole call answers and leaves. Assumes nothing.
use mathlib.Core.Path.{◌≡◌, refl}
use mathlib.Core.List.{List}
use Prim.Native.Nat.{ℕ}
use lib.ListN.{length}
use Rattle.std.specs.Prelude.{Result, Ok, Err}
use Rattle.terms.specs.declared.Sizes.{Sizes}
use Rattle.terms.specs.declared.Refusal.{Refusal}
use Rattle.acks.specs.State.{table_of}
use Rattle.acks.specs.declared.Acknowledgment.{Acknowledgment}
use Rattle.ends.specs.State.{State, counters_of}
use Rattle.ends.specs.declared.End.{End}
use Rattle.sending.specs.Plan.{plan_of}
use Rattle.packet.specs.Build.{Writes}
use Rattle.datagrams.specs.Datagrams.{datagram_for, count_of}
use Rattle.sending.specs.Send.{identified_in, record_of, kept_by, Keeping, Performs, transmitted_of, Sends}
use Rattle.datagrams.specs.declared.Item.{Item}
use Rattle.sending.specs.declared.Sent.{Sent}
use Rattle.sending.specs.declared.effects.Identified.{Identified}
use Rattle.sending.specs.declared.plan.Sending.{Sending}

module _ (z : Sizes) (end : End) (received number records bytes : List ℕ) (i : Item) (q : Sending) (payload output : List ℕ) where
  abbrev sentAs : Identified → Acknowledgment → ℕ → ℕ → Sent
  sentAs d acks datagrams written =
      record {
        end = record { acks = acks; reassembly = end.reassembly; ordering = d.ordering; sequencing = d.sequencing };
        answer = Ok (record { number = end.acks.sequence_number; datagrams = datagrams; length = written });
      }

  pub performed : (d : Identified) (acks : Acknowledgment) (datagrams written : ℕ) (number' records' bytes' output' : List ℕ)
      → d ≡ identified_in end i q
      → Writes (datagram_for z.version z.fragment_size i d.item end.acks received payload) output written output'
      → datagrams ≡ count_of z.fragment_size (length payload)
      → Keeping (kept_by i.delivery end.acks z.fragment_size q.at number records bytes (record_of i d.item) payload) acks number' records' bytes'
      → Performs z end received number records bytes i q payload output (sentAs d acks datagrams written) number' records' bytes' output'
  performed d acks datagrams written number' records' bytes' output' e w n k =
      let w' = rw e at w in
      let k' = rw e at k in
      record {
        answer_is = rw (n, w'.length_is);
        acks_are = k'.counters_are;
        number_is = k'.number_is;
        records_are = k'.records_are;
        bytes_are = k'.bytes_are;
        reassembly_is = refl;
        ordering_is = rw e;
        sequencing_is = rw e;
        output_is = w'.output_is;
      }

module _ (z : Sizes) (s : State) (i : Item) (payload output : List ℕ) where
  abbrev P : Result Sending Refusal
  P = plan_of z s.acks.counters.sequence_number.0 s.ordered.counters s.sequenced (table_of z s.acks.number) i (length payload)

  -- a refusal leaves everything as it was
  pub kept : (why : Refusal) → P ≡ Err why
      → Sends (transmitted_of z s i payload output) (record { end = counters_of s; answer = Err why })
      s.acks.received s.acks.number s.acks.records s.acks.bytes
      s.parts.slots s.parts.entry s.parts.header s.parts.bytes
      s.ordered.index s.ordered.lengths s.ordered.bytes output
  unfolding transmitted_of
  kept why e =
      rw e
      (record {
        answer_is = refl;
        leaves = record {
          end_is = refl;
          received_is = refl;
          number_is = refl;
          records_are = refl;
          payloads_are = refl;
          slots_are = refl;
          entry_is = refl;
          header_is = refl;
          joined_are = refl;
          index_is = refl;
          lengths_are = refl;
          held_are = refl;
        };
        output_is = refl;
      })

  pub sends : (q : Sending) (r : Sent) (number records bytes output' : List ℕ) → P ≡ Ok q
      → Performs z (counters_of s) s.acks.received s.acks.number s.acks.records s.acks.bytes i q payload output r number records bytes output'
      → Sends (transmitted_of z s i payload output) r
      s.acks.received number records bytes
      s.parts.slots s.parts.entry s.parts.header s.parts.bytes
      s.ordered.index s.ordered.lengths s.ordered.bytes output'
  unfolding transmitted_of
  sends q r number records bytes output' e p =
      rw e
      (record {
        answer_is = p.answer_is;
        leaves = record {
          end_is = λ k. record { acks = p.acks_are k; reassembly = p.reassembly_is k; ordering = p.ordering_is k; sequencing = p.sequencing_is k };
          received_is = refl;
          number_is = p.number_is;
          records_are = p.records_are;
          payloads_are = p.bytes_are;
          slots_are = refl;
          entry_is = refl;
          header_is = refl;
          joined_are = refl;
          index_is = refl;
          lengths_are = refl;
          held_are = refl;
        };
        output_is = p.output_is;
      })
