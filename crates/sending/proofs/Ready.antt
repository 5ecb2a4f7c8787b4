-- What an open gate and a plan that refuses nothing give together. Assumes nothing.
use mathlib.Core.Path.{◌≡◌}
use mathlib.Core.List.{List}
use Prim.Native.Nat.{ℕ}
use native.Mathlib.Omega.{arith}
use lib.ListN.{length}
use Rattle.std.specs.Prelude.{Ok}
use Rattle.terms.specs.declared.Sizes.{Sizes}
use Rattle.acks.specs.State.{table_of}
use Rattle.ends.specs.State.{State, counters_of}
use Rattle.ends.proofs.Opened.{Opened}
use Rattle.datagrams.proofs.Fragments.{whole}
use Rattle.sending.specs.Plan.{plan_of}
use Rattle.sending.specs.Send.{SendReady}
use Rattle.datagrams.specs.declared.Item.{Item}
use Rattle.sending.specs.declared.plan.Sending.{Sending}
use Rattle.sending.proofs.Planned.{accepted}

module _ (z : Sizes) (s : State) (output : List ℕ) (g : Opened z s output) where
  pub ready : (i : Item) (q : Sending) (payload : List ℕ)
      → plan_of z s.acks.counters.sequence_number.0 s.ordered.counters s.sequenced (table_of z s.acks.number) i (length payload) ≡ Ok q
      → SendReady z (counters_of s) s.acks.received s.acks.number s.acks.records s.acks.bytes i q payload output
  ready i q payload e =
      let a = accepted z s.acks.counters.sequence_number.0 s.ordered.counters s.sequenced (table_of z s.acks.number) i (length payload) (omega (arith, whole z s output g, g.within_range.n.0)) g.ordered.four g.four q e in
      record {
        range = g.ranged;
        slots = g.received_room;
        places = g.number_room;
        beside = g.records_room;
        room = g.payloads_room;
        four_ordered = g.ordered.four;
        four_sequenced = g.four;
        short = a.short;
        few = a.few;
        at_place = omega (arith, a.at_place, whole z s output g);
        on_stream_lem = a.on_stream_lem;
        wide = g.output_room;
      }
