-- Each field of what is left is one call's own `ensures`; that the plan is none of the refused ones picks what is heard.
use mathlib.Core.Path.{◌≡◌, refl, ap, ◌∙◌}
use native.Mathlib.Omega.{arith}
use lib.ListN.{length}
use Rattle.std.specs.Prelude.{Result, Ok}
use Rattle.terms.specs.declared.Refusal.{Refusal}
use Rattle.receiving_plan.specs.Plan.{told, item_of}
use Rattle.receiving_packets.specs.Packets.{handed}
use Rattle.receiving_plan.specs.declared.Answer.{Answer}
use Rattle.receiving_packets.proofs.Plans.{sequenced_ready, ordered_ready}
use Rattle.receiving_packets.proofs.perform.Goals as goal
use Rattle.receiving_packets.proofs.perform.Goals.{After-tell-answer}

answered : (c : After-tell-answer) → c.tell-answer.result ≡ told (Ok c.args.plan) (item_of c.args.headers (length c.args.payload.now))
answered c = c.tell-answer.ensures ∙ ap (told (Ok c.args.plan)) c.item-item.ensures

pub sequence-sequencing-requires : goal.sequence-sequencing-requires
sequence-sequencing-requires c =
    let s = c in
    sequenced_ready (Ok s.args.plan) s.args.headers s.args.end.ordering s.args.index.now s.args.end.sequencing s.requires.1 s.requires.0.four

pub arrange-ordering-requires : goal.arrange-ordering-requires
arrange-ordering-requires c =
    let s = c in
    (s.requires.0.streams, s.requires.0.short, ordered_ready (Ok s.args.plan) s.args.headers s.args.end.ordering s.args.index.now s.args.end.sequencing s.requires.1 s.requires.0.streams.four)

pub hand_out-requires : goal.hand_out-requires
hand_out-requires c =
    let p = c.requires.0 in
    omega (arith, p.short, p.room)

pub returns : goal.returns
returns c =
    let s = c in
    let h = c.hear-acks.ensures in
    let g = c.arrange-ordering.ensures in
    let a = answered (goal.at.returns c).After-tell-answer in
    record {
      answer_is = a;
      acks_are = h.counters_are;
      received_is = h.received_is;
      number_is = h.number_is;
      reassembly_is = refl;
      ordering_is = g.counters_are;
      index_is = g.index_is;
      lengths_are = g.lengths_are;
      held_are = g.bytes_are;
      sequencing_is = c.sequence-sequencing.ensures;
      output_is = c.hand_out.ensures ∙ ap (λ (x : Result Answer Refusal). handed x s.args.payload.now s.args.output.now) a;
    }
