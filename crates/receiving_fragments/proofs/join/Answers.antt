-- The plan is judged and carried out on the first C slots (`joined`), and what is answered decides what is heard.
use mathlib.Core.Path.{◌≡◌, sym, ap, ◌∙◌}
use lib.ListN.{length}
use lib.Seq.{length-take-le}
use Rattle.std.specs.Prelude.{Result, Option}
use Rattle.reassembly.specs.Effects.{State}
use Rattle.reassembly.specs.Call.{stated}
use Rattle.reassembly.specs.Room.{lending}
use Rattle.receiving_fragments.specs.Fragments.{acks_at_whole, told_part}
use Rattle.receiving_fragments.proofs.Parts.{joined, kept}
use Rattle.receiving_fragments.proofs.join.Goals as goal
use Rattle.receiving_fragments.proofs.join.Goals.{Start}
use Rattle.terms.specs.declared.Refusal.{Refusal}
use Rattle.reassembly.specs.declared.effects.Message.{Message}

-- the table of messages, as it was lent
abbrev table : Start → State
table s = lending s.args.num.0 s.args.slots.now s.args.entry.now s.args.header.now s.args.joined.now

slots-of : (s : Start) → s.args.sizes.reassembly_slots ≡ length (stated s.args.sizes.reassembly_slots (table s)).slots
slots-of s = sym (length-take-le s.args.sizes.reassembly_slots s.args.slots.now s.requires.0.table_slots)

pub slice_bounds-judge-end-2 : goal.slice_bounds-judge-end-2
slice_bounds-judge-end-2 c = slots-of (goal.at.slice_bounds-judge-end-2 c).Start

pub judge-judged-requires : goal.judge-judged-requires
judge-judged-requires c = (c.requires.0.table.table, c.requires.0.short)

pub returns-in-Err : goal.returns-in-Err
returns-in-Err c =
    let s = (goal.at.returns-in-Err c).Start in
    kept s.args.sizes s.args.headers s.args.payload.now s.args.acks s.args.num s.args.received.now s.args.number.now s.args.slots.now s.args.entry.now s.args.header.now s.args.joined.now s.args.output.now c.in-Err.why
    (rw (← c.fragment-fragment.ensures) (sym c.judge-judged.ensures ∙ c.in-Err.is))

pub slice_bounds-perform-end-2 : goal.slice_bounds-perform-end-2
slice_bounds-perform-end-2 c = slots-of (goal.at.slice_bounds-perform-end-2 c).Start

pub perform-handled-requires : goal.perform-handled-requires
perform-handled-requires c = (c.requires.0.table, c.requires.0.short, sym c.in-Ok.is ∙ c.judge-judged.ensures)

pub hear_whole-requires : goal.hear_whole-requires
hear_whole-requires c =
    let p = c.requires in
    (p.0.record_slots, p.0.flying, p.1)

pub returns : goal.returns
returns c =
    let s = (goal.at.returns c).Start in
    let d =
    joined s.args.sizes s.args.headers s.args.payload.now (table s) s.args.output.now c.perform-handled.result _ _ _ _ _
    (rw (sym c.in-Ok.is ∙ c.judge-judged.ensures, c.fragment-fragment.ensures) at c.perform-handled.ensures)
    in
    let h = c.hear_whole.ensures in
    record {
      answer_is = c.tell.ensures ∙ ap told_part d.answer;
      acks_are = h.counters_are ∙ ap (λ (a : Result (Option Message) Refusal). (acks_at_whole a s.args.sizes s.args.acks s.args.received.now s.args.number.now).counters) d.answer;
      received_is = h.received_is ∙ ap (λ (a : Result (Option Message) Refusal). (acks_at_whole a s.args.sizes s.args.acks s.args.received.now s.args.number.now).received) d.answer;
      number_is = h.number_is ∙ ap (λ (a : Result (Option Message) Refusal). (acks_at_whole a s.args.sizes s.args.acks s.args.received.now s.args.number.now).number) d.answer;
      reassembly_is = d.number;
      slots_are = d.slots_are;
      entry_is = d.entry_is;
      header_is = d.header_is;
      joined_are = d.bytes_are;
      output_is = d.output_is;
    }
