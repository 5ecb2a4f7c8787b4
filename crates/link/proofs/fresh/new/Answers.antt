-- 1 and 2 rung by rung; then each table is fresh by the crate that makes an end.
use mathlib.Core.Path.{◌≡◌, refl, sym, ◌∙◌}
use mathlib.Core.Bool.{true}
use Rattle.terms.specs.Sizes.{in_range}
use Rattle.link.proofs.Ways.{new_sizes, new_storage, new_ready}
use Rattle.link.proofs.fresh.new.Goals as goal
use Rattle.link.proofs.fresh.new.Goals.{Else-not-in_range}

ranged : (c : Else-not-in_range) → in_range c.args.sizes ≡ true
ranged c = sym c.in_range.ensures ∙ c.if-not-in_range.false

pub returns-then-not-in_range : goal.returns-then-not-in_range
returns-then-not-in_range c =
    let s = c in
    let w = new_sizes s.args.sizes s.args.received.now s.args.number.now s.args.records.now s.args.payloads.now s.args.slots.now s.args.entry.now s.args.header.now s.args.joined.now s.args.index.now s.args.lengths.now s.args.held.now s.args.output.now (sym c.in_range.ensures ∙ c.if-not-in_range.true) in
    rw (w, c.refused.ensures) record { end_value = refl; answer_value = refl; received_after = refl; number_after = refl; slots_after = refl }

pub is_lent-requires : goal.is_lent-requires
is_lent-requires c = ranged (goal.at.is_lent-requires c).Else-not-in_range

pub returns-then-not-is_lent : goal.returns-then-not-is_lent
returns-then-not-is_lent c =
    let s = c in
    let w = new_storage s.args.sizes s.args.received.now s.args.number.now s.args.records.now s.args.payloads.now s.args.slots.now s.args.entry.now s.args.header.now s.args.joined.now s.args.index.now s.args.lengths.now s.args.held.now s.args.output.now (ranged (goal.at.returns-then-not-is_lent c).Else-not-in_range) (sym c.is_lent.ensures ∙ c.if-not-is_lent.true) in
    rw (w, c.refused-then-not-is_lent.ensures) record { end_value = refl; answer_value = refl; received_after = refl; number_after = refl; slots_after = refl }

pub returns : goal.returns
returns c =
    let s = c in
    let w = new_ready s.args.sizes s.args.received.now s.args.number.now s.args.records.now s.args.payloads.now s.args.slots.now s.args.entry.now s.args.header.now s.args.joined.now s.args.index.now s.args.lengths.now s.args.held.now s.args.output.now (ranged (goal.at.returns c).Else-not-in_range) (sym c.is_lent.ensures ∙ c.if-not-is_lent.false) in
    let t = c.new.ensures in
    record { end_value = t.value; answer_value = sym w; received_after = rw w t.received_after; number_after = rw w t.number_after; slots_after = rw w t.slots_after }
