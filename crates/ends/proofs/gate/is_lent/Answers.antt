-- Each way out has the rungs that led there.
use mathlib.Core.Path.{◌≡◌, sym, ap, ◌∙◌}
use mathlib.Core.Bool.{true, not}
use mathlib.Core.List.{List}
use Prim.Native.Nat.{ℕ}
use Rattle.terms.proofs.Ranges.{InRange, in_range_means}
use Rattle.acks.specs.Gate.{lent}
use Rattle.ends.specs.State.{State, lending, fresh_end}
use Rattle.ends.proofs.Rungs.{lent_acks, lent_parts, lent_ordered}
use Rattle.ends.proofs.gate.is_lent.Goals as goal
use Rattle.ends.proofs.gate.is_lent.Goals.{Else-not-is_lent, Start}

abbrev whole : Start → State
whole c = lending fresh_end c.args.received.now c.args.number.now c.args.records.now c.args.payloads.now c.args.slots.now c.args.entry.now c.args.header.now c.args.joined.now c.args.index.now c.args.lengths.now c.args.held.now

abbrev out : Start → List ℕ
out c = c.args.output.now

ranges : (c : Start) → InRange c.args.sizes
ranges c = in_range_means c.args.sizes c.requires

acks : (c : Else-not-is_lent) → lent c.args.sizes c.args.received.now c.args.number.now c.args.records.now c.args.payloads.now ≡ true
acks c = sym c.is_lent.ensures ∙ c.if-not-is_lent.false

pub returns-then-not-is_lent : goal.returns-then-not-is_lent
returns-then-not-is_lent c =
    let s = (goal.at.returns-then-not-is_lent c).Start in
    sym (lent_acks s.args.sizes (whole s) (out s) (sym c.is_lent.ensures ∙ c.if-not-is_lent.true))

pub too_short-requires : goal.too_short-requires
too_short-requires c = let r = ranges (goal.at.too_short-requires c).Start in (r.f.1, r.c.1)

pub returns-then-too_short : goal.returns-then-too_short
returns-then-too_short c =
    let s = (goal.at.returns-then-too_short c).Start in
    sym (lent_parts s.args.sizes (whole s) (out s) (acks (goal.at.returns-then-too_short c).Else-not-is_lent) (sym c.too_short.ensures ∙ c.if-too_short.true))

pub too_short-requires-2 : goal.too_short-requires-2
too_short-requires-2 c = (ranges (goal.at.too_short-requires-2 c).Start).f.1

pub returns : goal.returns
returns c =
    let s = (goal.at.returns c).Start in
    ap not c.too_short-2.ensures ∙ sym (lent_ordered s.args.sizes (whole s) (out s) (acks (goal.at.returns c).Else-not-is_lent) (sym c.too_short.ensures ∙ c.if-too_short.false))
