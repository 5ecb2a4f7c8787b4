use borrow.Author.Rules.{rules}
use mathlib.Core.Path.{sym, ◌∙◌}
use Rattle.ordering_plan.proofs.Gates.{size_high, short_index, short_lengths, short_bytes, short_output, long_enough, gate_sizes, gate_storage, gate_state, gate_open}
use Rattle.ordering_plan.proofs.gate.check.Goals as goal
use Rattle.ordering_plan.proofs.gate.check.Goals.{then-index-lt64-via-then-index-lt64, then-index-lt64-via-else-index-lt64+then-lengths-lt64, then-index-lt64-via-else-index-lt64+else-lengths-lt64+then-bytes-f, then-index-lt64-via-else-index-lt64+else-lengths-lt64+else-bytes-f+then-output-f}

pub returns-then-not-in_range : goal.returns-then-not-in_range
returns-then-not-in_range c = sym (gate_sizes _ _ _ (sym c.in_range.ensures ∙ c.if-not-in_range.true))

-- each way to be too short
pub returns-then-index-lt64 : goal.returns-then-index-lt64
returns-then-index-lt64 c =
    let ranged = sym c.in_range.ensures ∙ c.if-not-in_range.false in
    elim c.then-index-lt64.branch [
      | then-index-lt64-via-then-index-lt64 w ↦ sym (gate_storage _ _ _ ranged (short_index _ _ _ w.if-index-lt64.true))
      | then-index-lt64-via-else-index-lt64+then-lengths-lt64 w ↦ sym (gate_storage _ _ _ ranged (short_lengths _ _ _ w.if-lengths-lt64.true))
      | then-index-lt64-via-else-index-lt64+else-lengths-lt64+then-bytes-f w ↦ sym (gate_storage _ _ _ ranged (short_bytes _ _ _ w.if-bytes-f.true))
      | then-index-lt64-via-else-index-lt64+else-lengths-lt64+else-bytes-f+then-output-f w ↦ sym (gate_storage _ _ _ ranged (short_output _ _ _ w.if-output-f.true))
    ]

pub overflow_mul-f : goal.overflow_mul-f
overflow_mul-f c =
    let h = size_high c.args.sizes (sym c.in_range.ensures ∙ c.if-not-in_range.false) in
    search rules

pub returns-then-not-sound : goal.returns-then-not-sound
returns-then-not-sound c =
    sym (gate_state _ _ _ (sym c.in_range.ensures ∙ c.if-not-in_range.false)
    (long_enough _ _ _ c.if-index-lt64.false c.if-lengths-lt64.false c.if-bytes-f.false c.if-output-f.false)
    (sym c.sound.ensures ∙ c.if-not-sound.true))

pub returns : goal.returns
returns c =
    sym (gate_open _ _ _ (sym c.in_range.ensures ∙ c.if-not-in_range.false)
    (long_enough _ _ _ c.if-index-lt64.false c.if-lengths-lt64.false c.if-bytes-f.false c.if-output-f.false)
    (sym c.sound.ensures ∙ c.if-not-sound.false))
