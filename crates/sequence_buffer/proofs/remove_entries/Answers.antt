-- One more slot is mapped.
use Rattle.std.proofs.Common.{◌<◌, length, get_or, arith}
use Rattle.std.proofs.lemmas.List.Edits.{map_over_more}
use Rattle.std.proofs.lemmas.List.{get_or_default}
use Rattle.sequence_buffer.specs.Buffer.{goes, emptied}
use Rattle.sequence_buffer.proofs.remove_entries.Goals as goal

pub loop-entry-preserved : goal.loop-entry-preserved
loop-entry-preserved c =
    let a = c.args in
    let l = c.loop-entry in
    let v = get_or l.slots l.entry-index 0 in
    let h : l.entry-index < length a.slots.now = omega arith in
    rw c.without_passed.ensures
    (map_over_more (emptied (goes a.whole a.from a.to)) a.slots.now l.slots l.entry-index v h l.invariant
    (get_or_default l.slots l.entry-index 0 v (omega arith)))
