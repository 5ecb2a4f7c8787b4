-- Each turn writes what is left of the word that it read.
use Rattle.std.proofs.Common.{◌<◌, length, arith}
use Rattle.std.proofs.lemmas.List.{get_or_default}
use Rattle.std.proofs.lemmas.List.Edits.{map_over_more}
use Rattle.sequence_buffer.specs.Buffer.{emptied}
use Rattle.flight.specs.Acked.{is_told}
use Rattle.flight.proofs.acked.remove.Goals as goal

pub loop-word-preserved : goal.loop-word-preserved
loop-word-preserved c =
    let l = c.loop-word in
    let within : l.word-index < length l.number = omega arith in
    rw c.without_acked.ensures
    (map_over_more (emptied (is_told c.args.acked.0 c.args.field)) c.args.number.now l.number l.word-index _ (omega arith) l.invariant (get_or_default l.number l.word-index 0 _ within))
