-- Each callee says its part.
use Rattle.sequence_buffer.specs.Buffer.{inserted}
use Rattle.acks.proofs.steps.incoming.Goals as goal

pub returns : goal.returns
unfolding inserted
returns c =
    let s = c.args.state in
    let moved = c.newer.ensures in
    let recorded = c.receive-inserted.ensures.value in
    record {
      value = λ i. record { sequence_number = s.sequence_number; remote_ack_sequence_num = moved i; received = (recorded i).sequence_num };
      received_after = c.receive-inserted.ensures.received_after;
      number_after = c.remove.ensures;
    }
