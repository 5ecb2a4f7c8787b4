-- How the ends of `link` are seen. Assumes nothing.
use mathlib.Core.Path.{◌≡◌}
use mathlib.Core.Bool.{true}
use Rattle.terms.specs.Sizes.{in_range}
use Rattle.terms.specs.declared.Sizes.{Sizes}
use Rattle.flight.specs.View.{view}
use Rattle.acks.specs.State.{slot_of}
use Rattle.acknowledgment_laws.proofs.Unbroken.{flight_of}
use Rattle.ordering_laws.specs.Held.{held_at}
use Rattle.ends.specs.State.{State}
use Rattle.link_laws.proofs.Kept.{Kept}
use Rattle.agreement.specs.World.{Pair}
use Rattle.agreement.proofs.Promises.{Views}
use Rattle.agreement.proofs.Streams.{seen}
use Rattle.agreement.proofs.Wire.{Saying, Beyond}

-- what a fresh end comes to
pub record Fine (z : Sizes) (s : State) : Type 0 where
  pub range : in_range z ≡ true
  pub kept : Kept z s

abbrev pub views : Pair → Views
views l =
    record {
      ok_sender = λ s. Fine l.sending s;
      ok_receiver = λ r. Fine l.receiving r;
      upcoming = λ s. (seen l.sending.fragment_size s.ordered l.stream).stream.next_item.0;
      flight = λ s n. view (slot_of l.sending) (flight_of l.sending s.acks) n;
      Says = λ d i b. Saying l.receiving.version l.stream d i b;
      Aside = λ d. Beyond l.receiving.version l.stream d;
      expected = λ r. (seen l.receiving.fragment_size r.ordered l.stream).stream.expected_index.0;
      holds = λ r y. held_at l.receiving.fragment_size (seen l.receiving.fragment_size r.ordered l.stream) y;
      many = λ r. (seen l.receiving.fragment_size r.ordered l.stream).stream.held;
    }
