-- Demand 3, "Two ends agree": what may happen, and what then holds.
use Rattle.std.specs.Prelude.{ℕ, ◌+◌, ◌*◌, ◌%◌, ◌≤◌, ◌<◌, ◌≡◌, ◌⊎◌, ◌↔◌, Bool, List, [], ◌∷◌, T, length, get_or, take, replicate, Option, Some, None}
use Rattle.serial.specs.Order.{back}
use Rattle.terms.specs.declared.Sizes.{Sizes}
use Rattle.acknowledgment_laws.specs.Runs.{Typed}
use Rattle.packet_table.specs.Numbers.{Bytes}
use Rattle.ordering_plan.specs.State.{State as Stream}
use Rattle.ordering_laws.specs.Full.{others as other_indices}
use Rattle.arranging_plan.specs.Ids.{place_of}
use Rattle.arranging_plan.specs.Ordered.{state_at}
use Rattle.arranging_plan.specs.declared.ids.StreamIds.{StreamIds}
use Rattle.ends.specs.State.{State}
use Rattle.receiving_plan.specs.Plan.{number_of_answer}
use Rattle.link_incoming.specs.Calls.{receive_of}
use Rattle.link_laws.specs.Calls.{Call, receives, takes as takes_on, sends as sends_on, resends as resends_on, writes as writes_on, drops as drops_on, asks}
use Rattle.link_laws.specs.Never.{New}
use Rattle.agreement.specs.World.{Pair, Alike, World, start, no_copy}
use Rattle.agreement.specs.Events.{Event, sends, resends, drops, writes, hears, collects, arrives, takes, others, step, run}

-- ---- what may happen

-- "every lent buffer has 01's length": the output of 16 x F + 17 bytes; a longer one does too
abbrev pub Lent : Sizes → List ℕ → Type 0
Lent z output = 16 * z.fragment_size + 17 ≤ length output

-- "Let each copy of item p arrive while the count e already handed out satisfies e - 32,767 <= p <= e + 32,768."
abbrev pub Window : ℕ → Option ℕ → Type 0
Window e None = Unit {0}
Window e (Some p) = (e ≤ p + 32767) × (p ≤ e + 32768)

-- "After each arrival the receiver takes items until none comes": a copy of an item comes after a take that found none
abbrev pub Waited : Bool → Option ℕ → Type 0
Waited quiet None = Unit {0}
Waited quiet (Some p) = T quiet

-- other calls at the receiver: no datagram but those of the line, and no take on the stream
abbrev pub Beside : Sizes → ℕ → Call → Type 0
Beside z id (receives datagram output) = ⊥
Beside z id (takes_on stream output) = Lent z output × (stream ≡ id → ⊥)
Beside z id (sends_on delivery ordering stream payload output) = Lent z output × (stream < 256)
Beside z id (resends_on sent payload output) = Lent z output × Typed sent
Beside z id (writes_on n j output) = Lent z output
Beside z id (drops_on output) = Lent z output
Beside z id (asks output) = Lent z output

-- an id is a byte, a packet number a word, payloads and datagrams are bytes, as their types say
abbrev pub May : Pair → World → Event → Type 0
May l w (sends delivery ordering stream payload output) = Lent l.sending output × (stream < 256) × Bytes payload
May l w (resends j output) = Lent l.sending output × (j < length w.back)
May l w (drops output) = Lent l.sending output
May l w (writes n j output) = Lent l.sending output × (n < 65536)
May l w (hears datagram output) = Lent l.sending output × Bytes datagram
May l w (collects stream output) = Lent l.sending output
May l w (arrives j output) =
    Lent l.receiving output
    × (j < length w.line)
    × Waited w.quiet (get_or w.line j no_copy).item × Window (length w.handed) (get_or w.line j no_copy).item
May l w (takes output) = Lent l.receiving output
May l w (others call) = Beside l.receiving l.stream call

abbrev pub Mays : Pair → World → List Event → Type 0
Mays l w [] = Unit {0}
Mays l w (v ∷ vs) = May l w v × Mays l (step l w v) vs

-- ---- what then holds

abbrev pub Has : ℕ → List ℕ → Type 0
Has p [] = ⊥
Has p (q ∷ l) = (p ≡ q) ⊎ Has p l

-- "k being the least position of which no copy was accepted"
pub record Least (k : ℕ) (accepted : List ℕ) : Type 0 where
  pub before : (j : ℕ) → j < k → Has j accepted
  pub here : Has k accepted → ⊥

-- the receiver's stream
abbrev pub stream_of : Pair → World → Stream
stream_of l w = state_at l.receiving.fragment_size w.receiver.ordered (place_of w.receiver.ordered.counters.known l.stream)

-- 7: "an item .. received names a fifth stream of its kind"
pub record Fifth (n : StreamIds) (id : ℕ) : Type 0 where
  pub four : n.made ≡ 4
  pub another : (k : ℕ) → k < 4 → get_or n.ids k 0 ≡ id → ⊥

-- 6: "an ordered item with d 1..32,768 finds 64 other indices held"
pub record Full (s : Stream) (index : ℕ) : Type 0 where
  pub ahead : 1 ≤ back index s.stream.expected_index.0
  pub near : back index s.stream.expected_index.0 ≤ 32768
  pub others_held : other_indices index (take s.stream.held s.index) ≡ 64

-- "A copy goes unaccepted only by a refusal that 01 .. prescribes; .. that is 6, 7": n is 01's number of what a copy of item p is
-- answered, 0 where it is accepted
pub record Refusals (l : Pair) (w : World) (p n : ℕ) : Type 0 where
  pub only : (n ≡ 0) ⊎ ((n ≡ 6) ⊎ (n ≡ 7))
  pub six : (n ≡ 6) ↔ Full (stream_of l w) (p % 65536)
  pub seven : (n ≡ 7) ↔ Fifth w.receiver.ordered.counters.known l.stream

-- takes until none end: of at most 65 the last finds none
pub record Ends (l : Pair) (w : World) (output : List ℕ) : Type 0 where
  pub count : ℕ
  pub few : count ≤ 65
  pub found_none : T (run l w (replicate count (takes output))).quiet

pub record Agreed (l : Pair) (w : World) : Type 0 where
  pub k : ℕ
  pub least : Least k w.accepted
  pub enough : k ≤ length w.sent
  -- "(before that, a beginning of these)"
  pub short : length w.handed ≤ k
  pub beginning : w.handed ≡ take (length w.handed) w.sent
  -- "whenever a take has found none .., the items handed out are always the first k sent, each once, in order"
  pub whole : T w.quiet → w.handed ≡ take k w.sent
  -- whenever a copy comes
  pub refusals : (j p : ℕ) (output : List ℕ) → Lent l.receiving output → j < length w.line → (get_or w.line j no_copy).item ≡ Some p
      → Refusals l w p (number_of_answer (receive_of l.receiving w.receiver (get_or w.line j no_copy).datagram output).answer)
  pub ends : (output : List ℕ) → Lent l.receiving output → Ends l w output

-- the theorem: after any events that may happen
abbrev pub TwoEndsAgree : Type 0
TwoEndsAgree =
    (l : Pair) (s r : State) (first second : List ℕ) → Alike l → New l.sending s first → New l.receiving r second
    → (events : List Event) → Mays l (start s r) events → Agreed l (run l (start s r) events)
