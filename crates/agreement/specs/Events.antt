-- What happens between the two ends, and what each event makes of the world. Every call is answered by `link`'s own functions; the
-- last argument of an event is the output that its call is lent.
use Rattle.std.specs.Prelude.{ℕ, Bool, true, false, cond, List, [], ◌∷◌, ◌++◌, eqb, length, get_or, take, Result, Ok, Err, Some, Option, None}
use Rattle.packet_table.specs.declared.DeliveryGuarantee.{DeliveryGuarantee}
use Rattle.packet_table.specs.declared.DeliveryGuarantee.TheVariants.{Unreliable, Reliable}
use Rattle.packet_table.specs.declared.OrderingGuarantee.{OrderingGuarantee}
use Rattle.packet_table.specs.declared.OrderingGuarantee.TheVariants.{None as NoOrder, Sequenced, Ordered}
use Rattle.ends.specs.State.{State}
use Rattle.receiving.specs.Receive.{Step as Received}
use Rattle.receiving_plan.specs.declared.Answer.{Answer as Heard}
use Rattle.receiving_plan.specs.declared.Answer.TheVariants.{Out, Held, Old, Dropped, Waiting, Heartbeat}
use Rattle.sending.specs.Send.{Step as Sent}
use Rattle.link_incoming.specs.Calls.{receive_of, take_of}
use Rattle.link_outgoing.specs.Calls.{send_of, resend_of, fragment_of, fragment_output}
use Rattle.link.specs.Calls.{drop_of, drop_output}
use Rattle.link_laws.specs.Calls.{Call, dropped, called}
use Rattle.agreement.specs.World.{Pair, Copy, Mark, Back, World, latest, no_back, no_copy}
use Rattle.terms.specs.declared.Refusal.{Refusal}
use Rattle.sending.specs.declared.Written.{Written}
use Rattle.flight.specs.declared.lost.Dropped.{Dropped as Given}

pub data Event : Type 0 where
  -- at the sender: an item is sent, of any kind and on any stream: its delivery, ordering, stream and payload
  sends : DeliveryGuarantee → OrderingGuarantee → ℕ → List ℕ → List ℕ → Event
  -- "The sender resends only a record and payload as its own `dropped_packets` gave them back": which of these
  resends : ℕ → List ℕ → Event
  -- a packet is given up
  drops : List ℕ → Event
  -- fragment j of a packet in flight is written: its number, and j
  writes : ℕ → ℕ → List ℕ → Event
  -- any datagram comes to the sender
  hears : List ℕ → List ℕ → Event
  -- the sender takes an item of a stream that it receives
  collects : ℕ → List ℕ → Event
  -- on the line: a copy of one of the datagrams written arrives at the receiver; what never arrives is lost
  arrives : ℕ → List ℕ → Event
  -- at the receiver: a take on the stream
  takes : List ℕ → Event
  -- any other call there
  others : Call → Event

-- an item of the stream is one that is sent ordered on it
abbrev pub on_stream : ℕ → OrderingGuarantee → ℕ → Bool
on_stream id NoOrder stream = false
on_stream id Sequenced stream = false
on_stream id Ordered stream = eqb stream id

-- ---- at the sender

-- the datagram that was written is on the line
abbrev pub written : Result Written Refusal → List ℕ → Option ℕ → List Copy → List Copy
written (Ok d) output item line = record { item = item; datagram = take d.length output } ∷ line
written (Err why) output item line = line

-- a reliable packet takes its number
abbrev pub marked : Result Written Refusal → DeliveryGuarantee → Option ℕ → List Mark → List Mark
marked (Ok d) Unreliable item marks = marks
marked (Ok d) Reliable item marks = record { number = d.number.0; item = item } ∷ marks
marked (Err why) delivery item marks = marks

-- an accepted item of the stream has the next position
abbrev pub counted : Result Written Refusal → Bool → List ℕ → List (List ℕ) → List (List ℕ)
counted (Ok d) false payload sent = sent
counted (Ok d) true payload sent = sent ++ (payload ∷ [])
counted (Err why) mine payload sent = sent

abbrev pub fragmented : Result (Option ℕ) Refusal → List ℕ → List Copy → List Copy
fragmented (Ok (Some n)) output line = record { item = None; datagram = take n output } ∷ line
fragmented (Ok None) output line = line
fragmented (Err why) output line = line

abbrev pub given_back : Result (Option Given) Refusal → List ℕ → List Mark → List Back → List Back
given_back (Ok None) output marks back = back
given_back (Ok (Some d)) output marks back =
    record { item = latest d.number.0 marks; sent = d.sent; payload = take d.count output } ∷ back
given_back (Err why) output marks back = back

abbrev pub at_sender : World → State → List (List ℕ) → List Mark → List Back → List Copy → World
at_sender w s sent marks back line =
    record {
      sender = s;
      receiver = w.receiver;
      sent = sent;
      marks = marks;
      back = back;
      line = line;
      handed = w.handed;
      accepted = w.accepted;
      quiet = w.quiet;
    }

-- an item is sent: `mine`, on the stream; `item`, its position
abbrev pub sending : World → Sent → DeliveryGuarantee → Bool → Option ℕ → List ℕ → World
sending w x delivery mine item payload =
    at_sender w x.end (counted x.answer mine payload w.sent) (marked x.answer delivery item w.marks) w.back
    (written x.answer x.output item w.line)

-- ---- at the receiver

abbrev pub at_receiver : World → State → List (List ℕ) → List ℕ → Bool → World
at_receiver w r handed accepted quiet =
    record {
      sender = w.sender;
      receiver = r;
      sent = w.sent;
      marks = w.marks;
      back = w.back;
      line = w.line;
      handed = handed;
      accepted = accepted;
      quiet = quiet;
    }

-- what an arrival hands out
abbrev pub handed_by : Result Heard Refusal → List ℕ → List (List ℕ) → List (List ℕ)
handed_by (Ok (Out item)) output handed = handed ++ (take item.length output ∷ [])
handed_by (Ok Held) output handed = handed
handed_by (Ok Old) output handed = handed
handed_by (Ok Dropped) output handed = handed
handed_by (Ok Waiting) output handed = handed
handed_by (Ok Heartbeat) output handed = handed
handed_by (Err why) output handed = handed

-- a copy is accepted exactly where it is not refused
abbrev pub accepted_by : Result Heard Refusal → ℕ → List ℕ → List ℕ
accepted_by (Ok (Out item)) p accepted = p ∷ accepted
accepted_by (Ok Held) p accepted = p ∷ accepted
accepted_by (Ok Old) p accepted = p ∷ accepted
accepted_by (Ok Dropped) p accepted = p ∷ accepted
accepted_by (Ok Waiting) p accepted = p ∷ accepted
accepted_by (Ok Heartbeat) p accepted = p ∷ accepted
accepted_by (Err why) p accepted = accepted

-- a copy of the item at a position arrives, or of something else, which is not of the stream
abbrev pub arriving : World → Option ℕ → Received → World
arriving w (Some p) x = at_receiver w x.end (handed_by x.answer x.output w.handed) (accepted_by x.answer p w.accepted) false
arriving w None x = at_receiver w x.end w.handed w.accepted w.quiet

-- a take hands an item out, or finds none
abbrev pub taking : World → Result (Option ℕ) Refusal → State → List ℕ → World
taking w (Ok (Some n)) r output = at_receiver w r (w.handed ++ (take n output ∷ [])) w.accepted false
taking w (Ok None) r output = at_receiver w r w.handed w.accepted true
taking w (Err why) r output = at_receiver w r w.handed w.accepted w.quiet

-- ---- every event

abbrev pub step : Pair → World → Event → World
step l w (sends delivery ordering stream payload output) =
    sending w (send_of l.sending w.sender delivery ordering stream payload output) delivery (on_stream l.stream ordering stream)
    (cond (on_stream l.stream ordering stream) (Some (length w.sent)) None) payload
step l w (resends j output) =
    sending w (resend_of l.sending w.sender (get_or w.back j no_back).sent (get_or w.back j no_back).payload output) Reliable false
    (get_or w.back j no_back).item []
step l w (drops output) =
    at_sender w (dropped l.sending w.sender output) w.sent w.marks
    (given_back (drop_of l.sending w.sender output) (drop_output l.sending w.sender output) w.marks w.back) w.line
step l w (writes n j output) =
    at_sender w w.sender w.sent w.marks w.back
    (fragmented (fragment_of l.sending w.sender n j output) (fragment_output l.sending w.sender n j output) w.line)
step l w (hears datagram output) =
    at_sender w (receive_of l.sending w.sender datagram output).end w.sent w.marks w.back w.line
step l w (collects stream output) =
    at_sender w (take_of l.sending w.sender stream output).end w.sent w.marks w.back w.line
step l w (arrives j output) =
    arriving w (get_or w.line j no_copy).item (receive_of l.receiving w.receiver (get_or w.line j no_copy).datagram output)
step l w (takes output) =
    taking w (take_of l.receiving w.receiver l.stream output).answer (take_of l.receiving w.receiver l.stream output).end
    (take_of l.receiving w.receiver l.stream output).output
step l w (others call) = at_receiver w (called l.receiving w.receiver call) w.handed w.accepted w.quiet

-- one after the other: "the state and the storage that holds items go from call to call unaltered"
abbrev pub run : Pair → World → List Event → World
run l w [] = w
run l w (v ∷ vs) = run l (step l w v) vs
