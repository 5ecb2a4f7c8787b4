-- What the theorem needs of the two ends, whatever they are made of: how a stream and the packets in flight are seen, and what each
-- call promises of them. A change of the ends moves these promises, not the theorem. Assumes nothing.
use Prim.Native.Nat.{ℕ, suc, ◌≤◌, ◌<◌, ◌%◌}
use mathlib.Core.Path.{◌≡◌}
use mathlib.Core.Bool.{true, false, cond}
use mathlib.Core.List.{List}
use lib.Dec.{eqb}
use lib.ListN.{length, take}
use Rattle.std.specs.Prelude.{Ok, Err, Option, Some, None}
use Rattle.serial.specs.Order.{back, next}
use Rattle.terms.specs.declared.Refusal.{Refusal}
use Rattle.flight.specs.View.{Sent as Entry}
use Rattle.flight.specs.declared.SentPacket.{SentPacket}
use Rattle.flight.specs.declared.lost.Dropped.{Dropped as Drop}
use Rattle.acknowledgment_laws.specs.Runs.{Typed}
use Rattle.packet_table.specs.Numbers.{Bytes}
use Rattle.packet_table.specs.declared.DeliveryGuarantee.{DeliveryGuarantee}
use Rattle.packet_table.specs.declared.DeliveryGuarantee.TheVariants.{Unreliable, Reliable}
use Rattle.packet_table.specs.declared.OrderingGuarantee.{OrderingGuarantee}
use Rattle.ends.specs.State.{State}
use Rattle.receiving_plan.specs.Plan.{number_of_answer}
use Rattle.receiving.specs.Receive.{Step as Received}
use Rattle.receiving_plan.specs.declared.Item.{Item as Arrived}
use Rattle.receiving_plan.specs.declared.Answer.TheVariants.{Out, Held, Old}
use Rattle.sending.specs.declared.Written.{Written}
use Rattle.link_incoming.specs.Calls.{receive_of, take_of, Taking}
use Rattle.link_outgoing.specs.Calls.{send_of, resend_of, fragment_of, fragment_output}
use Rattle.link.specs.Calls.{drop_of, drop_output}
use Rattle.link_laws.specs.Calls.{Call, dropped, called}
use Rattle.link_laws.specs.Never.{New}
use Rattle.agreement.specs.World.{Pair, World}
use Rattle.agreement.specs.Events.{on_stream}
use Rattle.agreement.specs.Agreement.{Lent, Beside, Refusals}
use Rattle.agreement.proofs.Core.{Holding}

-- how the ends are seen
pub record Views : Type 1 where
  -- the states that a fresh end comes to, at the sender and at the receiver
  pub ok_sender : State → Type 0
  pub ok_receiver : State → Type 0
  -- the sender: the stream's next identifier, and under each number the packet in flight
  pub upcoming : State → ℕ
  pub flight : State → ℕ → Option Entry
  -- a datagram is an item of the stream, with its index and payload; or it is none of the stream
  pub Says : List ℕ → ℕ → List ℕ → Type 0
  pub Aside : List ℕ → Type 0
  -- the receiver: the index that is expected, what is held, and how much
  pub expected : State → ℕ
  pub holds : State → Holding
  pub many : State → ℕ

-- the record of an item of the stream, and of anything else
pub record Mine (id i : ℕ) (sent : SentPacket) : Type 0 where
  pub ordering_is : sent.ordering ≡ 2
  pub stream_is : sent.stream ≡ id
  pub item_is : sent.item.0 ≡ i

abbrev pub Other : ℕ → SentPacket → Type 0
Other id sent = sent.ordering ≡ 2 → sent.stream ≡ id → ⊥

module _ (l : Pair) (v : Views) where
  abbrev F : ℕ
  F = l.sending.fragment_size

  -- under number n goes what is sent, and every other number is as it was
  abbrev pub Stored : State → State → ℕ → Entry → Type 0
  Stored s s' n e = (m : ℕ) → m < 65536 → v.flight s' m ≡ cond (eqb m n) (Some e) (v.flight s m)

  -- an item of the stream went out, in that datagram, under packet number n
  pub record Went (s s' : State) (n : ℕ) (datagram : List ℕ) (up i : ℕ) (b : List ℕ) : Type 0 where
    pub ok : v.ok_sender s'
    pub says : v.Says datagram i b
    pub bytes : Bytes datagram
    pub fits : length b ≤ F
    pub count : v.upcoming s' ≡ up
    pub sent : SentPacket
    pub mine : Mine l.stream i sent
    pub typed : Typed sent
    pub stored : Stored s s' n (record { packet = sent; payload = b })

  -- something else did, reliable or not
  pub record Passed (s s' : State) (n : ℕ) (datagram : List ℕ) (b : List ℕ) : Type 0 where
    pub ok : v.ok_sender s'
    pub aside : v.Aside datagram
    pub bytes : Bytes datagram
    pub count : v.upcoming s' ≡ v.upcoming s
    pub sent : SentPacket
    pub other : Other l.stream sent
    pub typed : Typed sent
    pub stored : Stored s s' n (record { packet = sent; payload = b })

  pub record Loose (s s' : State) (datagram : List ℕ) : Type 0 where
    pub ok : v.ok_sender s'
    pub aside : v.Aside datagram
    pub bytes : Bytes datagram
    pub count : v.upcoming s' ≡ v.upcoming s
    pub flying : (m : ℕ) → m < 65536 → v.flight s' m ≡ v.flight s m

  -- a call that sends nothing: what is in flight after it was so before
  pub record Quiet (s s' : State) : Type 0 where
    pub ok : v.ok_sender s'
    pub count : v.upcoming s' ≡ v.upcoming s
    pub keeps : (m : ℕ) (e : Entry) → m < 65536 → v.flight s' m ≡ Some e → v.flight s m ≡ Some e

  -- the receiver's stream is as it was
  pub record Same (r r' : State) : Type 0 where
    pub expects : v.expected r' ≡ v.expected r
    pub keeps : (y : ℕ) → y < 65536 → v.holds r' y ≡ v.holds r y

  -- what becomes of an item that has come
  pub data Landed (r : State) (i : ℕ) (b : List ℕ) (x : Received) : Type 0 where
    goes-out : (a : Arrived) → x.answer ≡ Ok (Out a) → take a.length x.output ≡ b → back i (v.expected r) ≡ 0
        → v.expected x.end ≡ next (v.expected r) → ((y : ℕ) → y < 65536 → v.holds x.end y ≡ v.holds r y) → Landed r i b x
    is_held : x.answer ≡ Ok Held → 1 ≤ back i (v.expected r) → back i (v.expected r) ≤ 32768 → v.expected x.end ≡ v.expected r
        → v.holds x.end i ≡ Some b → ((y : ℕ) → y < 65536 → (y ≡ i → ⊥) → v.holds x.end y ≡ v.holds r y) → Landed r i b x
    is-old : x.answer ≡ Ok Old → 32769 ≤ back i (v.expected r) → Same r x.end → Landed r i b x
    is-refused : (why : Refusal) → x.answer ≡ Err why → Same r x.end → Landed r i b x

  -- what a take does
  pub data Took (r : State) (x : Taking) : Type 0 where
    took-item : (n : ℕ) → x.answer ≡ Ok (Some n) → v.holds r (v.expected r) ≡ Some (take n x.output) → v.expected x.end ≡ next (v.expected r)
        → v.holds x.end (v.expected r) ≡ None → ((y : ℕ) → y < 65536 → (y ≡ v.expected r → ⊥) → v.holds x.end y ≡ v.holds r y)
        → suc (v.many x.end) ≡ v.many r → Took r x
    took-none : x.answer ≡ Ok None → v.holds r (v.expected r) ≡ None → Same r x.end → Took r x

  pub record Promises : Type 0 where
    -- fresh ends
    pub first-sender : (s : State) (o : List ℕ) → New l.sending s o
        → v.ok_sender s × (v.upcoming s ≡ 0) × ((m : ℕ) → m < 65536 → v.flight s m ≡ None)
    pub first-receiver : (r : State) (o : List ℕ) → New l.receiving r o
        → v.ok_receiver r × (v.expected r ≡ 0) × ((y : ℕ) → v.holds r y ≡ None)
    -- the sender
    pub send-mine : (s : State) (delivery : DeliveryGuarantee) (ordering : OrderingGuarantee) (stream : ℕ) (payload output : List ℕ) (d : Written)
        → v.ok_sender s → Lent l.sending output → stream < 256 → Bytes payload → on_stream l.stream ordering stream ≡ true
        → (send_of l.sending s delivery ordering stream payload output).answer ≡ Ok d
        → (delivery ≡ Reliable)
        × Went s (send_of l.sending s delivery ordering stream payload output).end d.number.0
        (take d.length (send_of l.sending s delivery ordering stream payload output).output) (next (v.upcoming s)) (v.upcoming s) payload
    pub send-other : (s : State) (ordering : OrderingGuarantee) (stream : ℕ) (payload output : List ℕ) (d : Written)
        → v.ok_sender s → Lent l.sending output → stream < 256 → Bytes payload → on_stream l.stream ordering stream ≡ false
        → (send_of l.sending s Reliable ordering stream payload output).answer ≡ Ok d
        → Passed s (send_of l.sending s Reliable ordering stream payload output).end d.number.0
        (take d.length (send_of l.sending s Reliable ordering stream payload output).output) payload
    pub send-loose : (s : State) (ordering : OrderingGuarantee) (stream : ℕ) (payload output : List ℕ) (d : Written)
        → v.ok_sender s → Lent l.sending output → stream < 256 → Bytes payload → on_stream l.stream ordering stream ≡ false
        → (send_of l.sending s Unreliable ordering stream payload output).answer ≡ Ok d
        → Loose s (send_of l.sending s Unreliable ordering stream payload output).end
        (take d.length (send_of l.sending s Unreliable ordering stream payload output).output)
    pub send-refused : (s : State) (delivery : DeliveryGuarantee) (ordering : OrderingGuarantee) (stream : ℕ) (payload output : List ℕ) (why : Refusal)
        → (send_of l.sending s delivery ordering stream payload output).answer ≡ Err why
        → (send_of l.sending s delivery ordering stream payload output).end ≡ s
    pub resend-mine : (s : State) (sent : SentPacket) (i : ℕ) (payload output : List ℕ) (d : Written)
        → v.ok_sender s → Lent l.sending output → Typed sent → Bytes payload → Mine l.stream i sent
        → (resend_of l.sending s sent payload output).answer ≡ Ok d
        → Went s (resend_of l.sending s sent payload output).end d.number.0
        (take d.length (resend_of l.sending s sent payload output).output) (v.upcoming s) i payload
    pub resend-other : (s : State) (sent : SentPacket) (payload output : List ℕ) (d : Written)
        → v.ok_sender s → Lent l.sending output → Typed sent → Bytes payload → Other l.stream sent
        → (resend_of l.sending s sent payload output).answer ≡ Ok d
        → Passed s (resend_of l.sending s sent payload output).end d.number.0
        (take d.length (resend_of l.sending s sent payload output).output) payload
    pub resend-refused : (s : State) (sent : SentPacket) (payload output : List ℕ) (why : Refusal)
        → (resend_of l.sending s sent payload output).answer ≡ Err why → (resend_of l.sending s sent payload output).end ≡ s
    pub dropped-was : (s : State) (output : List ℕ) (d : Drop) → v.ok_sender s → Lent l.sending output
        → drop_of l.sending s output ≡ Ok (Some d)
        → (d.number.0 < 65536)
        × (v.flight s d.number.0 ≡ Some (record { packet = d.sent; payload = take d.count (drop_output l.sending s output) }))
    pub drops : (s : State) (output : List ℕ) → v.ok_sender s → Quiet s (dropped l.sending s output)
    pub wrote : (s : State) (n j count : ℕ) (output : List ℕ) → v.ok_sender s → Lent l.sending output
        → ((e : Entry) → v.flight s n ≡ Some e → Bytes e.payload) → fragment_of l.sending s n j output ≡ Ok (Some count)
        → v.Aside (take count (fragment_output l.sending s n j output)) × Bytes (take count (fragment_output l.sending s n j output))
    pub hears : (s : State) (datagram output : List ℕ) → v.ok_sender s → Bytes datagram → Quiet s (receive_of l.sending s datagram output).end
    pub collects : (s : State) (stream : ℕ) (output : List ℕ) → v.ok_sender s → Quiet s (take_of l.sending s stream output).end
    -- the receiver
    pub received-ok : (r : State) (d output : List ℕ) → v.ok_receiver r → Bytes d → v.ok_receiver (receive_of l.receiving r d output).end
    pub lands : (r : State) (d output : List ℕ) (i : ℕ) (b : List ℕ) → v.ok_receiver r → Lent l.receiving output → v.Says d i b → i < 65536 → length b ≤ F
        → Landed r i b (receive_of l.receiving r d output)
    pub refuses : (w : World) (d output : List ℕ) (p : ℕ) (b : List ℕ) → v.ok_receiver w.receiver → Lent l.receiving output → v.Says d (p % 65536) b
        → length b ≤ F → Refusals l w p (number_of_answer (receive_of l.receiving w.receiver d output).answer)
    pub passes : (r : State) (d output : List ℕ) → v.ok_receiver r → v.Aside d → Same r (receive_of l.receiving r d output).end
    pub take-ok : (r : State) (output : List ℕ) → v.ok_receiver r → v.ok_receiver (take_of l.receiving r l.stream output).end
    pub takes : (r : State) (output : List ℕ) → v.ok_receiver r → Lent l.receiving output → v.expected r < 65536 → Took r (take_of l.receiving r l.stream output)
    pub few : (r : State) → v.ok_receiver r → v.many r ≤ 64
    pub beside_ok : (r : State) (c : Call) → v.ok_receiver r → Beside l.receiving l.stream c → v.ok_receiver (called l.receiving r c)
    pub beside : (r : State) (c : Call) → v.ok_receiver r → Beside l.receiving l.stream c → Same r (called l.receiving r c)
