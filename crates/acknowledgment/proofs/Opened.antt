-- What is known once 1 and 2 have been passed, and what is told where they have not. Assumes nothing.
use mathlib.Core.Path.{◌≡◌, sym}
use mathlib.Core.Bool.{Bool, true, false, cond, ◌&&◌}
use mathlib.Core.List.{List}
use Prim.Native.Nat.{ℕ, ◌+◌, ◌*◌}
use lib.Dec.{ltb, leb}
use lib.ListN.{length}
use lib.Seq.{length-take-le}
use Rattle.std.specs.Prelude.{Result, Ok, Err}
use Rattle.laws.proofs.Cases.{case, no_answer}
use Rattle.terms.specs.Sizes.{in_range}
use Rattle.terms.specs.declared.Sizes.{Sizes}
use Rattle.terms.specs.declared.Refusal.{Refusal}
use Rattle.terms.specs.declared.Refusal.TheVariants.{BadSizes, BadStorage, TooLong, ExceededMaxFragments, Full}
use Rattle.terms.proofs.Ranges.{InRange, in_range_means}
use Rattle.flight.specs.Entry.{numbers_in}
use Rattle.flight.specs.Lost.{drop_of}
use Rattle.flight.specs.Places.{full}
use Rattle.flight.specs.declared.SentPacket.{SentPacket}
use Rattle.acks.specs.State.{State, table_of, slot_of, heard, sent_one}
use Rattle.acks.specs.Gate.{lent, gated, too_long}
use Rattle.acks.proofs.Gates.{Lent, lent_means}
use Rattle.acknowledgment.specs.Gate.{opened}
use Rattle.acknowledgment.specs.Calls.{is_lent, is_sound, incoming_of, outgoing_of, answered_by, dropped_of}

shut : {X : Type 0} (z : Sizes) (l k s : Bool) (answer : Result X Refusal) (why : Refusal)
    → opened z l ≡ Err why
    → (l ≡ false → k ≡ false)
    → gated z k s Err answer ≡ Err why
shut {X = X} z l k s answer why e cut =
    case (in_range z)
    (λ r.
    case l
    (λ q. let h = rw (r, q) at e in no_answer (sym h))
    (λ q.
    let h = rw (r, q) at e in
    let w : BadStorage ≡ why = cc in
    rw (r, cut q) (λ i. Err (w i))))
    (λ r.
    let h = rw r at e in
    let w : BadSizes ≡ why = cc in
    rw r (λ i. Err (w i)))

pub incoming_shut : (z : Sizes) (s : State) (n acked : ℕ) (why : Refusal) → opened z (is_lent z s) ≡ Err why → incoming_of z s n acked ≡ Err why
unfolding incoming_of
incoming_shut z s n acked why e = shut z (is_lent z s) (is_lent z s) (is_sound z s) (Ok (heard s.counters s.received n acked)) why e (λ q. q)

pub outgoing_shut : (z : Sizes) (s : State) (sent : SentPacket) (count : ℕ) (why : Refusal) → opened z (is_lent z s) ≡ Err why → outgoing_of z s sent count ≡ Err why
unfolding outgoing_of
outgoing_shut z s sent count why e =
    shut z (is_lent z s) (is_lent z s) (is_sound z s)
    (cond (too_long z sent count) (Err TooLong)
    (cond (ltb (z.max_fragments * z.fragment_size) count) (Err ExceededMaxFragments)
    (cond (full s.counters.sequence_number.0 (numbers_in (table_of z s.number))) (Err Full)
    (Ok (sent_one s.counters)))))
    why e (λ q. q)

pub dropped_shut : (z : Sizes) (s : State) (output : List ℕ) (why : Refusal) → opened z (is_lent z s) ≡ Err why → dropped_of z s output ≡ Err why
unfolding dropped_of
dropped_shut z s output why e =
    shut z (is_lent z s) (is_lent z s && leb (slot_of z + 17) (length output)) (is_sound z s)
    (answered_by (drop_of s.counters.remote_ack_sequence_num.0 (table_of z s.number) s.records))
    why e (λ q. rw q)

pub record Past (z : Sizes) (received number records bytes : List ℕ) : Type 0 where
  pub within_range : in_range z ≡ true
  pub long : lent z received number records bytes ≡ true
  pub sizes : InRange z
  pub lengths : Lent z received number records bytes
  pub whole : length (table_of z number) ≡ z.packets_in_flight

pub past : (z : Sizes) (received number records bytes : List ℕ) → opened z (lent z received number records bytes) ≡ Ok tt → Past z received number records bytes
past z received number records bytes e =
    case (in_range z)
    (λ r.
    case (lent z received number records bytes)
    (λ q.
    let l = lent_means z received number records bytes q in
    record {
      within_range = r;
      long = q;
      sizes = in_range_means z r;
      lengths = l;
      whole = length-take-le z.packets_in_flight number l.numbers;
    })
    (λ q. let h = rw (r, q) at e in no_answer h))
    (λ r. let h = rw r at e in no_answer h)
