-- From a fresh end, whatever is called, what every call keeps is kept. Assumes nothing.
use Prim.Native.Nat.{ℕ, ◌+◌, ◌*◌, ◌≤◌, ◌<◌}
use mathlib.Core.Path.{◌≡◌, refl, sym, ◌∙◌}
use mathlib.Core.Bool.{true}
use mathlib.Core.List.{List, [], ◌∷◌}
use native.Mathlib.Omega.{arith}
use lib.Dec.{leb}
use lib.ListN.{length, get_or, length-replicate}
use Rattle.std.specs.Prelude.{Result, Ok, Err, Option, Some, None, ⊤}
use Rattle.laws.proofs.Cases.{case}
use Rattle.serial.specs.declared.ItemId.{ItemId}
use Rattle.terms.specs.Sizes.{in_range}
use Rattle.terms.specs.declared.Sizes.{Sizes}
use Rattle.sequence_buffer.specs.Buffer.{none, fresh}
use Rattle.flight.specs.declared.SentPacket.{SentPacket}
use Rattle.acks.specs.Gate.{lent, flight_lent}
use Rattle.acknowledgment_laws.specs.Runs.{Typed}
use Rattle.acknowledgment_laws.proofs.Unbroken.{good_drop}
use Rattle.packet_table.specs.Numbers.{Bytes}
use Rattle.packet_table.specs.declared.DeliveryGuarantee.{DeliveryGuarantee}
use Rattle.packet_table.specs.declared.OrderingGuarantee.{OrderingGuarantee}
use Rattle.reassembly_plan.specs.Gate.{too_short as parts_too_short}
use Rattle.ordering_plan.specs.State.{fresh as fresh_ordered}
use Rattle.arranging_plan.specs.Ids.{place_of}
use Rattle.arranging_plan.specs.Ordered.{States, next_on, taken_on}
use Rattle.arranging_laws.proofs.Theorems.{stays_sound}
use Rattle.ends.specs.State.{State, lending, fresh_end}
use Rattle.ends.specs.Gate.{is_lent, gate_of}
use Rattle.ends.proofs.Opened.{opened}
use Rattle.datagrams.specs.declared.Identifier.TheVariants.{Next, Again}
use Rattle.link_incoming.specs.Calls.{receive_of, take_of}
use Rattle.link_outgoing.specs.Calls.{send_of, resend_of, item_again}
use Rattle.link.specs.Calls.{new_of, filled, number_of_fresh, drop_of}
use Rattle.link_laws.specs.Calls.{Call, receives, takes, sends, resends, writes, drops, asks, lent_to, dropped, called, after, AllTyped, with_receives, with_takes, with_sends, with_resends, with_writes, with_drops, with_asks}
use Rattle.link_laws.specs.Never.{New, NeverBroken}
use Rattle.link_laws.proofs.Lists.{set_each}
use Rattle.link_laws.proofs.Kept.{OrderedItem, KeptOrdered, Kept, stays_open, kept_new}
use Rattle.link_laws.proofs.Receive.{ordered_item, kept_received}
use Rattle.link_laws.proofs.Send.{Narrow, kept_transmitted}
use Rattle.link_laws.proofs.Answers.{through_open}
use Rattle.terms.specs.declared.Refusal.{Refusal}
use Rattle.flight.specs.declared.lost.Dropped.{Dropped}

-- the item that is expected on an ordered stream is taken
taken_items : (f : ℕ) (s : States) (k : KeptOrdered f s) (id : ℕ) (t : Result (Option ℕ) Refusal) (m : ℕ) → OrderedItem (get_or (taken_on t f id s).counters.streams m fresh_ordered)
taken_items f s k id (Ok (Some n)) =
    set_each OrderedItem fresh_ordered s.counters.streams (place_of s.counters.known id) _ (ordered_item f s k (place_of s.counters.known id)) k.items
taken_items f s k id (Ok None) = k.items
taken_items f s k id (Err why) = k.items

pub next_narrow : Narrow Next
next_narrow item e = absurd (let z : ◌≡◌ {A = ℕ} 0 1 = cc in omega arith)

pub again_narrow : (item : ItemId) → item.0 < 65536 → Narrow (Again item)
again_narrow item h other e = let q : item ≡ other = cc in rw (sym q) h

module _ (z : Sizes) (s : State) (r : in_range z ≡ true) (k : Kept z s) where
  pub kept_receives : (d output : List ℕ) → Bytes d → Kept z (receive_of z s d output).end
  unfolding receive_of
  kept_receives d output bytes = go (gate_of z s output) refl
    where
      go : (g : Result ⊤ Refusal) → gate_of z s output ≡ g → Kept z (receive_of z s d output).end
      go (Err why) e = rw e k
      go (Ok tt) e = rw e (kept_received z s d output r k bytes (opened z s output e).output_room)

  pub kept_takes : (id : ℕ) (output : List ℕ) → Kept z (take_of z s id output).end
  unfolding take_of
  kept_takes id output = go (gate_of z s output) refl
    where
      go : (g : Result ⊤ Refusal) → gate_of z s output ≡ g → Kept z (take_of z s id output).end
      go (Err why) e = rw e k
      go (Ok tt) e =
          rw e
          (record {
            acks = k.acks;
            parts = k.parts;
            ordered = record {
              whole = stays_sound.by_take z.fragment_size s.ordered id k.ordered.whole;
              items = taken_items z.fragment_size s.ordered k.ordered id (next_on z.fragment_size s.ordered id);
            };
            sequenced = k.sequenced;
          })

  pub kept_sends : (delivery : DeliveryGuarantee) (ordering : OrderingGuarantee) (stream : ℕ) (payload output : List ℕ) → stream < 256
      → Kept z (send_of z s delivery ordering stream payload output).end
  unfolding send_of
  kept_sends delivery ordering stream payload output byte = go (gate_of z s output) refl
    where
      go : (g : Result ⊤ Refusal) → gate_of z s output ≡ g → Kept z (send_of z s delivery ordering stream payload output).end
      go (Err why) e = rw e k
      go (Ok tt) e = rw e (kept_transmitted z s (record { delivery = delivery; ordering = ordering; stream = stream; identifier = Next }) payload output r k byte next_narrow)

  pub kept_resends : (sent : SentPacket) (payload output : List ℕ) → Typed sent → Kept z (resend_of z s sent payload output).end
  unfolding resend_of
  kept_resends sent payload output t = go (gate_of z s output) refl
    where
      go : (g : Result ⊤ Refusal) → gate_of z s output ≡ g → Kept z (resend_of z s sent payload output).end
      go (Err why) e = rw e k
      go (Ok tt) e =
          case (leb 3 sent.ordering) (λ q. rw (e, q) k)
          (λ q. rw (e, q) (kept_transmitted z s (item_again sent) payload output r k t.stream_byte (again_narrow sent.item t.item_word)))

  pub kept_drops : (output : List ℕ) → Kept z (dropped z s output)
  kept_drops output = go (drop_of z s output) refl
    where
      go : (a : Result (Option Dropped) Refusal) → drop_of z s output ≡ a → Kept z (dropped z s output)
      go (Ok None) e = rw e k
      go (Ok (Some d)) e = rw e (record { acks = good_drop z s.acks r k.acks d; parts = k.parts; ordered = k.ordered; sequenced = k.sequenced })
      go (Err why) e = rw e k

kept_after : (z : Sizes) (s : State) (calls : List Call) → in_range z ≡ true → AllTyped calls → Kept z s → Kept z (after z s calls)
unfolding after called
kept_after z s [] r t k = k
kept_after z s (receives d output ∷ calls) r (with_receives b t) k = kept_after z (called z s (receives d output)) calls r t (kept_receives z s r k d output b)
kept_after z s (takes id output ∷ calls) r (with_takes t) k = kept_after z (called z s (takes id output)) calls r t (kept_takes z s r k id output)
kept_after z s (sends delivery ordering stream payload output ∷ calls) r (with_sends b t) k =
    kept_after z (called z s (sends delivery ordering stream payload output)) calls r t (kept_sends z s r k delivery ordering stream payload output (omega (arith, b)))
kept_after z s (resends sent payload output ∷ calls) r (with_resends b t) k =
    kept_after z (called z s (resends sent payload output)) calls r t (kept_resends z s r k sent payload output b)
kept_after z s (writes n j output ∷ calls) r (with_writes t) k = kept_after z (called z s (writes n j output)) calls r t k
kept_after z s (asks output ∷ calls) r (with_asks t) k = kept_after z (called z s (asks output)) calls r t k
kept_after z s (drops output ∷ calls) r (with_drops t) k = kept_after z (called z s (drops output)) calls r t (kept_drops z s r k output)

-- what `new` makes is fresh: emptying a table keeps its length
module _ (z : Sizes) (received number records payloads slots entry header joined index lengths held output : List ℕ) where
  abbrev Given : State
  Given = lending fresh_end received number records payloads slots entry header joined index lengths held

  abbrev Emptied : State
  Emptied = lending fresh_end (fresh (length received)) (fresh (length number)) records payloads (fresh (length slots)) entry header joined index lengths held

  same_lent : is_lent z Emptied output ≡ is_lent z Given output
  unfolding is_lent lent flight_lent parts_too_short
  same_lent = rw (length-replicate (length received) none, length-replicate (length number) none, length-replicate (length slots) none)

  emptied_new : in_range z ≡ true → is_lent z Given output ≡ true → New z Emptied output
  emptied_new r e =
      record {
        sizes = r;
        storage = same_lent ∙ e;
        counters = refl;
        none_received = rw (length-replicate (length received) none);
        none_in_flight = rw (length-replicate (length number) none);
        no_message = rw (length-replicate (length slots) none);
      }

  made_new : number_of_fresh (new_of z received number records payloads slots entry header joined index lengths held output) ≡ 0
      → New z (lending fresh_end (filled (new_of z received number records payloads slots entry header joined index lengths held output) received) (filled (new_of z received number records payloads slots entry header joined index lengths held output) number) records payloads (filled (new_of z received number records payloads slots entry header joined index lengths held output) slots) entry header joined index lengths held) output
  unfolding new_of
  made_new =
      case (in_range z)
      (λ a. case (is_lent z Given output) (λ b. rw (a, b) (λ e. emptied_new a b)) (λ b. rw (a, b) (λ e. absurd (omega arith))))
      (λ a. rw a (λ e. absurd (omega arith)))

-- whatever is called
module _ (z : Sizes) (s : State) (first : List ℕ) (calls : List Call) (new : New z s first) (t : AllTyped calls) where
  kept_calls : Kept z (after z s calls)
  kept_calls = kept_after z s calls new.sizes t (kept_new z s first new)

  open_after : (output : List ℕ) → 16 * z.fragment_size + 17 ≤ length output → gate_of z (after z s calls) output ≡ Ok tt
  open_after output h = stays_open z (after z s calls) new.sizes kept_calls output h

pub unbroken : NeverBroken
unbroken =
    record {
      from_new = made_new;
      stays_open = λ z s first calls output new t h. open_after z s first calls new t output (omega (arith, h));
      never = λ z s first calls call new t h. through_open z (after z s calls) call (open_after z s first calls new t (lent_to call) h);
    }
