-- What an item that is sent on an ordered stream, or sent again, leaves of the stream with an id. Assumes nothing.
use Prim.Native.Nat.{ℕ, ◌<◌}
use mathlib.Core.Path.{◌≡◌, refl, sym, ap, ◌∙◌, subst}
use mathlib.Core.Logic.{⊎_elim}
use Rattle.serial.specs.declared.ItemId.{ItemId}
use Rattle.ordering_plan.specs.State.{State as Stream}
use Rattle.ordering_plan.specs.declared.OrderingStream.{OrderingStream}
use Rattle.ordering_laws.specs.Held.{held_at}
use Rattle.ordering_laws.proofs.Found.{same?}
use Rattle.arranging_plan.specs.Ids.{place_of}
use Rattle.arranging_plan.specs.Ordered.{States, lending_all, state_at}
use Rattle.arranging_laws.proofs.Stays.{Sent, sent_fits, sent_is, fitting}
use Rattle.sending.specs.Send.{ordered_as}
use Rattle.datagrams.specs.declared.Identifier.{Identifier}
use Rattle.datagrams.specs.declared.Identifier.TheVariants.{Next, Again}
use Rattle.link_laws.proofs.Kept.{KeptOrdered}
use Rattle.link_laws.proofs.Send.{again-is}
use Rattle.agreement.proofs.Streams.{seen, Equal, own_seen, other_seen}

module _ (f : ℕ) (s : States) (k : KeptOrdered f s) (stream : ℕ) (free : place_of s.counters.known stream < 4) where
  abbrev J : ℕ
  J = place_of s.counters.known stream

  abbrev pub After : Identifier → States
  After t = lending_all (ordered_as t s.counters J stream).streams s.index s.lengths s.bytes

  -- the stream itself: with its next identifier taken, or as it was
  pub next_seen : seen f (After Next) stream ≡ Sent f s k.whole J free
  next_seen =
      ap (λ (x : States). seen f x stream) (sym (sent_is f s stream k.whole free))
      ∙ own_seen f s k.whole stream free (Sent f s k.whole J free) (sent_fits f s k.whole J free)

  pub again_seen : (item : ItemId) → seen f (After (Again item)) stream ≡ state_at f s J
  again_seen item =
      ap (λ (x : States). seen f x stream) (sym (again-is f s k stream free item))
      ∙ own_seen f s k.whole stream free (state_at f s J) (fitting f s k.whole J free)

  -- another
  pub others_seen : (t : Identifier) (id : ℕ) → (id ≡ stream → ⊥) → Equal f (seen f s id) (seen f (After t) id)
  others_seen Next id ne =
      subst (λ (x : States). Equal f (seen f s id) (seen f x id)) (sent_is f s stream k.whole free) (other_seen f s k.whole stream free (Sent f s k.whole J free) (sent_fits f s k.whole J free) id ne)
  others_seen (Again item) id ne =
      subst (λ (x : States). Equal f (seen f s id) (seen f x id)) (again-is f s k stream free item) (other_seen f s k.whole stream free (state_at f s J) (fitting f s k.whole J free) id ne)

  -- of either what is expected and what is held stays
  pub record Receives (a b : Stream) : Type 0 where
    pub expects : b.stream.expected_index.0 ≡ a.stream.expected_index.0
    pub keeps : (y : ℕ) → held_at f b y ≡ held_at f a y

  sent_holds : (y : ℕ) → held_at f (Sent f s k.whole J free) y ≡ held_at f (state_at f s J) y
  unfolding held_at
  sent_holds y = refl

  own : (t : Identifier) → Receives (seen f s stream) (seen f (After t) stream)
  own Next =
      record {
        expects = ap (λ (x : Stream). x.stream.expected_index.0) next_seen;
        keeps = λ y. ap (λ (x : Stream). held_at f x y) next_seen ∙ sent_holds y;
      }
  own (Again item) =
      record {
        expects = ap (λ (x : Stream). x.stream.expected_index.0) (again_seen item);
        keeps = λ y. ap (λ (x : Stream). held_at f x y) (again_seen item);
      }

  pub receives : (t : Identifier) (id : ℕ) → Receives (seen f s id) (seen f (After t) id)
  receives t id =
      ⊎_elim (λ (e : id ≡ stream). subst (λ (x : ℕ). Receives (seen f s x) (seen f (After t) x)) (sym e) (own t))
      (λ (ne : id ≡ stream → ⊥).
      let q = others_seen t id ne in
      record { expects = ap (λ (x : OrderingStream). x.expected_index.0) q.stream_is; keeps = q.keeps })
      (same? id stream)
