-- 6 and 7 are given exactly where 01 says. Assumes nothing.
use Prim.Native.Nat.{ℕ, ◌≤◌, ◌<◌, ◌%◌}
use mathlib.Core.Path.{◌≡◌, refl, sym, ap, ◌∙◌, subst}
use mathlib.Core.Logic.{inl, inr, ⊎_elim}
use mathlib.Core.List.{List}
use native.Mathlib.Omega.{arith}
use lib.ListN.{length, take}
use Rattle.std.specs.Prelude.{Ok, Result, Err}
use Rattle.laws.proofs.Cases.{lt_or_le}
use Rattle.serial.specs.Order.{back}
use Rattle.terms.specs.declared.Refusal.TheVariants.{Full as IsFull}
use Rattle.ordering_plan.specs.State.{State as Stream, fresh}
use Rattle.ordering_plan.specs.Arrange.{plan_of as item_plan}
use Rattle.ordering_plan.specs.declared.Arranged.{Arranged}
use Rattle.ordering_plan.specs.declared.Arranged.TheVariants.{Out as GoesOut, Held as IsHeld, Old as IsOld}
use Rattle.ordering_plan.specs.declared.OrderingStream.{OrderingStream}
use Rattle.ordering_laws.specs.Full.{others}
use Rattle.ordering_laws.proofs.Found.{same?}
use Rattle.ordering_laws.proofs.Filled.{full_is_exact}
use Rattle.arranging_plan.specs.Ids.{place_of}
use Rattle.arranging_plan.specs.declared.ids.StreamIds.{StreamIds}
use Rattle.arranging_plan.proofs.Sound.{fresh_at}
use Rattle.arranging_laws.specs.Sound.{WholeIds}
use Rattle.arranging_laws.proofs.Ids.{few, place_le}
use Rattle.arranging_laws.proofs.Stored.{state_good}
use Rattle.receiving_plan.specs.Plan.{number_of_answer, ordered_as}
use Rattle.receiving.specs.Receive.{Step as Received, packet_as}
use Rattle.link_incoming.specs.Calls.{receive_of}
use Rattle.agreement.specs.World.{Pair, World}
use Rattle.agreement.specs.Agreement.{Lent, Fifth, Full, Refusals, stream_of}
use Rattle.agreement.proofs.Streams.{made_at_lem, made_least, ids_of}
use Rattle.agreement.proofs.Wire.{Saying}
use Rattle.agreement.proofs.Views.{Fine}
use Rattle.agreement.proofs.Receiver.{Planned, planned, fifth-is, item_is, in_four}
use Rattle.terms.specs.declared.Refusal.{Refusal}

-- a fifth stream is one whose place would be 4
module _ (n : StreamIds) (w : WholeIds n) (id : ℕ) where
  fifth : place_of n id ≡ 4 → Fifth n id
  fifth e =
      let m = place_le n w id in
      let q = few n w id in
      record { four = omega arith; another = λ k h g. let y = made_least n w id k (omega arith) g in omega arith }

  place_fifth : Fifth n id → place_of n id ≡ 4
  place_fifth h =
      let m = place_le n w id in
      let q = h.four in
      ⊎_elim (λ (g : place_of n id < 4). absurd (h.another (place_of n id) g (made_at_lem n w id (omega arith)))) (λ (g : 4 ≤ place_of n id). omega arith)
      (lt_or_le (place_of n id) 4)

module _ (l : Pair) (w : World) (ok : Fine l.receiving w.receiver) (d output : List ℕ) (p : ℕ) (b : List ℕ) (lent : Lent l.receiving output)
    (t : Saying l.receiving.version l.stream d (p % 65536) b) (fits : length b ≤ l.receiving.fragment_size) where
  abbrev f : ℕ
  f = l.receiving.fragment_size

  abbrev J : ℕ
  J = place_of w.receiver.ordered.counters.known l.stream

  abbrev S : Stream
  S = stream_of l w

  abbrev X : Received
  X = receive_of l.receiving w.receiver d output

  ids : WholeIds w.receiver.ordered.counters.known
  ids = ids_of f w.receiver.ordered ok.kept.ordered.whole

  not_full : J ≡ 4 → Full S (p % 65536) → ⊥
  unfolding others
  not_full e h =
      let is : S.stream ≡ fresh = fresh_at w.receiver.ordered.counters J (let y = few w.receiver.ordered.counters.known ids 0 in omega arith) in
      let none_there : S.stream.held ≡ 0 = ap (λ (x : OrderingStream). x.held) is in
      let o : others (p % 65536) (take S.stream.held S.index) ≡ 64 = h.others_held in
      let z : ◌≡◌ {A = ℕ} 0 64 = rw none_there at o in
      omega arith

  exact : (J ≡ 4 → ⊥) → (item_plan S.stream S.index (p % 65536) ≡ Err IsFull → Full S (p % 65536)) × (Full S (p % 65536) → item_plan S.stream S.index (p % 65536) ≡ Err IsFull)
  exact ne =
      let room = (state_good f w.receiver.ordered ok.kept.ordered.whole J (one-of-four' ne)).room in
      let e = full_is_exact S.stream S.index (p % 65536) room.few room.indices in
      (λ q. let y = e.0 q in record { ahead = y.0; near = y.1; others_held = y.2 }, λ h. e.1 (h.ahead, h.near, h.others_held))
    where
      one-of-four' : (J ≡ 4 → ⊥) → J < 4
      one-of-four' ne = in_four l w.receiver ok d output (p % 65536) b lent t fits ne

  by_plan : (J ≡ 4 → ⊥) → (a : Result Arranged Refusal) → item_plan S.stream S.index (p % 65536) ≡ a
      → Refusals l w p (number_of_answer (packet_as (ordered_as a (record { at = J; plan = a })) l.receiving t.h b w.receiver output).answer)
  by_plan ne (Ok GoesOut) e =
      record {
        only = inl refl;
        six = (λ q. absurd (omega arith), λ h. absurd (let y : (Ok GoesOut) ≡ Err IsFull = sym e ∙ (exact ne).1 h in let z : ◌≡◌ {A = ℕ} 0 1 = cc in omega arith));
        seven = (λ q. absurd (omega arith), λ h. absurd (ne (place_fifth w.receiver.ordered.counters.known ids l.stream h)));
      }
  by_plan ne (Ok (IsHeld k)) e =
      record {
        only = inl refl;
        six = (λ q. absurd (omega arith), λ h. absurd (let y : Ok (IsHeld k) ≡ Err IsFull = sym e ∙ (exact ne).1 h in let z : ◌≡◌ {A = ℕ} 0 1 = cc in omega arith));
        seven = (λ q. absurd (omega arith), λ h. absurd (ne (place_fifth w.receiver.ordered.counters.known ids l.stream h)));
      }
  by_plan ne (Ok IsOld) e =
      record {
        only = inl refl;
        six = (λ q. absurd (omega arith), λ h. absurd (let y : (Ok IsOld) ≡ Err IsFull = sym e ∙ (exact ne).1 h in let z : ◌≡◌ {A = ℕ} 0 1 = cc in omega arith));
        seven = (λ q. absurd (omega arith), λ h. absurd (ne (place_fifth w.receiver.ordered.counters.known ids l.stream h)));
      }
  by_plan ne (Err why) e =
      let is : why ≡ IsFull = (subst (λ (y : Result Arranged Refusal). Planned y (back (p % 65536) S.stream.expected_index.0)) e (planned S.stream S.index (p % 65536))).2 in
      rw is
      (record {
        only = inr (inl refl);
        six = (λ q. (exact ne).0 (e ∙ ap Err is), λ h. refl);
        seven = (λ q. absurd (omega arith), λ h. absurd (ne (place_fifth w.receiver.ordered.counters.known ids l.stream h)));
      })

  pub refuses : Refusals l w p (number_of_answer X.answer)
  refuses =
      ⊎_elim
      (λ (e : J ≡ 4).
      subst (λ (x : Received). Refusals l w p (number_of_answer x.answer)) (sym (fifth-is l w.receiver ok d output (p % 65536) b lent t fits e))
      (record {
        only = inr (inr refl);
        six = (λ q. absurd (omega arith), λ h. absurd (not_full e h));
        seven = (λ q. fifth w.receiver.ordered.counters.known ids l.stream e, λ h. refl);
      }))
      (λ (ne : J ≡ 4 → ⊥).
      subst (λ (x : Received). Refusals l w p (number_of_answer x.answer)) (sym (item_is l w.receiver ok d output (p % 65536) b lent t fits ne))
      (by_plan ne (item_plan S.stream S.index (p % 65536)) refl))
      (same? J 4)
