-- What a plan carries is the item's own, and a refused packet leaves all. Assumes nothing.
use Prim.Native.Nat.{ℕ, ◌*◌, ◌≤◌, ◌<◌}
use mathlib.Core.Path.{◌≡◌, refl, sym, ◌∙◌}
use mathlib.Core.Bool.{false}
use mathlib.Core.List.{List, []}
use native.Mathlib.Omega.{arith}
use lib.Dec.{eqb}
use borrow.Author.Tests.{eqb-false}
use Rattle.std.specs.Prelude.{Result, Ok, Err}
use Rattle.laws.proofs.Cases.{case, both, no_answer}
use Rattle.terms.specs.declared.Sizes.{Sizes}
use Rattle.terms.specs.declared.Refusal.{Refusal}
use Rattle.packet_table.specs.declared.Headers.{Headers}
use Rattle.packet_table.specs.declared.ArrangingHeader.{ArrangingHeader}
use Rattle.packet_table.specs.declared.OrderingGuarantee.{OrderingGuarantee}
use Rattle.packet_table.specs.declared.OrderingGuarantee.TheVariants.{None, Sequenced as InSequence, Ordered as InOrder}
use Rattle.ordering_plan.specs.Arrange.{plan_of as item_plan}
use Rattle.ordering_plan.specs.declared.Arranged.{Arranged}
use Rattle.ordering_plan.specs.declared.Arranged.TheVariants.{Out as GoesOut, Held as IsHeld, Old as IsOld}
use Rattle.arranging_plan.specs.Ids.{place_of}
use Rattle.arranging_plan.specs.Ordered.{plan_on, stream_at, part, lending_all}
use Rattle.arranging_plan.specs.Gate.{is_refused}
use Rattle.arranging_plan.specs.declared.ordered.Planned.{Planned}
use Rattle.arranging_plan.specs.declared.ordered.OrderingStreams.{OrderingStreams}
use Rattle.arranging.specs.declared.sequenced.SequencingStreams.{SequencingStreams}
use Rattle.arranging_plan.proofs.Gates.{accepted}
use Rattle.receiving_plan.proofs.Places.{place_under}
use Rattle.ends.specs.declared.End.{End}
use Rattle.receiving_plan.specs.Plan.{sequenced_plan, ordered_as, ordered_plan, plan_by, plan_of}
use Rattle.receiving_packets.specs.Packets.{SequencedReady, OrderedReady, Performs}
use Rattle.receiving_packets.specs.declared.Received.{Received}
use Rattle.receiving_plan.specs.declared.Plan.{Plan}
use Rattle.receiving_plan.specs.declared.Plan.TheVariants.{Sequenced, Ordered}
use Rattle.receiving_plan.specs.declared.Sequencing.{Sequencing}

ordered_apart : (a : Result Arranged Refusal) (p : Planned) (q : Sequencing) → ordered_as a p ≡ Ok (Sequenced q) → ⊥
ordered_apart (Ok a) p q e = let z : ◌≡◌ {A = ℕ} 0 1 = cc in omega arith
ordered_apart (Err why) p q e = no_answer e

-- a plan of an ordered item is the one that was found, and no refusal
carried : (a : Result Arranged Refusal) (p r : Planned) → ordered_as a p ≡ Ok (Ordered r) → (r ≡ p) × (is_refused a ≡ false)
carried (Ok GoesOut) p r e = (cc, refl)
carried (Ok (IsHeld k)) p r e = (cc, refl)
carried (Ok IsOld) p r e = (cc, refl)
carried (Err why) p r e = no_answer e

answer_of : (a : Result Arranged Refusal) → is_refused a ≡ false → (b : Arranged) × (a ≡ Ok b)
answer_of (Ok b) e = (b, refl)
answer_of (Err why) e = both refl e

module _ (o : OrderingStreams) (index : List ℕ) (s : SequencingStreams) (i : ArrangingHeader) where
  sequenced_at : (q : Sequencing) → s.known.made ≤ 4 → sequenced_plan s i ≡ Ok (Sequenced q) → q.at < 4
  unfolding sequenced_plan
  sequenced_at q few e =
      case (eqb (place_of s.known i.stream) 4)
      (λ t. no_answer (rw t at e))
      (λ t.
      let here : q.at ≡ place_of s.known i.stream = let w = rw t at e in cc in
      rw here (place_under s.known i.stream few (eqb-false _ _ t)))

  sequenced_by_lem : (g : OrderingGuarantee) (q : Sequencing) → s.known.made ≤ 4 → plan_by g i o index s ≡ Ok (Sequenced q) → q.at < 4
  sequenced_by_lem None q few e = absurd (let z : ◌≡◌ {A = ℕ} 0 1 = cc in omega arith)
  sequenced_by_lem InSequence q few e = sequenced_at q few e
  sequenced_by_lem InOrder q few e = absurd (ordered_apart (plan_on o index i.stream i.index.0).plan _ q e)

  ordered_at : (p : Planned) → o.known.made ≤ 4 → ordered_plan (plan_on o index i.stream i.index.0) ≡ Ok (Ordered p)
      → (p.at < 4) × (p.plan ≡ item_plan (stream_at o p.at) (part index (p.at * 64) 64) i.index.0)
  ordered_at p few e =
      let w = carried (plan_on o index i.stream i.index.0).plan (plan_on o index i.stream i.index.0) p e in
      let a = accepted (lending_all o index [] []) i.stream i.index.0 w.1 in
      rw (w.0, a.place_is, a.plan_is) (place_under o.known i.stream few a.other, refl)

  sequenced_no : (p : Planned) → sequenced_plan s i ≡ Ok (Ordered p) → ⊥
  unfolding sequenced_plan
  sequenced_no p e =
      case (eqb (place_of s.known i.stream) 4)
      (λ t. let w = rw t at e in let z : ◌≡◌ {A = ℕ} 0 1 = cc in omega arith)
      (λ t. let w = rw t at e in let z : ◌≡◌ {A = ℕ} 0 1 = cc in omega arith)

  ordered_by_lem : (g : OrderingGuarantee) (p : Planned) → o.known.made ≤ 4 → plan_by g i o index s ≡ Ok (Ordered p)
      → (p.at < 4) × (p.plan ≡ item_plan (stream_at o p.at) (part index (p.at * 64) 64) i.index.0)
  ordered_by_lem None p few e = absurd (let z : ◌≡◌ {A = ℕ} 0 1 = cc in omega arith)
  ordered_by_lem InSequence p few e = absurd (sequenced_no p e)
  ordered_by_lem InOrder p few e = ordered_at p few e

  answered_by : (g : OrderingGuarantee) (p : Planned) → plan_by g i o index s ≡ Ok (Ordered p) → (a : Arranged) × (p.plan ≡ Ok a)
  answered_by None p e = absurd (let z : ◌≡◌ {A = ℕ} 0 1 = cc in omega arith)
  answered_by InSequence p e = absurd (sequenced_no p e)
  answered_by InOrder p e =
      let w = carried (plan_on o index i.stream i.index.0).plan (plan_on o index i.stream i.index.0) p e in
      rw w.0 (answer_of (plan_on o index i.stream i.index.0).plan w.1)

module _ (plan : Result Plan Refusal) (h : Headers) (o : OrderingStreams) (index : List ℕ) (s : SequencingStreams) (own : plan ≡ plan_of h o index s) where
  pub sequenced_ready : s.known.made ≤ 4 → SequencedReady plan s
  unfolding plan_of
  sequenced_ready few q e = (sequenced_by_lem o index s h.arranging h.standard.ordering q few (sym own ∙ e), few)

  pub ordered_ready : o.known.made ≤ 4 → OrderedReady plan o index h.arranging
  unfolding plan_of
  ordered_ready few p e = ordered_by_lem o index s h.arranging h.standard.ordering p few (sym own ∙ e)

  -- what a plan carries is an answer too, and no refusal
  pub ordered_answered : o.known.made ≤ 4 → (p : Planned) → plan ≡ Ok (Ordered p)
      → (p.at < 4) × ((a : Arranged) × (p.plan ≡ Ok a) × (Ok a ≡ item_plan (stream_at o p.at) (part index (p.at * 64) 64) h.arranging.index.0))
  unfolding plan_of
  ordered_answered few p e =
      let r = ordered_ready few p e in
      let g = answered_by o index s h.arranging h.standard.ordering p (sym own ∙ e) in
      (r.0, (g.0, g.1, sym g.1 ∙ r.1))

-- "a refusal records no packet number", and leaves all else
pub kept : (plan : Result Plan Refusal) (z : Sizes) (h : Headers) (payload : List ℕ) (end : End) (received number index lengths held output : List ℕ) (r : Received) (why : Refusal)
    → plan ≡ Err why → r ≡ record { end = end; answer = Err why }
    → Performs plan z h payload end received number index lengths held output r received number index lengths held output
kept plan z h payload end received number index lengths held output r why q w =
    rw (q, w)
    (record {
      answer_is = refl;
      acks_are = refl;
      received_is = refl;
      number_is = refl;
      reassembly_is = refl;
      ordering_is = refl;
      index_is = refl;
      lengths_are = refl;
      held_are = refl;
      sequencing_is = refl;
      output_is = refl;
    })
