-- What the receiver promises of an item of the stream that has come. Assumes nothing.
use Prim.Native.Nat.{ℕ, ◌-◌, ◌≤◌, ◌<◌}
use mathlib.Core.Path.{◌≡◌, refl, ap, ◌∙◌, subst}
use mathlib.Core.Logic.{⊎_elim}
use mathlib.Core.List.{List}
use native.Mathlib.Omega.{arith}
use borrow.Author.Tests.{ne_eqb, eqb-true, eqb-false, ltb-true, ltb-false, le-ltb}
use lib.Dec.{ltb, eqb}
use lib.ListN.{length, take, drop, length-drop}
use lib.Seq.{take_at}
use Rattle.std.specs.Prelude.{Ok, Result, Err}
use Rattle.laws.proofs.Cases.{case, lt_or_le}
use Rattle.serial.specs.Order.{back}
use Rattle.terms.specs.declared.Sizes.{Sizes}
use Rattle.terms.specs.declared.Refusal.TheVariants.{NoStream, Full as IsFull}
use Rattle.ordering_plan.specs.State.{State as Stream, place_of as held_place}
use Rattle.ordering_plan.specs.Arrange.{plan_of as item_plan, arranged}
use Rattle.ordering_plan.specs.declared.Arranged.{Arranged}
use Rattle.ordering_plan.specs.declared.Arranged.TheVariants.{Out as GoesOut, Held as IsHeld, Old as IsOld}
use Rattle.ordering_plan.specs.declared.OrderingStream.{OrderingStream}
use Rattle.ordering_laws.specs.Held.{held_at, Good}
use Rattle.ordering_laws.proofs.Found.{same?}
use Rattle.ordering_laws.proofs.Map.{held_is_a_map}
use Rattle.arranging_plan.specs.Ids.{place_of}
use Rattle.arranging_plan.specs.Ordered.{States, stored_at}
use Rattle.arranging_plan.proofs.Parts.{plan_none, plan_on_lem}
use Rattle.arranging_plan.proofs.Sound.{fresh_at}
use Rattle.arranging_laws.proofs.Stays.{arranged_fits}
use Rattle.arranging_laws.proofs.Ids.{few}
use Rattle.arranging_laws.proofs.Stored.{Fitting, state_good}
use Rattle.ends.specs.State.{State}
use Rattle.receiving_plan.specs.Plan.{ordered_as, plan_of, item_of}
use Rattle.receiving.specs.Receive.{Step as Received, packet_as, received_of}
use Rattle.link_incoming.specs.Calls.{receive_of}
use Rattle.link_laws.proofs.Kept.{stays_open}
use Rattle.link_laws.proofs.Receive.{one_of_four}
use Rattle.agreement.specs.World.{Pair}
use Rattle.agreement.specs.Agreement.{Lent}
use Rattle.agreement.proofs.Streams.{seen, own_seen, ids_of}
use Rattle.agreement.proofs.Wire.{Saying}
use Rattle.agreement.proofs.Promises.{Same, Landed, goes-out, is_held, is-old, is-refused}
use Rattle.agreement.proofs.Views.{Fine, views}
use Rattle.terms.specs.declared.Refusal.{Refusal}

-- what an answer of a stream says of the distance
abbrev pub Planned : Result Arranged Refusal → ℕ → Type 0
Planned (Ok GoesOut) d = d ≡ 0
Planned (Ok (IsHeld k)) d = (1 ≤ d) × (d ≤ 32768)
Planned (Ok IsOld) d = 32769 ≤ d
Planned (Err why) d = (1 ≤ d) × (d ≤ 32768) × (why ≡ IsFull)

pub planned : (s : OrderingStream) (index : List ℕ) (i : ℕ) → Planned (item_plan s index i) (back i s.expected_index.0)
unfolding item_plan
planned s index i =
    case (eqb (back i s.expected_index.0) 0) (λ a. rw a (eqb-true (back i s.expected_index.0) 0 a))
    (λ a.
    let one = eqb-false (back i s.expected_index.0) 0 a in
    case (ltb 32768 (back i s.expected_index.0)) (λ b. rw (a, b) (ltb-true 32768 (back i s.expected_index.0) b))
    (λ b.
    let near = ltb-false 32768 (back i s.expected_index.0) b in
    case (eqb (held_place s index i) 64) (λ c. rw (a, b, c) (omega (arith, one), near, refl)) (λ c. rw (a, b, c) (omega (arith, one), near))))

module _ (l : Pair) (r : State) (ok : Fine l.receiving r) where
  abbrev z : Sizes
  z = l.receiving

  abbrev f : ℕ
  f = l.receiving.fragment_size

  abbrev id : ℕ
  id = l.stream

  abbrev J : ℕ
  J = place_of r.ordered.counters.known l.stream

  abbrev S : Stream
  S = seen l.receiving.fragment_size r.ordered l.stream

  pub few_held : S.stream.held ≤ 64
  few_held = ⊎_elim (λ (h : J < 4). (state_good f r.ordered ok.kept.ordered.whole J h).room.few)
      (λ (h : 4 ≤ J). rw (fresh_at r.ordered.counters J (let y = few r.ordered.counters.known (ids_of f r.ordered ok.kept.ordered.whole) 0 in omega arith)) (omega arith))
      (lt_or_le J 4)

  -- the same streams, and so the same of this one
  pub same_ordered : (r' : State) → r'.ordered ≡ r.ordered → Same l (views l) r r'
  same_ordered r' e =
      record {
        expects = ap (λ (s : States). (seen f s id).stream.expected_index.0) e;
        keeps = λ y h. ap (λ (s : States). held_at f (seen f s id) y) e;
      }

  -- what is stored under the id is seen
  module _ (free : J < 4) (r' : State) (t : Stream) (fits : Fitting f t) (e : r'.ordered ≡ stored_at f r.ordered J id t) where
    pub now-seen : seen f r'.ordered id ≡ t
    now-seen = ap (λ (s : States). seen f s id) e ∙ own_seen f r.ordered ok.kept.ordered.whole id free t fits

    pub now-expects : (seen f r'.ordered id).stream.expected_index.0 ≡ t.stream.expected_index.0
    now-expects = ap (λ (x : Stream). x.stream.expected_index.0) now-seen

    pub now-holds : (y : ℕ) → held_at f (seen f r'.ordered id) y ≡ held_at f t y
    now-holds y = ap (λ (x : Stream). held_at f x y) now-seen

  module _ (d output : List ℕ) (i : ℕ) (b : List ℕ) (lent : Lent l.receiving output) (t : Saying l.receiving.version l.stream d i b)
      (fits : length b ≤ l.receiving.fragment_size) where
    abbrev X : Received
    X = receive_of l.receiving r d output

    short : length d - t.at ≤ f
    short = let e = length-drop t.at d in let g = ap (λ (y : List ℕ). length y) t.payload in omega arith

    -- the call, once it is read
    read_is : X ≡ packet_as (plan_of t.h r.ordered.counters r.ordered.index r.sequenced) z t.h b r output
    unfolding receive_of received_of
    read_is = rw (stays_open z r ok.range ok.kept output lent, t.reads, le-ltb f (length d - t.at) short, t.kind, t.payload)

    -- 7, or what module 4 says
    pub fifth-is : J ≡ 4 → X ≡ packet_as (Err NoStream) z t.h b r output
    unfolding plan_of
    fifth-is e = read_is ∙ rw (t.ordered, t.stream_is, plan_none r.ordered.counters r.ordered.index id t.h.arranging.index.0 J refl e)

    abbrev A : Result Arranged Refusal
    A = item_plan S.stream S.index i

    pub item_is : (J ≡ 4 → ⊥) → X ≡ packet_as (ordered_as A (record { at = J; plan = A })) z t.h b r output
    unfolding plan_of
    item_is ne = read_is ∙ rw (t.ordered, t.stream_is, t.index_is, plan_on_lem r.ordered.counters r.ordered.index id i J refl ne)

    pub in_four : (J ≡ 4 → ⊥) → J < 4
    in_four ne = one_of_four r.ordered.counters.known (ids_of f r.ordered ok.kept.ordered.whole) id (ne_eqb J 4 ne)

    -- what each answer leaves
    module _ (ne : J ≡ 4 → ⊥) (small : i < 65536) where
      good : Good f S
      good = state_good f r.ordered ok.kept.ordered.whole J (in_four ne)

      whole_is : (a : Result Arranged Refusal) → A ≡ a → X ≡ packet_as (ordered_as a (record { at = J; plan = a })) z t.h b r output
      whole_is a e = item_is ne ∙ ap (λ (y : Result Arranged Refusal). packet_as (ordered_as y (record { at = J; plan = y })) z t.h b r output) e

      stored-fits : (a : Result Arranged Refusal) → A ≡ a → Fitting f (arranged a f i b S)
      stored-fits a e = arranged_fits f r.ordered ok.kept.ordered.whole J (in_four ne) i b fits a e

      says : (a : Result Arranged Refusal) → A ≡ a → Planned a (back i S.stream.expected_index.0)
      says a e = subst (λ (y : Result Arranged Refusal). Planned y (back i S.stream.expected_index.0)) e (planned S.stream S.index i)

      landed : (a : Result Arranged Refusal) → A ≡ a → Landed l (views l) r i b X
      landed (Ok GoesOut) e =
          let x = whole_is (Ok GoesOut) e in
          let o : X.end.ordered ≡ stored_at f r.ordered J id (arranged (Ok GoesOut) f i b S) = ap (λ (y : Received). y.end.ordered) x ∙ rw t.stream_is in
          let fit = stored-fits (Ok GoesOut) e in
          goes-out (item_of t.h (length b)) (ap (λ (y : Received). y.answer) x)
          (ap (λ (y : Received). take (length b) y.output) x ∙ take_at b (drop (length b) output) (length b) refl)
          (says (Ok GoesOut) e)
          (now-expects (in_four ne) X.end _ fit o)
          (λ y h. now-holds (in_four ne) X.end _ fit o y ∙ held_is_a_map.out_elsewhere f S i b y)
      landed (Ok (IsHeld k)) e =
          let x = whole_is (Ok (IsHeld k)) e in
          let o : X.end.ordered ≡ stored_at f r.ordered J id (arranged (Ok (IsHeld k)) f i b S) = ap (λ (y : Received). y.end.ordered) x ∙ rw (t.stream_is, t.index_is) in
          let fit = stored-fits (Ok (IsHeld k)) e in
          is_held (ap (λ (y : Received). y.answer) x) (says (Ok (IsHeld k)) e).0 (says (Ok (IsHeld k)) e).1
          (now-expects (in_four ne) X.end _ fit o)
          (now-holds (in_four ne) X.end _ fit o i ∙ held_is_a_map.put_here f S i k b good small fits e)
          (λ y h ny. now-holds (in_four ne) X.end _ fit o y ∙ held_is_a_map.put_elsewhere f S i k b y good small fits e h ny)
      landed (Ok IsOld) e =
          let x = whole_is (Ok IsOld) e in
          let o : X.end.ordered ≡ stored_at f r.ordered J id (arranged (Ok IsOld) f i b S) = ap (λ (y : Received). y.end.ordered) x ∙ rw t.stream_is in
          let fit = stored-fits (Ok IsOld) e in
          is-old (ap (λ (y : Received). y.answer) x) (says (Ok IsOld) e)
          (record { expects = now-expects (in_four ne) X.end _ fit o; keeps = λ y h. now-holds (in_four ne) X.end _ fit o y })
      landed (Err why) e =
          let x = whole_is (Err why) e in
          is-refused why (ap (λ (y : Received). y.answer) x) (same_ordered X.end (ap (λ (y : Received). y.end.ordered) x))

    pub lands : i < 65536 → Landed l (views l) r i b X
    lands small =
        ⊎_elim
        (λ (e : J ≡ 4).
        let x = fifth-is e in
        is-refused NoStream (ap (λ (y : Received). y.answer) x) (same_ordered X.end (ap (λ (y : Received). y.end.ordered) x)))
        (λ (ne : J ≡ 4 → ⊥). landed ne small A refl)
        (same? J 4)
