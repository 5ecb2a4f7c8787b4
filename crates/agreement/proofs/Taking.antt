-- What a take on the stream promises. Assumes nothing.
use Prim.Native.Nat.{ℕ, suc, ◌*◌, ◌≤◌, ◌<◌}
use mathlib.Core.Path.{◌≡◌, refl, sym, ap, ◌∙◌}
use mathlib.Core.Logic.{⊎_elim}
use mathlib.Core.List.{List}
use native.Mathlib.Omega.{arith}
use lib.Dec.{ltb}
use lib.ListN.{length, take, drop}
use lib.Seq.{take_at}
use Rattle.std.specs.Prelude.{Ok, Result, Err, Option, Some, None}
use Rattle.laws.proofs.Cases.{case, lt_or_le}
use Rattle.laws.proofs.Slots.{slot_end, part_length}
use Rattle.terms.specs.declared.Sizes.{Sizes}
use Rattle.terms.specs.declared.Refusal.{Refusal}
use Rattle.ordering_plan.specs.State.{State as Stream}
use Rattle.ordering.specs.Take.{next_place, next_of, taken}
use Rattle.ordering_laws.specs.Held.{Good}
use Rattle.ordering_laws.proofs.Map.{found_there, held_is_a_map}
use Rattle.arranging_plan.specs.Ids.{place_of}
use Rattle.arranging_plan.specs.Ordered.{stored_at, next_on}
use Rattle.arranging.proofs.Kept.{next_here, next_away}
use Rattle.arranging_plan.proofs.Sound.{fresh_at}
use Rattle.arranging_laws.proofs.Ids.{few}
use Rattle.arranging_laws.proofs.Stays.{taken_fits}
use Rattle.arranging_laws.proofs.Stored.{state_good}
use Rattle.ends.specs.State.{State}
use Rattle.link_incoming.specs.Calls.{Taking, taken_by, take_of}
use Rattle.link_laws.proofs.Kept.{stays_open}
use Rattle.agreement.specs.World.{Pair}
use Rattle.agreement.specs.Agreement.{Lent}
use Rattle.agreement.proofs.Streams.{seen, none_held, ids_of}
use Rattle.agreement.proofs.Promises.{Took, took-item, took-none}
use Rattle.agreement.proofs.Views.{Fine, views}
use Rattle.agreement.proofs.Receiver.{same_ordered, now-expects, now-holds, now-seen}

never_refused : (s : Stream) (why : Refusal) → next_of s ≡ Err why → ⊥
unfolding next_of
never_refused s why =
    case (ltb (next_place s) s.stream.held) (λ q. rw q (λ e. let z : ◌≡◌ {A = ℕ} 0 1 = cc in omega arith))
    (λ q. rw q (λ e. let z : ◌≡◌ {A = ℕ} 0 1 = cc in omega arith))

module _ (l : Pair) (r : State) (ok : Fine l.receiving r) (output : List ℕ) (lent : Lent l.receiving output)
    (word : (seen l.receiving.fragment_size r.ordered l.stream).stream.expected_index.0 < 65536) where
  abbrev z : Sizes
  z = l.receiving

  abbrev f : ℕ
  f = l.receiving.fragment_size

  abbrev id : ℕ
  id = l.stream

  abbrev J : ℕ
  J = place_of r.ordered.counters.known l.stream

  abbrev S : Stream
  S = seen l.receiving.fragment_size r.ordered l.stream

  abbrev X : Taking
  X = take_of l.receiving r l.stream output

  open_is : X ≡ taken_by (next_on f r.ordered id) f r id output
  unfolding take_of
  open_is = rw (stays_open z r ok.range ok.kept output lent)

  module _ (here : J < r.ordered.counters.known.made) where
    four : r.ordered.counters.known.made ≤ 4
    four = few r.ordered.counters.known (ids_of f r.ordered ok.kept.ordered.whole) 0

    long : r.ordered.counters.known.made ≤ length r.ordered.counters.known.ids
    long = let y = ok.kept.ordered.whole.four_ids in let q = four in omega arith

    free : J < 4
    free = let q = four in omega arith

    here-is : (t : Result (Option ℕ) Refusal) → next_of S ≡ t → X ≡ taken_by t f r id output
    here-is t e = open_is ∙ ap (λ (y : Result (Option ℕ) Refusal). taken_by y f r id output) (next_here f r.ordered id long here ∙ e)

    good : Good f S
    good = state_good f r.ordered ok.kept.ordered.whole J free

    by : (t : Result (Option ℕ) Refusal) → next_of S ≡ t → Took l (views l) r X
    by (Err why) e = absurd (never_refused S why e)
    by (Ok None) e =
        let x = here-is (Ok None) e in
        took-none (ap (λ (y : Taking). y.answer) x) (held_is_a_map.nothing_is f S e) (same_ordered l r ok X.end (ap (λ (y : Taking). y.end.ordered) x))
    by (Ok (Some n)) e =
        let x = here-is (Ok (Some n)) e in
        let o : X.end.ordered ≡ stored_at f r.ordered J id (taken (Ok (Some n)) f S) = ap (λ (y : Taking). y.end.ordered) x in
        let fit = taken_fits f r.ordered ok.kept.ordered.whole J free (Ok (Some n)) e in
        let found = found_there S n e in
        let size : length (take n (drop (next_place S * f) S.bytes)) ≡ n =
        part_length S.bytes (next_place S * f) n
        (let a = slot_end (next_place S) 64 f (let q = good.room.few in let y = found.0 in omega arith) in
        let c = good.room.bytes in
        let g = good.room.short (next_place S) found.0 in
        let y = found.1 in omega arith) in
        took-item n (ap (λ (y : Taking). y.answer) x)
        (sym (held_is_a_map.taken_is f S n good e)
        ∙ ap (λ (y : List ℕ). Some y)
        (sym (ap (λ (y : Taking). take n y.output) x ∙ take_at (take n (drop (next_place S * f) S.bytes)) (drop (length (take n (drop (next_place S * f) S.bytes))) output) n size)))
        (now-expects l r ok free X.end _ fit o)
        (now-holds l r ok free X.end _ fit o S.stream.expected_index.0 ∙ held_is_a_map.taken_here f S n good word e)
        (λ y h ny. now-holds l r ok free X.end _ fit o y ∙ held_is_a_map.taken_elsewhere f S n y good word e h ny)
        (ap (λ (y : Stream). suc y.stream.held) (now-seen l r ok free X.end _ fit o) ∙ (let y = found.0 in omega arith))

  pub takes : Took l (views l) r X
  takes =
      ⊎_elim (λ (h : J < r.ordered.counters.known.made). by h (next_of S) refl)
      (λ (h : r.ordered.counters.known.made ≤ J).
      let x = open_is ∙ ap (λ (y : Result (Option ℕ) Refusal). taken_by y f r id output) (next_away f r.ordered id h) in
      took-none (ap (λ (y : Taking). y.answer) x) (none_held f S (fresh_at r.ordered.counters J h) S.stream.expected_index.0)
      (same_ordered l r ok X.end (ap (λ (y : Taking). y.end.ordered) x)))
      (lt_or_le J r.ordered.counters.known.made)
