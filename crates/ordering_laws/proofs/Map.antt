-- What is held is a map: the laws of putting and taking, from what is planned and found. Assumes nothing.
use Prim.Native.Nat.{ℕ, ◌<◌}
use mathlib.Core.Path.{◌≡◌, refl, sym, ◌∙◌}
use mathlib.Core.List.{List}
use mathlib.Core.Logic.{⊎_elim}
use native.Mathlib.Omega.{arith}
use borrow.Author.Tests.{le-ltb, lt-ltb}
use lib.ListN.{get_or}
use Rattle.std.specs.Prelude.{Ok, Some, None}
use Rattle.laws.proofs.Cases.{lt_or_le}
use Rattle.ordering_plan.specs.State.{State}
use Rattle.ordering_plan.specs.Arrange.{arranged}
use Rattle.ordering.specs.Take.{next_place, next_of, taken_out}
use Rattle.ordering_plan.specs.declared.Arranged.TheVariants.{Out}
use Rattle.ordering_plan.proofs.Planned.{held_place}
use Rattle.ordering.proofs.Next.{next_none, next_item}
use Rattle.ordering_laws.specs.Held.{held_at, Good, HeldIsAMap}
use Rattle.ordering_laws.proofs.Put.{put_found, put_other}
use Rattle.ordering_laws.proofs.Removed.{left_here, left_other}

-- where an item is found it is held, with the length that is told
pub found_there : (s : State) (n : ℕ) → next_of s ≡ Ok (Some n) → (next_place s < s.stream.held) × (get_or s.lengths (next_place s) 0 ≡ n)
found_there s n e =
    ⊎_elim (λ h. let w : Ok (Some (get_or s.lengths (next_place s) 0)) ≡ Ok (Some n) = sym (next_item s (next_place s) refl h) ∙ e in (h, cc))
    (λ h. absurd (let w : (Ok None) ≡ Ok (Some n) = sym (next_none s (next_place s) refl h) ∙ e in let z : ◌≡◌ {A = ℕ} 0 1 = cc in omega arith))
    (lt_or_le (next_place s) s.stream.held)

pub none_there : (f : ℕ) (s : State) → next_of s ≡ Ok None → held_at f s s.stream.expected_index.0 ≡ None
unfolding held_at
none_there f s e =
    ⊎_elim (λ h. absurd (let w : Ok (Some (get_or s.lengths (next_place s) 0)) ≡ (Ok None) = sym (next_item s (next_place s) refl h) ∙ e in let z : ◌≡◌ {A = ℕ} 0 1 = cc in omega arith))
    (λ h. rw (le-ltb (next_place s) s.stream.held h))
    (lt_or_le (next_place s) s.stream.held)

pub out_held : (f : ℕ) (s : State) (i : ℕ) (p : List ℕ) (y : ℕ) → held_at f (arranged (Ok Out) f i p s) y ≡ held_at f s y
unfolding held_at
out_held f s i p y = refl

pub taken_held : (f : ℕ) (s : State) (n : ℕ) → Good f s → next_of s ≡ Ok (Some n) → taken_out (Ok (Some n)) f s ≡ held_at f s s.stream.expected_index.0
unfolding held_at
taken_held f s n g e =
    let h = found_there s n e in
    rw (lt-ltb (next_place s) s.stream.held h.0, h.1)

pub held_is_a_map : HeldIsAMap
held_is_a_map =
    record {
      put_here = λ f s i k p g small fits e.
          let h = held_place s.stream s.index i k g.room.few g.room.indices (sym e) in
          rw h.0 (put_found f s g i p (rw (sym h.0) h.1) fits small);
      put_elsewhere = λ f s i k p y g small fits e low ne.
          let h = held_place s.stream s.index i k g.room.few g.room.indices (sym e) in
          rw h.0 (put_other f s g i p (rw (sym h.0) h.1) fits y low ne);
      out_elsewhere = out_held;
      taken_is = taken_held;
      taken_here = λ f s n g small e. left_here f s g n (found_there s n e).0 small;
      taken_elsewhere = λ f s n y g small e low ne. left_other f s g n (found_there s n e).0 y low ne;
      nothing_is = none_there;
    }
