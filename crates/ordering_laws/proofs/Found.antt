-- What a stream holds, by places. Assumes nothing.
--     place_at, place_of_lem        the place of an index that is held
--     at_found, at_absent       what is held at an index, by its place
--     same_held                 two streams that hold the same at an index
use Prim.Native.Nat.{ℕ, ◌≤◌, ◌<◌}
use mathlib.Core.Path.{◌≡◌, sym, ap, ◌∙◌}
use mathlib.Core.Logic.{◌⊎◌, inl, inr, ⊎_elim}
use native.Mathlib.Nat.{lt_irrefl, lt_of_lt_of_le}
use native.Mathlib.Omega.{arith}
use borrow.Author.Tests.{eqb-true, eqb-false, le-ltb, lt-ltb}
use lib.Dec.{eqb}
use lib.ListN.{length, get_or, take}
use lib.Seq.{length-take-le, get_or-take}
use Rattle.std.specs.Prelude.{Some, None}
use Rattle.laws.proofs.Cases.{case, lt_or_le}
use Rattle.keys.proofs.First.{first_at, first_min}
use Rattle.ordering_plan.specs.State.{State, place_of}
use Rattle.ordering_laws.specs.Held.{bytes_at, held_at, Good}

pub same? : (a b : ℕ) → (a ≡ b) ⊎ (a ≡ b → ⊥)
same? a b = case (eqb a b) (λ e. inl (eqb-true a b e)) (λ e. inr (eqb-false a b e))

module _ (f : ℕ) (s : State) (g : Good f s) where
  keys_length : length (take s.stream.held s.index) ≡ s.stream.held
  keys_length = length-take-le s.stream.held s.index (let r = g.room in omega arith)

  pub place_at : (x : ℕ) → place_of s.stream s.index x < s.stream.held → get_or s.index (place_of s.stream s.index x) 0 ≡ x
  place_at x h =
      sym (get_or-take s.stream.held s.index (place_of s.stream s.index x) 0 h)
      ∙ first_at x (take s.stream.held s.index) (rw keys_length h)

  pub place_of_lem : (x k : ℕ) → x < 65536 → k < s.stream.held → get_or s.index k 0 ≡ x → place_of s.stream s.index x ≡ k
  place_of_lem x k small h e =
      let m : place_of s.stream s.index x ≤ k = first_min x (take s.stream.held s.index) k (rw keys_length h) (get_or-take s.stream.held s.index k 0 h ∙ e) in
      let here : get_or s.index (place_of s.stream s.index x) 0 ≡ x = place_at x (omega arith) in
      g.once (place_of s.stream s.index x) k (omega arith) h (omega arith) (here ∙ sym e)

  pub at_found : (x k : ℕ) → x < 65536 → k < s.stream.held → get_or s.index k 0 ≡ x → held_at f s x ≡ Some (bytes_at f s k)
  unfolding held_at
  at_found x k small h e = rw (place_of_lem x k small h e, lt-ltb k s.stream.held h)

  pub at_absent : (x : ℕ) → ((k : ℕ) → k < s.stream.held → get_or s.index k 0 ≡ x → ⊥) → held_at f s x ≡ None
  unfolding held_at
  at_absent x away =
      ⊎_elim (λ h. absurd (away (place_of s.stream s.index x) h (place_at x h)))
      (λ h. rw (le-ltb (place_of s.stream s.index x) s.stream.held h))
      (lt_or_le (place_of s.stream s.index x) s.stream.held)

  pub found? : (x : ℕ) → x < 65536
      → ((k : ℕ) × (k < s.stream.held) × (get_or s.index k 0 ≡ x)) ⊎ ((k : ℕ) → k < s.stream.held → get_or s.index k 0 ≡ x → ⊥)
  found? x small =
      ⊎_elim (λ h. inl (place_of s.stream s.index x, h, place_at x h))
      (λ h. inr (λ k l e. lt_irrefl k (lt_of_lt_of_le l (rw (place_of_lem x k small l e) at h))))
      (lt_or_le (place_of s.stream s.index x) s.stream.held)

-- where the first has x, the second has the same bytes; where it has it not, neither has the second
module _ (f : ℕ) (s s' : State) (g : Good f s) (g' : Good f s') where
  pub same_held : (x : ℕ) → x < 65536
      → ((k : ℕ) → k < s.stream.held → get_or s.index k 0 ≡ x → (j : ℕ) × (j < s'.stream.held) × (get_or s'.index j 0 ≡ x) × (bytes_at f s' j ≡ bytes_at f s k))
      → (((k : ℕ) → k < s.stream.held → get_or s.index k 0 ≡ x → ⊥) → (k : ℕ) → k < s'.stream.held → get_or s'.index k 0 ≡ x → ⊥)
      → held_at f s' x ≡ held_at f s x
  same_held x small there gone =
      ⊎_elim
      (λ h.
      let w = there h.0 h.1 h.2 in
      at_found f s' g' x w.0 small w.1 w.2 ∙ ap Some w.3 ∙ sym (at_found f s g x h.0 small h.1 h.2))
      (λ h. at_absent f s' g' x (gone h) ∙ sym (at_absent f s g x h))
      (found? f s g x small)
