-- The first place of a key, from a place on. Assumes nothing.
--     first_here, first_past, first_end     what a search learns at a place
use mathlib.Core.Path.{◌≡◌, refl}
use mathlib.Core.Bool.{cond}
use mathlib.Core.List.{List, [], ◌∷◌}
use Prim.Native.Nat.{ℕ, suc, ◌+◌, ◌<◌}
use native.Mathlib.Numerals.{add-one}
use native.Mathlib.Omega.{arith}
use lib.ListN.{length, get_or, drop, drop_of_length-le}
use lib.Seq.{drop-cons}
use lib.Dec.{eqb}
use borrow.Author.Tests.{eq-eqb, ne_eqb}
use Rattle.keys.specs.Keys.{first_place}

-- what stands at a place, and the rest
cons : (k x : ℕ) (xs : List ℕ) → first_place k (x ∷ xs) ≡ cond (eqb x k) 0 (suc (first_place k xs))
unfolding first_place
cons k x xs = refl

nil : (k : ℕ) → first_place k [] ≡ 0
unfolding first_place
nil k = refl

module _ (k : ℕ) (l : List ℕ) (i : ℕ) (so_far : first_place k l ≡ i + first_place k (drop i l)) where
  pub first_here : i < length l → get_or l i 0 ≡ k → i ≡ first_place k l
  first_here h e =
      let z : first_place k (drop i l) ≡ 0 = rw (drop-cons l i 0 h, cons, eq-eqb (get_or l i 0) k e) in
      omega arith

  pub first_past : i < length l → (get_or l i 0 ≡ k → ⊥) → first_place k l ≡ i + 1 + first_place k (drop (i + 1) l)
  first_past h e =
      let z : first_place k (drop i l) ≡ suc (first_place k (drop (i + 1) l)) = rw (add-one, drop-cons l i 0 h, cons, ne_eqb (get_or l i 0) k e) in
      omega arith

  pub first_end : i ≡ length l → i ≡ first_place k l
  first_end h =
      let z : first_place k (drop i l) ≡ 0 = rw (drop_of_length-le l {i = i} (omega arith), nil) in
      omega arith
