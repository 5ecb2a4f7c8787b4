-- What the first place of a key says of the column. Assumes nothing.
--     first_le, first_at     it is at most the length, and below that the key stands there
--     first_min              no place before it has the key
use mathlib.Core.Path.{◌≡◌, refl}
use mathlib.Core.Bool.{Bool, true, false, cond}
use mathlib.Core.List.{List, [], ◌∷◌}
use Prim.Native.Nat.{ℕ, zero, suc, ◌≤◌, ◌<◌, zero-le, suc-le-suc}
use native.Mathlib.Nat.{not-suc-le-zero, le_of_suc-le-suc}
use lib.Dec.{eqb}
use lib.ListN.{length, get_or}
use borrow.Author.Tests.{eq-eqb, eqb-true}
use Rattle.keys.specs.Keys.{first_place}

pub first_le : (k : ℕ) (l : List ℕ) → first_place k l ≤ length l
unfolding first_place
first_le k [] = zero-le
first_le k (x ∷ xs) = go (eqb x k) (first_le k xs)
  where
    go : (b : Bool) → first_place k xs ≤ length xs → cond b 0 (suc (first_place k xs)) ≤ suc (length xs)
    go true h = zero-le
    go false h = suc-le-suc h

pub first_at : (k : ℕ) (l : List ℕ) → first_place k l < length l → get_or l (first_place k l) 0 ≡ k
unfolding first_place
first_at k [] h = absurd (not-suc-le-zero h)
first_at k (x ∷ xs) h = go (eqb x k) refl h (first_at k xs)
  where
    go : (b : Bool) → eqb x k ≡ b → cond b 0 (suc (first_place k xs)) < suc (length xs)
        → (first_place k xs < length xs → get_or xs (first_place k xs) 0 ≡ k) → get_or (x ∷ xs) (cond b 0 (suc (first_place k xs))) 0 ≡ k
    go true e h r = eqb-true x k e
    go false e h r = r (le_of_suc-le-suc h)

pub first_min : (k : ℕ) (l : List ℕ) (j : ℕ) → j < length l → get_or l j 0 ≡ k → first_place k l ≤ j
unfolding first_place
first_min k [] j h e = zero-le
first_min k (x ∷ xs) zero h e = rw (eq-eqb x k e) zero-le
first_min k (x ∷ xs) (suc j) h e = go (eqb x k) (first_min k xs j (le_of_suc-le-suc h) e)
  where
    go : (b : Bool) → first_place k xs ≤ j → cond b 0 (suc (first_place k xs)) ≤ suc j
    go true h = zero-le
    go false h = suc-le-suc h
