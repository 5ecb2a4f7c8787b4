-- The pieces of a payload: how many they are, which bytes each has, and that in order they are the payload.
-- Assumes nothing.
use mathlib.Core.Path.{◌≡◌, refl, sym, ap, ◌∙◌}
use mathlib.Core.Logic.{⊎_elim}
use mathlib.Core.List.{List, [], ◌∷◌, ◌++◌, flatten}
use Prim.Native.Nat.{ℕ, zero, suc, ◌+◌, ◌-◌, ◌*◌, ◌≤◌, ◌<◌}
use native.Mathlib.Nat.{zero-mul, suc-mul, zero-div, zero-mod, div-eq_of_lt, mod-eq_of_lt, div-eq-sub-div, mod-eq-sub-mod, not-suc-le-zero, le_of_suc-le-suc}
use native.Mathlib.Omega.{arith}
use lib.ListN.{length, get_or, take, drop, length-take, length-drop, take-append-drop}
use lib.Seq.{take-nil, drop-nil, drop-drop, length-take-le}
use borrow.Author.Tests.{lt-ltb}
use Rattle.laws.proofs.Cases.{lt_or_le}
use Rattle.splitter.specs.Split.{cut, pieces, needed, Splits}

none_needed : (f : ℕ) → needed 0 f ≡ 0
unfolding needed
none_needed f = rw (zero-div f, zero-mod f)

one_needed : (n f : ℕ) → suc n < f → needed (suc n) f ≡ 1
unfolding needed
one_needed n f l = rw (div-eq_of_lt l, mod-eq_of_lt l, lt-ltb 0 (suc n) (omega arith))

more_needed : (n f : ℕ) → 1 ≤ f → f ≤ n → needed n f ≡ suc (needed (n - f) f)
unfolding needed
more_needed n f some l = rw (div-eq-sub-div some l, mod-eq-sub-mod l) (omega arith)

-- a payload that is not empty has one piece more than what is left of it after f bytes
needed_step : (n f : ℕ) → 1 ≤ f → needed (suc n) f ≡ suc (needed (suc n - f) f)
needed_step n f some =
    ⊎_elim
    (λ l. let z : suc n - f ≡ 0 = omega arith in rw (z, none_needed f) (one_needed n f l))
    (λ l. more_needed (suc n) f some l)
    (lt_or_le (suc n) f)

-- a piece begins inside the payload
pub begins : (f j n : ℕ) → 1 ≤ f → j < needed n f → j * f < n
begins f zero zero some h = absurd (not-suc-le-zero (rw (none_needed f) at h))
begins f zero (suc n) some h = rw (zero-mul f) (omega arith)
begins f (suc j) zero some h = absurd (not-suc-le-zero (rw (none_needed f) at h))
begins f (suc j) (suc n) some h =
    rw (suc-mul j f) (omega (arith, begins f j (suc n - f) some (le_of_suc-le-suc (rw (needed_step n f some) at h))))

counted : (most f : ℕ) (l : List ℕ) → 1 ≤ f → length l ≤ most → length (cut most f l) ≡ needed (length l) f
unfolding cut
counted zero f [] some h = sym (none_needed f)
counted zero f (x ∷ l) some h = absurd (not-suc-le-zero h)
counted (suc most) f [] some h = sym (none_needed f)
counted (suc most) f (x ∷ l) some h =
    let d = length-drop f (x ∷ l) in
    ap suc (counted most f (drop f (x ∷ l)) some (omega arith) ∙ ap (λ (n : ℕ). needed n f) d) ∙ sym (needed_step (length l) f some)

-- the bytes of a piece; past the last there are none
at : (most f : ℕ) (l : List ℕ) (j : ℕ) → 1 ≤ f → length l ≤ most → get_or (cut most f l) j [] ≡ take f (drop (j * f) l)
unfolding cut
at zero f [] j some h = rw (drop-nil {A = ℕ} (j * f), take-nil {A = ℕ} f)
at zero f (x ∷ l) j some h = absurd (not-suc-le-zero h)
at (suc most) f [] j some h = rw (drop-nil {A = ℕ} (j * f), take-nil {A = ℕ} f)
at (suc most) f (x ∷ l) zero some h = rw (zero-mul f)
at (suc most) f (x ∷ l) (suc j) some h =
    let d = length-drop f (x ∷ l) in
    let e : f + j * f ≡ suc j * f = omega (arith, suc-mul j f) in
    at most f (drop f (x ∷ l)) j some (omega arith) ∙ ap (take f) (drop-drop (j * f) f (x ∷ l) ∙ ap (λ (n : ℕ). drop n (x ∷ l)) e)

whole : (most f : ℕ) (l : List ℕ) → 1 ≤ f → length l ≤ most → flatten (cut most f l) ≡ l
unfolding cut flatten
whole zero f [] some h = refl
whole zero f (x ∷ l) some h = absurd (not-suc-le-zero h)
whole (suc most) f [] some h = refl
whole (suc most) f (x ∷ l) some h =
    let d = length-drop f (x ∷ l) in
    ap (λ (t : List ℕ). take f (x ∷ l) ++ t) (whole most f (drop f (x ∷ l)) some (omega arith)) ∙ take-append-drop f (x ∷ l)

module _ (f : ℕ) (l : List ℕ) (some : 1 ≤ f) where
  pub piece_at : (j : ℕ) → get_or (pieces f l) j [] ≡ take f (drop (j * f) l)
  piece_at j = at (length l) f l j some (omega arith)

  pub piece_count : length (pieces f l) ≡ needed (length l) f
  piece_count = counted (length l) f l some (omega arith)

  piece_some : (j : ℕ) → j < length (pieces f l) → (1 ≤ length (get_or (pieces f l) j [])) × (length (get_or (pieces f l) j []) ≤ f)
  piece_some j h =
      let n = begins f j (length l) some (rw piece_count at h) in
      rw (piece_at j) (simp (length-take, length-drop) (omega arith))

  pub piece_full : (j : ℕ) → suc j < length (pieces f l) → length (get_or (pieces f l) j []) ≡ f
  piece_full j h =
      rw (piece_at j)
      (length-take-le f (drop (j * f) l) (omega (arith, length-drop (j * f) l, suc-mul j f, begins f (suc j) (length l) some (rw piece_count at h))))

pub splits : Splits
splits = record {
  whole = λ f l some. whole (length l) f l some (omega arith);
  count = piece_count;
  some = piece_some;
  full = piece_full;
  place = piece_at;
}
