-- Lengths that are all at most f, passed one by one; and place by place. Assumes nothing.
use Prim.Native.Nat.{ℕ, zero, suc, ◌+◌, ◌≤◌, ◌<◌, zero-le, suc-le-suc}
use mathlib.Core.Path.{◌≡◌, refl, ◌∙◌}
use mathlib.Core.List.{List, [], ◌∷◌}
use mathlib.Core.Bool.{true, ◌&&◌}
use native.Mathlib.Nat.{le_of_suc-le-suc, not-suc-le-zero}
use mathlib.Core.Logic.{⊎_elim}
use Prim.Native.Nat.{max}
use native.Mathlib.Numerals.{add-one}
use native.Mathlib.Omega.{arith}
use lib.Dec.{leb}
use lib.ListN.{length, get_or, drop, drop_of_length-le}
use lib.Seq.{drop-cons}
use borrow.Author.Tests.{le-leb, leb-true}
use Rattle.laws.proofs.Cases.{case, both, lt_or_le}
use Rattle.ordering_plan.specs.Gate.{all_fit}

cons : (f n : ℕ) (ns : List ℕ) → all_fit f (n ∷ ns) ≡ (leb n f && all_fit f ns)
unfolding all_fit
cons f n ns = refl

-- the longest of those passed stands for them all
module _ (f : ℕ) (l : List ℕ) (i m : ℕ) (so_far : all_fit f l ≡ (leb m f && all_fit f (drop i l))) (here : i < length l) where
  at_turn : all_fit f (drop i l) ≡ (leb (get_or l i 0) f && all_fit f (drop (i + 1) l))
  at_turn = rw (add-one, drop-cons l i 0 here, cons)

  fits_longer : m < get_or l i 0 → all_fit f l ≡ (leb (get_or l i 0) f && all_fit f (drop (i + 1) l))
  fits_longer h =
      so_far ∙ rw at_turn
      (case (leb m f) (λ e. rw e)
      (λ e. case (leb (get_or l i 0) f) (λ g. both (le-leb m f (omega (arith, leb-true (get_or l i 0) f g))) e) (λ g. rw (e, g))))

  fits_shorter : get_or l i 0 ≤ m → all_fit f l ≡ (leb m f && all_fit f (drop (i + 1) l))
  fits_shorter h =
      so_far ∙ rw at_turn
      (case (leb m f) (λ e. rw (e, le-leb (get_or l i 0) f (omega (arith, leb-true m f e)))) (λ e. rw e))

  pub fits_step : all_fit f l ≡ (leb (max m (get_or l i 0)) f && all_fit f (drop (i + 1) l))
  fits_step =
      ⊎_elim (λ h. let e : max m (get_or l i 0) ≡ get_or l i 0 = omega arith in rw e (fits_longer h))
      (λ h. let e : max m (get_or l i 0) ≡ m = omega arith in rw e (fits_shorter h))
      (lt_or_le m (get_or l i 0))

pub fits_end : (f : ℕ) (l : List ℕ) (i : ℕ) → length l ≤ i → all_fit f (drop i l) ≡ true
unfolding all_fit
fits_end f l i h = rw (drop_of_length-le l {i = i} h)

pub fits_at : (f : ℕ) (l : List ℕ) → all_fit f l ≡ true → (k : ℕ) → k < length l → get_or l k 0 ≤ f
unfolding all_fit
fits_at f [] e k h = absurd (not-suc-le-zero h)
fits_at f (n ∷ ns) e zero h = leb-true n f (case (leb n f) (λ g. g) (λ g. both (rw g at e) refl))
fits_at f (n ∷ ns) e (suc k) h = fits_at f ns (case (leb n f) (λ g. rw g at e) (λ g. both (rw g at e) refl)) k (le_of_suc-le-suc h)

pub at_fits : (f : ℕ) (l : List ℕ) → ((k : ℕ) → k < length l → get_or l k 0 ≤ f) → all_fit f l ≡ true
unfolding all_fit
at_fits f [] h = refl
at_fits f (n ∷ ns) h = rw (le-leb n f (h 0 (suc-le-suc zero-le))) (at_fits f ns (λ k p. h (suc k) (suc-le-suc p)))
