-- Lists of numbers by place, and a loop that maps one in place. Assumes nothing.
--     map_at         what stands at a place of a mapped list
--     partly-..      a loop that maps a list in place from the front: after i turns it is `partly f i s`
--     drop_back      what a loop from the back reads next
use mathlib.Core.Path.{◌≡◌, refl, ap, ◌∙◌}
use mathlib.Core.List.{List, [], ◌∷◌, map}
use Prim.Native.Nat.{ℕ, zero, suc, ◌+◌, ◌-◌, ◌≤◌, ◌<◌}
use native.Mathlib.Nat.{not-suc-le-zero, le_of_suc-le-suc}
use native.Mathlib.Numerals.{add-one}
use native.Mathlib.Omega.{arith}
use lib.ListN.{length, get_or, set, drop}
use lib.Seq.{drop-cons}

pub map_at : (f : ℕ → ℕ) (l : List ℕ) (i : ℕ) → i < length l → get_or (map f l) i 0 ≡ f (get_or l i 0)
map_at f [] i h = absurd (not-suc-le-zero h)
map_at f (x ∷ l) zero h = refl
map_at f (x ∷ l) (suc i) h = map_at f l i (le_of_suc-le-suc h)

abbrev pub partly : (ℕ → ℕ) → ℕ → List ℕ → List ℕ
partly f zero s = s
partly f (suc i) [] = []
partly f (suc i) (x ∷ s) = f x ∷ partly f i s

-- what the next turn reads
pub partly_at : (f : ℕ → ℕ) (i : ℕ) (s : List ℕ) → get_or (partly f i s) i 0 ≡ get_or s i 0
partly_at f zero s = refl
partly_at f (suc i) [] = refl
partly_at f (suc i) (x ∷ s) = partly_at f i s

more : (f : ℕ → ℕ) (i : ℕ) (s : List ℕ) → i < length s → set (partly f i s) i (f (get_or s i 0)) ≡ partly f (suc i) s
more f i [] h = absurd (not-suc-le-zero h)
more f zero (x ∷ s) h = refl
more f (suc i) (x ∷ s) h = ap (λ (t : List ℕ). f x ∷ t) (more f i s (le_of_suc-le-suc h))

-- a turn that stores f of what it read
pub partly_more : (f : ℕ → ℕ) (i : ℕ) (s now : List ℕ) → now ≡ partly f i s → i < length s → set now i (f (get_or now i 0)) ≡ partly f (i + 1) s
partly_more f i s now e h = rw (e, partly_at f i s, add-one) (more f i s h)

-- at the end
pub partly_all : (f : ℕ → ℕ) (i : ℕ) (s : List ℕ) → length s ≤ i → partly f i s ≡ map f s
partly_all f zero [] h = refl
partly_all f (suc i) [] h = refl
partly_all f zero (x ∷ s) h = absurd (not-suc-le-zero h)
partly_all f (suc i) (x ∷ s) h = ap (λ (t : List ℕ). f x ∷ t) (partly_all f i s (le_of_suc-le-suc h))

pub drop_back : (l : List ℕ) (i : ℕ) → 0 < i → i ≤ length l → drop (i - 1) l ≡ get_or l (i - 1) 0 ∷ drop i l
drop_back l i some h =
    let e : suc (i - 1) ≡ i = omega arith in
    drop-cons l (i - 1) 0 (omega arith) ∙ ap (λ (k : ℕ). get_or l (i - 1) 0 ∷ drop k l) e
