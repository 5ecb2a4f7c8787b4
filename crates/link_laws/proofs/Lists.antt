-- What a store, a copy and a fresh table leave of a list. Assumes nothing.
use Prim.Native.Nat.{ℕ, zero, suc, ◌+◌, ◌*◌, ◌/◌, ◌%◌, ◌≤◌, ◌<◌}
use mathlib.Core.Path.{◌≡◌, refl, ap}
use mathlib.Core.List.{List, [], ◌∷◌, ◌++◌}
use mathlib.Core.Logic.{⊎_elim}
use native.Mathlib.Nat.{le_refl, le_of_suc-le-suc, not-suc-le-zero, div-add-mod', mod-lt, mul-le-mul_right, suc-mul}
use native.Mathlib.Omega.{arith}
use lib.Dec.{ltb}
use lib.ListN.{length, get_or, set, take, drop, replicate, length-append, length-drop}
use lib.Seq.{paste, length_paste_head, take_all}
use borrow.Author.Tests.{ltb-false}
use Rattle.laws.proofs.Cases.{case, lt_or_le}
use Rattle.splitter.specs.Split.{needed}

-- what held of every entry holds of every entry after a store
pub set_each : {A : Type 0} (P : A → Type 0) (d : A) (l : List A) (j : ℕ) (t : A) → P t → ((k : ℕ) → P (get_or l k d)) → (k : ℕ) → P (get_or (set l j t) k d)
set_each P d [] j t new old k = old k
set_each P d (x ∷ l) zero t new old zero = new
set_each P d (x ∷ l) zero t new old (suc k) = old (suc k)
set_each P d (x ∷ l) (suc j) t new old zero = old zero
set_each P d (x ∷ l) (suc j) t new old (suc k) = set_each P d l j t new (λ i. old (suc i)) k

-- of equal entries each is the one
pub replicate_each : {A : Type 0} (P : A → Type 0) (x : A) (n : ℕ) → P x → (k : ℕ) → P (get_or (replicate n x) k x)
replicate_each P x zero h k = h
replicate_each P x (suc n) h zero = h
replicate_each P x (suc n) h (suc k) = replicate_each P x n h k

pub take_replicate : {A : Type 0} (x : A) (n m : ℕ) → n ≤ m → take n (replicate m x) ≡ replicate n x
take_replicate x zero m h = refl
take_replicate x (suc n) zero h = absurd (not-suc-le-zero h)
take_replicate x (suc n) (suc m) h = ap (λ (l : List _). x ∷ l) (take_replicate x n m (le_of_suc-le-suc h))

pub take_long : (n : ℕ) (l : List ℕ) → length (take n l) ≡ n → n ≤ length l
take_long n l e =
    ⊎_elim (λ (h : length l < n). let q : length l ≡ n = rw (take_all n l (omega arith)) at e in omega arith) (λ (h : n ≤ length l). h) (lt_or_le (length l) n)

-- a copy makes a list no shorter
pub paste_long : (d : List ℕ) (at : ℕ) (s : List ℕ) → length d ≤ length (paste d at s (length s))
paste_long d at s =
    ⊎_elim
    (λ (h : length d < at).
    rw (length-append (take at d ++ take (length s) s) (drop (at + length s) d), length-append (take at d) (take (length s) s), take_all at d (omega arith))
    (omega arith))
    (λ (h : at ≤ length d).
    rw (length-append (take at d ++ take (length s) s) (drop (at + length s) d), length_paste_head d at s (length s) h (le_refl (length s)), length-drop (at + length s) d)
    (omega arith))
    (lt_or_le (length d) at)

-- a payload of at most m pieces has at most m f bytes
pub few_pieces : (n f m : ℕ) → 1 ≤ f → needed n f ≤ m → n ≤ m * f
unfolding needed
few_pieces n f m some h =
    let whole = div-add-mod' n f in
    let part : n % f < f = mod-lt n {m = f} some in
    case (ltb 0 (n % f))
    (λ e. let few : suc (n / f) ≤ m = omega (arith, rw e at h) in omega (arith, mul-le-mul_right {m = suc (n / f)} {n = m} f few, suc-mul (n / f) f))
    (λ e. let few : n / f ≤ m = omega (arith, rw e at h) in omega (arith, mul-le-mul_right {m = n / f} {n = m} f few, ltb-false 0 (n % f) e))
