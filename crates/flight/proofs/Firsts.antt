-- The first place of a number in a table that a call has changed. Assumes nothing.
--     first_min, first_absent             where a number stands, and where it does not
--     first_put, first_put_other          a number put at a place
--     first_kept, first_gone              entries emptied by a test
--     first_out                           a number taken from its place
use Rattle.std.proofs.Common.{◌≡◌, ℕ, zero, suc, ◌<◌, ◌≤◌, Bool, true, false, ◌&&◌, ◌||◌, eqb, ltb, List, [], ◌∷◌, map, length, get_or, set, refl, ap, ◌∙◌, suc-le-suc, zero-le, le_of_suc-le-suc, not-suc-le-zero, arith, lt-ltb, ne_eqb, eqb-true}
use mathlib.Core.Bool.{or-true}
use borrow.Author.Tests.{eqb-false}
use Rattle.laws.proofs.Cases.{case, both}
use Rattle.keys.specs.Keys.{first_place, occurs, twice}
use Rattle.sequence_buffer.specs.Buffer.{none, emptied}
use Rattle.flight.proofs.Found.{first_here, first_later}

pub first_min : (n : ℕ) (l : List ℕ) (j : ℕ) → j < length l → get_or l j 0 ≡ n → first_place n l ≤ j
first_min n [] j h e = absurd (not-suc-le-zero h)
first_min n (x ∷ l) zero h e = rw (first_here n x l e) zero-le
first_min n (x ∷ l) (suc j) h e =
    case (eqb x n)
    (λ q. rw (first_here n x l (eqb-true x n q)) zero-le)
    (λ q. rw (first_later n x l (eqb-false x n q)) (suc-le-suc (first_min n l j (le_of_suc-le-suc h) e)))

pub first_absent : (n : ℕ) (l : List ℕ) → occurs n l ≡ false → first_place n l ≡ length l
unfolding occurs first_place
first_absent n [] e = refl
first_absent n (x ∷ l) e =
    case (eqb x n)
    (λ q. both refl (rw q at e))
    (λ q. rw (q, first_absent n l (rw q at e)))

pub first_put : (n : ℕ) (l : List ℕ) (k : ℕ) → k < length l → k ≤ first_place n l → first_place n (set l k n) ≡ k
first_put n [] k h le = absurd (not-suc-le-zero h)
first_put n (x ∷ l) zero h le = first_here n n l refl
first_put n (x ∷ l) (suc k) h le =
    case (eqb x n)
    (λ q. absurd (not-suc-le-zero (rw (first_here n x l (eqb-true x n q)) at le)))
    (λ q.
    let apart = eqb-false x n q in
    rw (first_later n x (set l k n) apart, first_put n l k (le_of_suc-le-suc h) (le_of_suc-le-suc (rw (first_later n x l apart) at le))))

pub first_put_other : (m v : ℕ) (l : List ℕ) (k : ℕ) → k < length l → (get_or l k 0 ≡ m → ⊥) → (v ≡ m → ⊥) → first_place m (set l k v) ≡ first_place m l
first_put_other m v [] k h a b = absurd (not-suc-le-zero h)
first_put_other m v (x ∷ l) zero h a b = rw (first_later m v l b, first_later m x l a)
first_put_other m v (x ∷ l) (suc k) h a b =
    case (eqb x m)
    (λ q. rw (first_here m x (set l k v) (eqb-true x m q), first_here m x l (eqb-true x m q)))
    (λ q.
    let apart = eqb-false x m q in
    rw (first_later m x (set l k v) apart, first_later m x l apart, first_put_other m v l k (le_of_suc-le-suc h) a b))

module _ (t : ℕ → Bool) (m : ℕ) (number : m < 65536) where
  -- an entry that is not the number does not become it
  other : (x : ℕ) → (x ≡ m → ⊥) → emptied t x ≡ m → ⊥
  unfolding emptied
  other x apart = case (t x) (λ e. rw e (λ z. absurd (omega arith))) (λ e. rw e apart)

  same : t m ≡ false → emptied t m ≡ m
  unfolding emptied
  same e = rw e

  gone : (x : ℕ) → t m ≡ true → emptied t x ≡ m → ⊥
  unfolding emptied
  gone x e = case (eqb x m)
      (λ q. rw (eqb-true x m q, e) (λ z. absurd (omega arith)))
      (λ q. case (t x) (λ f. rw f (λ z. absurd (omega arith))) (λ f. rw f (eqb-false x m q)))

  pub first_kept : (l : List ℕ) → t m ≡ false → first_place m (map (emptied t) l) ≡ first_place m l
  first_kept [] e = refl
  first_kept (x ∷ l) e =
      case (eqb x m)
      (λ q.
      let here = eqb-true x m q in
      rw (first_here m (emptied t x) (map (emptied t) l) (ap (emptied t) here ∙ same e), first_here m x l here))
      (λ q.
      let apart = eqb-false x m q in
      rw (first_later m (emptied t x) (map (emptied t) l) (other x apart), first_later m x l apart, first_kept l e))

  pub first_gone : (l : List ℕ) → t m ≡ true → first_place m (map (emptied t) l) ≡ length l
  unfolding first_place
  first_gone [] e = refl
  first_gone (x ∷ l) e = rw (ne_eqb (emptied t x) m (gone x e), first_gone l e)

-- a number that stands once does not occur after its first place
pub once : (n x : ℕ) (l : List ℕ) → n < 65536 → x ≡ n → twice (x ∷ l) ≡ false → occurs n l ≡ false
unfolding twice
once n x l v e t = case (occurs n l) (λ q. both {b = (ltb x 65536 && occurs x l) || twice l} (rw (e, lt-ltb n 65536 v, q)) t) (λ q. q)

pub rest_once : (x : ℕ) (l : List ℕ) → twice (x ∷ l) ≡ false → twice l ≡ false
unfolding twice
rest_once x l t = case (twice l) (λ q. both {b = (ltb x 65536 && occurs x l) || twice l} (rw (q, or-true)) t) (λ q. q)

pub first_out : (n : ℕ) (l : List ℕ) → n < 65536 → twice l ≡ false → first_place n l < length l → first_place n (set l (first_place n l) none) ≡ length l
first_out n [] v t h = absurd (not-suc-le-zero h)
first_out n (x ∷ l) v t h =
    case (eqb x n)
    (λ q.
    let here = eqb-true x n q in
    rw (first_here n x l here, first_later n none l (λ z. omega arith), first_absent n l (once n x l v here t)))
    (λ q.
    let apart = eqb-false x n q in
    let later = first_later n x l apart in
    rw (later, first_later n x (set l (first_place n l) none) apart, first_out n l v (rest_once x l t) (le_of_suc-le-suc (rw later at h))))
