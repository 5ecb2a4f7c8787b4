-- Where a number goes, and that it has nowhere to go exactly where N other numbers are in flight. Assumes nothing.
--     place_le       a place, or the number of places
--     place_means    the place has the number already, or is free
--     full_place     `full` is that there is no place
--     at_first, at_free, at_own     where a number goes, by the words of a column
--     full_none, full_some          by where one is found to go
use Rattle.std.proofs.Common.{◌≡◌, ℕ, zero, suc, ◌%◌, ◌<◌, ◌≤◌, true, false, not, ◌&&◌, eqb, ltb, ◌⊎◌, List, [], ◌∷◌, length, get_or, Some, None, refl, ◌∙◌, inl, inr, suc-le-suc, zero-le, le_of_suc-le-suc, not-suc-le-zero, mod-lt, arith, ltb-false, ltb-true, le-ltb, lt-ltb, eq-eqb, ne_eqb, eqb-true}
use borrow.Author.Tests.{eqb-false}
use Rattle.laws.proofs.Cases.{case}
use Rattle.keys.specs.Keys.{first_place, found}
use Rattle.key_parts.specs.Words.{no_packet}
use Rattle.flight.specs.Entry.{numbers_in}
use Rattle.flight.specs.Places.{first_free, place_of, others_of, full}
use Rattle.flight.proofs.Found.{found_is, found_none, first_le, first_at, first_here, first_later}
use Rattle.flight.proofs.Words.{numbers_length, number_here, none_here}

free_here : (x : ℕ) (l : List ℕ) → ltb x 65536 ≡ false → first_free (x ∷ l) ≡ 0
unfolding first_free
free_here x l e = rw e

free_later : (x : ℕ) (l : List ℕ) → ltb x 65536 ≡ true → first_free (x ∷ l) ≡ suc (first_free l)
unfolding first_free
free_later x l e = rw e

free_le : (l : List ℕ) → first_free l ≤ length l
unfolding first_free
free_le [] = zero-le
free_le (x ∷ l) = case (ltb x 65536) (λ e. rw e (suc-le-suc (free_le l))) (λ e. rw e zero-le)

free_at : (l : List ℕ) → first_free l < length l → 65536 ≤ get_or l (first_free l) 0
free_at [] h = absurd (not-suc-le-zero h)
free_at (x ∷ l) h =
    case (ltb x 65536)
    (λ e. let later = free_later x l e in rw later (free_at l (le_of_suc-le-suc (rw later at h))))
    (λ e. rw (free_here x l e) (ltb-false x 65536 e))

-- an entry is another number, or it is free, or it is the number
others_more : (n x : ℕ) (l : List ℕ) → ltb x 65536 ≡ true → eqb x n ≡ false → others_of n (x ∷ l) ≡ suc (others_of n l)
unfolding others_of
others_more n x l e q = rw (e, q)

others_free : (n x : ℕ) (l : List ℕ) → ltb x 65536 ≡ false → others_of n (x ∷ l) ≡ others_of n l
unfolding others_of
others_free n x l e = rw e

others_same : (n x : ℕ) (l : List ℕ) → ltb x 65536 ≡ true → eqb x n ≡ true → others_of n (x ∷ l) ≡ others_of n l
unfolding others_of
others_same n x l e q = rw (e, q)

others_le : (n : ℕ) (l : List ℕ) → others_of n l ≤ length l
unfolding others_of
others_le n [] = zero-le
others_le n (x ∷ l) =
    case (ltb x 65536 && not (eqb x n)) (λ e. rw e (suc-le-suc (others_le n l))) (λ e. rw e (omega (arith, others_le n l)))

-- every entry is another number
data Taken (n : ℕ) : List ℕ → Type 0 where
  none : Taken n []
  more : {x : ℕ} {l : List ℕ} → x < 65536 → (x ≡ n → ⊥) → Taken n l → Taken n (x ∷ l)

taken : (n : ℕ) (l : List ℕ) → others_of n l ≡ length l → Taken n l
taken n [] e = none
taken n (x ∷ l) e =
    case (ltb x 65536)
    (λ v.
    case (eqb x n)
    (λ q. absurd (omega (arith, e, others_same n x l v q, others_le n l)))
    (λ q. more (ltb-true x 65536 v) (eqb-false x n q) (taken n l (omega (arith, e, others_more n x l v q)))))
    (λ v. absurd (omega (arith, e, others_free n x l v, others_le n l)))

taken_first : (n : ℕ) (l : List ℕ) → Taken n l → first_place n l ≡ length l
unfolding first_place
taken_first n [] none = refl
taken_first n (x ∷ l) (more v q t) = rw (ne_eqb x n q, taken_first n l t)

taken_free : (n : ℕ) (l : List ℕ) → Taken n l → first_free l ≡ length l
unfolding first_free
taken_free n [] none = refl
taken_free n (x ∷ l) (more v q t) = rw (lt-ltb x 65536 v, taken_free n l t)

taken_at : (n : ℕ) (l : List ℕ) (k : ℕ) → Taken n l → k < length l → get_or l k 0 < 65536
taken_at n [] k none h = absurd (not-suc-le-zero h)
taken_at n (x ∷ l) zero (more v q t) h = v
taken_at n (x ∷ l) (suc k) (more v q t) h = taken_at n l k t (le_of_suc-le-suc h)

-- and it is so where neither the number nor a free place is found
none_found : (n : ℕ) (l : List ℕ) → first_place n l ≡ length l → first_free l ≡ length l → others_of n l ≡ length l
unfolding others_of
none_found n [] p f = refl
none_found n (x ∷ l) p f =
    case (eqb x n)
    (λ q. absurd (omega (arith, p, first_here n x l (eqb-true x n q))))
    (λ q.
    case (ltb x 65536)
    (λ v. rw (v, q, none_found n l (omega (arith, p, first_later n x l (eqb-false x n q))) (omega (arith, f, free_later x l v))))
    (λ v. absurd (omega (arith, f, free_here x l v))))

module _ (n : ℕ) (l : List ℕ) (some : 1 ≤ length l) where
  own : n % length l < length l
  own = mod-lt n {m = length l} some

  pub place_le : place_of n l ≤ length l
  unfolding place_of
  place_le =
      case (ltb (first_place n l) (length l))
      (λ e. rw e (first_le n l))
      (λ e.
      case (ltb (get_or l (n % length l) 0) 65536)
      (λ q. rw (e, q) (free_le l))
      (λ q. rw (e, q) (omega (arith, own))))

  pub place_means : place_of n l < length l → (get_or l (place_of n l) 0 ≡ n) ⊎ (65536 ≤ get_or l (place_of n l) 0)
  unfolding place_of
  place_means =
      case (ltb (first_place n l) (length l))
      (λ e. rw e (λ h. inl (first_at n l h)))
      (λ e.
      case (ltb (get_or l (n % length l) 0) 65536)
      (λ q. rw (e, q) (λ h. inr (free_at l h)))
      (λ q. rw (e, q) (λ h. inr (ltb-false (get_or l (n % length l) 0) 65536 q))))

  no_place : Taken n l → place_of n l ≡ length l
  unfolding place_of
  no_place t =
      rw (le-ltb (first_place n l) (length l) (omega (arith, taken_first n l t)), lt-ltb (get_or l (n % length l) 0) 65536 (taken_at n l (n % length l) t own))
      (taken_free n l t)

  all_taken : place_of n l ≡ length l → others_of n l ≡ length l
  unfolding place_of
  all_taken =
      case (ltb (first_place n l) (length l))
      (λ e. rw e (λ h. absurd (omega (arith, h, ltb-true (first_place n l) (length l) e))))
      (λ e.
      case (ltb (get_or l (n % length l) 0) 65536)
      (λ q. rw (e, q) (λ h. none_found n l (omega (arith, first_le n l, ltb-false (first_place n l) (length l) e)) h))
      (λ q. rw (e, q) (λ h. absurd (omega (arith, h, own)))))

  pub full_place : full n l ≡ eqb (place_of n l) (length l)
  full_place =
      case (full n l)
      (λ e. rw (e, eq-eqb (place_of n l) (length l) (no_place (taken n l (eqb-true (others_of n l) (length l) e)))))
      (λ e. rw (e, ne_eqb (place_of n l) (length l) (λ h. eqb-false (others_of n l) (length l) e (all_taken h))))

module _ (n : ℕ) (words : List ℕ) (some : 1 ≤ length words) where
  abbrev keys : List ℕ
  keys = numbers_in words

  pub at_first : first_place n (numbers_in words) < length words → first_place n (numbers_in words) ≡ place_of n (numbers_in words)
  unfolding place_of
  at_first h = rw (lt-ltb (first_place n keys) (length keys) (omega (arith, numbers_length words)))

  pub at_free : length words ≤ first_place n (numbers_in words) → get_or words (n % length words) 0 < no_packet → first_free (numbers_in words) ≡ place_of n (numbers_in words)
  unfolding place_of
  at_free h v =
      rw (
        le-ltb (first_place n keys) (length keys) (omega (arith, numbers_length words)),
        numbers_length words,
        lt-ltb (get_or keys (n % length words) 0) 65536 (number_here words (n % length words) (mod-lt n {m = length words} some) v),
      )

  pub at_own : length words ≤ first_place n (numbers_in words) → no_packet ≤ get_or words (n % length words) 0 → n % length words ≡ place_of n (numbers_in words)
  unfolding place_of
  at_own h v =
      rw (
        le-ltb (first_place n keys) (length keys) (omega (arith, numbers_length words)),
        numbers_length words,
        le-ltb (get_or keys (n % length words) 0) 65536 (none_here words (n % length words) (mod-lt n {m = length words} some) v),
      )

  -- a number has no place exactly where the table is full
  pub full_none : found (place_of n (numbers_in words)) (length words) ≡ None → full n (numbers_in words) ≡ true
  full_none e =
      let long = numbers_length words in
      let le = place_le n keys (omega arith) in
      let out = found_none (place_of n keys) (length words) e in
      full_place n keys (omega arith) ∙ eq-eqb (place_of n keys) (length keys) (omega arith)

  pub full_some : (at : ℕ) → found (place_of n (numbers_in words)) (length words) ≡ Some at
      → (full n (numbers_in words) ≡ false) × ((place_of n (numbers_in words) ≡ at) × (at < length words))
  full_some at e =
      let long = numbers_length words in
      let is = found_is (place_of n keys) (length words) at e in
      (full_place n keys (omega arith) ∙ ne_eqb (place_of n keys) (length keys) (λ q. omega (arith, is)), (is.0, omega (arith, is)))
