-- Where a number stands, and what is known of its entry. Assumes nothing.
--     found_at, found_out, found_is, found_none     a place that was found
--     first_le, first_at     the first place of a key
--     least_found            the least lost number stands in the table
--     fits_at                a recorded length is not over its slot
use Rattle.std.proofs.Common.{◌≡◌, ℕ, zero, suc, ◌<◌, ◌≤◌, true, false, ◌&&◌, eqb, ltb, ◌⊎◌, List, [], ◌∷◌, length, get_or, sym, inl, inr, ⊎_elim, suc-le-suc, zero-le, le_of_suc-le-suc, not-suc-le-zero, arith, Some, None, lt-ltb, le-ltb, ltb-true, ltb-false, eq-eqb, ne_eqb, eqb-true}
use mathlib.Core.Bool.{or-true}
use borrow.Author.Tests.{eqb-false}
use Rattle.laws.proofs.Cases.{case, both, lt_or_le}
use Rattle.key_parts.specs.Words.{no_packet}
use Rattle.keys.specs.Keys.{first_place, found}
use Rattle.flight.specs.Entry.{length_of}
use Rattle.flight.specs.Places.{over_long}
use Rattle.flight.specs.Lost.{is_lost, least_lost}

module _ (at n : ℕ) where
  pub found_at : at < n → found at n ≡ Some at
  found_at h = rw (lt-ltb at n h)

  pub found_out : n ≤ at → found at n ≡ None
  found_out h = rw (le-ltb at n h)

  pub found_is : (j : ℕ) → found at n ≡ Some j → (at ≡ j) × (at < n)
  found_is j = case (ltb at n) (λ e. rw e (λ q. (cc, ltb-true at n e))) (λ e. rw e (λ q. absurd (let z : ◌≡◌ {A = ℕ} 0 1 = cc in omega arith)))

  pub found_none : found at n ≡ None → n ≤ at
  found_none = case (ltb at n) (λ e. rw e (λ q. absurd (let z : ◌≡◌ {A = ℕ} 0 1 = cc in omega arith))) (λ e q. ltb-false at n e)

pub first_here : (k x : ℕ) (l : List ℕ) → x ≡ k → first_place k (x ∷ l) ≡ 0
unfolding first_place
first_here k x l e = rw (eq-eqb x k e)

pub first_later : (k x : ℕ) (l : List ℕ) → (x ≡ k → ⊥) → first_place k (x ∷ l) ≡ suc (first_place k l)
unfolding first_place
first_later k x l e = rw (ne_eqb x k e)

pub first_le : (k : ℕ) (l : List ℕ) → first_place k l ≤ length l
unfolding first_place
first_le k [] = zero-le
first_le k (x ∷ l) = case (eqb x k) (λ e. rw e zero-le) (λ e. rw e (suc-le-suc (first_le k l)))

pub first_at : (k : ℕ) (l : List ℕ) → first_place k l < length l → get_or l (first_place k l) 0 ≡ k
first_at k [] h = absurd (not-suc-le-zero h)
first_at k (x ∷ l) h =
    case (eqb x k)
    (λ e. rw (first_here k x l (eqb-true x k e)) (eqb-true x k e))
    (λ e.
    let later = first_later k x l (eqb-false x k e) in
    rw later (first_at k l (le_of_suc-le-suc (rw later at h))))

-- the least of a table is its first entry, or the least of the rest
least_of : (remote x : ℕ) (l : List ℕ) → (least_lost remote (x ∷ l) ≡ x) ⊎ (least_lost remote (x ∷ l) ≡ least_lost remote l)
unfolding least_lost
least_of remote x l = case (ltb x (least_lost remote l) && is_lost remote x) (λ e. inl (rw e)) (λ e. inr (rw e))

pub least_found : (remote : ℕ) (l : List ℕ) → least_lost remote l < 65536 → first_place (least_lost remote l) l < length l
unfolding least_lost
least_found remote [] h = absurd (omega arith)
least_found remote (x ∷ l) h =
    case (eqb x (least_lost remote (x ∷ l)))
    (λ e. rw (first_here (least_lost remote (x ∷ l)) x l (eqb-true x (least_lost remote (x ∷ l)) e)) (suc-le-suc zero-le))
    (λ e.
    let apart = eqb-false x (least_lost remote (x ∷ l)) e in
    ⊎_elim
    (λ q. absurd (apart (sym q)))
    (λ q. rw (first_later (least_lost remote (x ∷ l)) x l apart, q) (suc-le-suc (least_found remote l (rw q at h))))
    (least_of remote x l))

over_here : (room w : ℕ) (ws : List ℕ) → w < no_packet → room < length_of w → over_long room (w ∷ ws) ≡ true
unfolding over_long
over_here room w ws v l = rw (lt-ltb w no_packet v, lt-ltb room (length_of w) l)

over_later : (room w : ℕ) (ws : List ℕ) → over_long room ws ≡ true → over_long room (w ∷ ws) ≡ true
unfolding over_long
over_later room w ws q = rw (q, or-true)

pub fits_at : (room : ℕ) (words : List ℕ) (at : ℕ)
    → over_long room words ≡ false
    → at < length words
    → get_or words at 0 < no_packet
    → length_of (get_or words at 0) ≤ room
fits_at room [] at e h v = absurd (not-suc-le-zero h)
fits_at room (w ∷ ws) zero e h v = ⊎_elim (λ l. both (over_here room w ws v l) e) (λ l. l) (lt_or_le room (length_of w))
fits_at room (w ∷ ws) (suc at) e h v =
    fits_at room ws at (case (over_long room ws) (λ q. both (over_later room w ws q) e) (λ q. q)) (le_of_suc-le-suc h) v
