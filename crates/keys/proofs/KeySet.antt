-- A set of keys as 1,024 words of 64 bits: key v is bit v % 64 of word v / 64. Assumes nothing.
--     Seen        the set holds the first i entries of the column, as far as they are keys
--     Single      none of the first i entries stands before its own place
use mathlib.Core.Path.{◌≡◌, sym, ap, ◌∙◌}
use mathlib.Core.Bool.{Bool, true, false, ◌||◌, or-false, or_assoc}
use mathlib.Core.List.{List, [], ◌∷◌, ◌++◌}
use Prim.Native.Nat.{ℕ, ◌+◌, ◌*◌, ◌/◌, ◌%◌, ◌^◌, ◌≤◌, ◌<◌}
use native.Mathlib.Nat.{zero-div, not-suc-le-zero}
use native.Mathlib.Numerals.{add-one}
use native.Mathlib.Omega.{arith}
use lib.ListN.{length, get_or, set, take, replicate, get_or-replicate}
use lib.Seq.{get_or-set_same, get_or-set_other, take-suc, get_or-take, length-take-le}
use lib.Bits.{bit_or}
use lib.Pow.{shl_exact}
use lib.Dec.{eqb}
use borrow.Author.Count.{below_more}
use borrow.Author.Tests.{eq-eqb, ne_eqb, eqb-true, eqb-false}
use Rattle.laws.specs.Bits.{bit}
use Rattle.laws.proofs.Bits.{bit-or}
use Rattle.laws.proofs.Cases.{case, both}
use Rattle.keys.specs.Keys.{occurs, twice}
use Rattle.keys.proofs.Twice.{occurs_found, occurs_place, exact, all_apart}

-- v is in the set
unfoldable pub marked : List ℕ → ℕ → Bool
marked seen v = bit (get_or seen (v / 64) 0) (v % 64)

-- the set with v, as the code stores it
abbrev pub mark : List ℕ → ℕ → List ℕ
mark seen v = set seen (v / 64) (bit_or (get_or seen (v / 64) 0) (1 * 2 ^ (v % 64) % 2 ^ 64))

-- two keys of one word are the same where their bits are
same_bit : (u v : ℕ) → u / 64 ≡ v / 64 → eqb v u ≡ eqb (v % 64) (u % 64)
same_bit u v q =
    case (eqb v u)
    (λ f. rw f (sym (eq-eqb (v % 64) (u % 64) (ap (λ (x : ℕ). x % 64) (eqb-true v u f)))))
    (λ f. rw f (sym (ne_eqb (v % 64) (u % 64) (λ z. eqb-false v u f (omega arith)))))

marked_mark : (seen : List ℕ) (v u : ℕ) → length seen ≡ 1024 → v < 65536 → marked (mark seen v) u ≡ (marked seen u || eqb v u)
unfolding marked
marked_mark seen v u l h =
    case (eqb (u / 64) (v / 64))
    (λ e.
    let q : u / 64 ≡ v / 64 = eqb-true (u / 64) (v / 64) e in
    rw (same_bit u v q, q)
    (ap (λ (x : ℕ). bit x (u % 64)) (get_or-set_same seen (v / 64) _ 0 (omega arith) ∙ ap (bit_or (get_or seen (v / 64) 0)) (shl_exact {a = 1} 1 (v % 64) 64 (omega arith) (omega arith)))
    ∙ bit-or (get_or seen (v / 64) 0) (v % 64) (u % 64)))
    (λ e.
    rw (ne_eqb v u (λ z. eqb-false (u / 64) (v / 64) e (ap (λ (x : ℕ). x / 64) (sym z))), or-false)
    (ap (λ (x : ℕ). bit x (u % 64)) (get_or-set_other seen (v / 64) (u / 64) _ 0 (eqb-false (u / 64) (v / 64) e))))

marked_none : (v : ℕ) → v < 65536 → marked (replicate 1024 0) v ≡ false
unfolding marked
marked_none v h = ap (λ (x : ℕ). bit x (v % 64)) (get_or-replicate 1024 (v / 64) 0 0 (omega arith)) ∙ ap (λ (x : ℕ). eqb (x % 2) 1) (zero-div (2 ^ (v % 64)))

occurs_snoc : (l : List ℕ) (x v : ℕ) → occurs v (l ++ (x ∷ [])) ≡ (occurs v l || eqb x v)
unfolding occurs
occurs_snoc [] x v = or-false (eqb x v)
occurs_snoc (y ∷ l) x v = rw (occurs_snoc l x v) (sym (or_assoc (eqb y v) (occurs v l) (eqb x v)))

-- the entry at i stood before: it stands twice
pub again : (a : List ℕ) (i : ℕ) → i < length a → get_or a i 0 < 65536 → occurs (get_or a i 0) (take i a) ≡ true → twice a ≡ true
again a i h k e =
    let r = occurs_place (take i a) (get_or a i 0) e in
    let lt : r.0 < i = omega (arith, r.1, length-take-le i a (omega arith)) in
    let same : get_or a r.0 0 ≡ get_or a i 0 = sym (get_or-take i a r.0 0 lt) ∙ r.2 in
    exact.if_same a (record { first = r.0; second = i; before = lt; within = h; key = omega arith; same = same })

pub Single : List ℕ → ℕ → Type 0
Single a i = (j : ℕ) → j < i → get_or a j 0 < 65536 → occurs (get_or a j 0) (take j a) ≡ false

pub single_none : (a : List ℕ) → Single a 0
unfolding Single
single_none a j h = absurd (not-suc-le-zero h)

pub single_more : (a : List ℕ) (i : ℕ) → Single a i → (get_or a i 0 < 65536 → occurs (get_or a i 0) (take i a) ≡ false) → Single a (i + 1)
unfolding Single
single_more a i s e = below_more (λ (j : ℕ). get_or a j 0 < 65536 → occurs (get_or a j 0) (take j a) ≡ false) i s e

-- of the whole column: no key stands twice
pub single_all : (a : List ℕ) (i : ℕ) → length a ≤ i → Single a i → twice a ≡ false
unfolding Single
single_all a n h s =
    all_apart a
    (λ i j before within key same.
    both
    (occurs_found (take j a) (get_or a j 0) i (rw (length-take-le j a (omega arith)) before) (get_or-take j a i 0 before ∙ same))
    (s j (omega arith) (omega arith)))

pub Seen : List ℕ → List ℕ → ℕ → Type 0
Seen seen a i = (v : ℕ) → v < 65536 → marked seen v ≡ occurs v (take i a)

pub seen_none : (a : List ℕ) → Seen (replicate 1024 0) a 0
unfolding Seen occurs
seen_none a v h = marked_none v h

module _ (seen a : List ℕ) (i : ℕ) (h : i < length a) (s : Seen seen a i) where
  occurs_more : (v : ℕ) → occurs v (take (i + 1) a) ≡ (occurs v (take i a) || eqb (get_or a i 0) v)
  occurs_more v = rw (add-one, take-suc a i 0 h) (occurs_snoc (take i a) (get_or a i 0) v)

  pub seen_key : length seen ≡ 1024 → get_or a i 0 < 65536 → Seen (mark seen (get_or a i 0)) a (i + 1)
  unfolding Seen
  seen_key l k v q = marked_mark seen (get_or a i 0) v l k ∙ rw (s v q) (sym (occurs_more v))

  pub seen_other : 65536 ≤ get_or a i 0 → Seen seen a (i + 1)
  unfolding Seen
  seen_other k v q = s v q ∙ sym (occurs_more v ∙ rw (ne_eqb (get_or a i 0) v (λ e. omega arith), or-false))

  pub seen_bit : get_or a i 0 < 65536 → occurs (get_or a i 0) (take i a) ≡ bit (get_or seen (get_or a i 0 / 64) 0) (get_or a i 0 % 64)
  unfolding Seen marked
  seen_bit k = sym (s (get_or a i 0) k)
