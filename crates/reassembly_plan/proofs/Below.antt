-- Numbers below a bound: how many have a property, and whether all have it. Assumes nothing.
--     count_more     one more number has it
--     count_ones     the set digits of a number, counted by place
--     all_at, all_of, all_not     what `all_below` says, number by number
use mathlib.Core.Path.{◌≡◌, refl, sym, ap, ◌∙◌}
use mathlib.Core.Bool.{Bool, true, false, cond, ◌||◌, or-false, or-true}
use mathlib.Core.Logic.{⊎_elim}
use Prim.Native.Nat.{ℕ, zero, suc, ◌+◌, ◌/◌, ◌%◌, ◌^◌, ◌≤◌, ◌<◌}
use native.Mathlib.Nat.{not-suc-le-zero, mod-lt, mod-eq_of_lt, mod-one, div-one}
use native.Mathlib.Omega.{arith}
use lib.Count.{ones, ones_cat}
use lib.Dec.{eqb}
use lib.Pow.{pow_pos, mod-pow-add}
use borrow.Author.Tests.{eq-eqb, ne_eqb}
use Rattle.laws.specs.Bits.{bit}
use Rattle.laws.proofs.Cases.{case, both, lt_or_le}
use Rattle.reassembly_plan.specs.Gate.{count_below, all_below}

pub count_le : (p : ℕ → Bool) (n : ℕ) → count_below p n ≤ n
unfolding count_below
count_le p zero = omega arith
count_le p (suc n) = case (p n) (λ e. rw e (omega (arith, count_le p n))) (λ e. rw e (omega (arith, count_le p n)))

module _ (p q : ℕ → Bool) (x : ℕ) (more : (k : ℕ) → q k ≡ (p k || eqb x k)) where
  count_same : (n : ℕ) → n ≤ x → count_below q n ≡ count_below p n
  unfolding count_below
  count_same zero h = refl
  count_same (suc n) h = rw (more n, ne_eqb x n (λ e. omega arith), or-false (p n), count_same n (omega arith))

  pub count_more : (n : ℕ) → x < n → p x ≡ false → count_below q n ≡ count_below p n + 1
  unfolding count_below
  count_more zero h e = absurd (not-suc-le-zero h)
  count_more (suc n) h e =
      ⊎_elim
      (λ l. rw (more n, ne_eqb x n (λ z. omega arith), or-false (p n), count_more n l e) (omega arith))
      (λ l. let z : x ≡ n = omega arith in rw (more n, eq-eqb x n z, or-true (p n), ap p (sym z) ∙ e, count_same n (omega arith)) (omega arith))
      (lt_or_le x n)

digit : (x : ℕ) → x < 2 → ones x ≡ cond (eqb x 1) 1 0
unfolding ones
digit zero h = refl
digit (suc zero) h = refl
digit (suc (suc x)) h = absurd (omega arith)

ones_low : (x k : ℕ) → ones (x % 2 ^ k) ≡ count_below (bit x) k
unfolding count_below
ones_low x zero = ap ones (mod-one x) ∙ none
  where
    none : ones 0 ≡ 0
    none = digit 0 (omega arith)
ones_low x (suc k) =
    let e : suc k ≡ 1 + k = omega arith in
    ap ones (ap (λ (n : ℕ). x % 2 ^ n) e ∙ mod-pow-add x 1 k)
    ∙ ones_cat k (x / 2 ^ k % 2) (x % 2 ^ k) (mod-lt x (pow_pos k))
    ∙ rw (digit (x / 2 ^ k % 2) (omega arith), ones_low x k)

pub count_ones : (x : ℕ) → x < 65536 → ones x ≡ count_below (bit x) 16
count_ones x h = ap ones (sym (mod-eq_of_lt {n = x} {m = 2 ^ 16} h)) ∙ ones_low x 16

module _ (p : ℕ → Bool) where
  pub all_of : (n : ℕ) → ((j : ℕ) → j < n → p j ≡ true) → all_below p n ≡ true
  unfolding all_below
  all_of zero h = refl
  all_of (suc n) h = rw (h n (omega arith), all_of n (λ j l. h j (omega arith)))

  pub all_not : (n j : ℕ) → j < n → p j ≡ false → all_below p n ≡ false
  unfolding all_below
  all_not zero j h e = absurd (not-suc-le-zero h)
  all_not (suc n) j h e =
      ⊎_elim
      (λ l. case (p n) (λ q. rw (q, all_not n j l e)) (λ q. rw q))
      (λ l. let z : j ≡ n = omega arith in rw (ap p (sym z) ∙ e))
      (lt_or_le j n)

  pub all_at : (n j : ℕ) → all_below p n ≡ true → j < n → p j ≡ true
  all_at n j a h = case (p j) (λ e. e) (λ e. both a (all_not n j h e))

-- the lowest bit, as it is tested
pub bit_zero : (x : ℕ) → bit x 0 ≡ eqb (x % 2) 1
bit_zero x = ap (λ (y : ℕ). eqb (y % 2) 1) (div-one x)
