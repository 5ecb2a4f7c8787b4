-- A word of which bit after bit, from the highest down, is cleared where a test does not hold. Assumes nothing.
--     all_set, clears, all_seen     before the first bit, at one, after the last
--     with_last                     with one more bit above them
use Rattle.std.proofs.Common.{◌≡◌, ℕ, ◌+◌, ◌-◌, ◌*◌, ◌%◌, ◌^◌, ◌<◌, ◌≤◌, Bool, true, false, cond, not, ◌&&◌, ◌||◌, eqb, ltb, sym, refl, ap, ◌∙◌, ap₂, ⊎_elim, one-mul, arith, shl_exact, le-ltb, lt-ltb, eqb-true}
use mathlib.Core.Bool.{and-true, or-true, or-false}
use mir.Val.{bool_byte}
use lib.Bits.{bit_and}
use borrow.Author.Tests.{eqb-false}
use Rattle.laws.specs.Bits.{bits_below}
use Rattle.laws.proofs.Bits.{digit, digit_small, step, bits_same, bits_and, bits_but_one}
use Rattle.laws.proofs.Cases.{case, lt_or_le}

-- the test counts from bit c on
abbrev pub from : ℕ → (ℕ → Bool) → ℕ → Bool
from c q b = ltb b c || q b

byte_digit : (b : Bool) → bool_byte b ≡ digit b
unfolding digit
byte_digit true = refl
byte_digit false = refl

pub byte_small : (b : Bool) → bool_byte b < 2
byte_small b = rw (byte_digit b) (digit_small b)

module _ (q : ℕ → Bool) where
  pub all_set : bits_below (from 32 q) 32 ≡ 4294967295
  unfolding bits_below
  all_set = bits_same (from 32 q) (λ b. true) 32 (λ b h. rw (lt-ltb b 32 h))

  pub all_seen : bits_below (from 0 q) 32 ≡ bits_below q 32
  all_seen = bits_same (from 0 q) q 32 (λ b h. rw (le-ltb b 0 (omega arith)))

  bit_clears : (c b : ℕ) → (from (c + 1) q b && (q c || not (eqb b c))) ≡ from c q b
  bit_clears c b =
      case (eqb b c)
      (λ e.
      let same : b ≡ c = eqb-true b c e in
      rw (e, same, lt-ltb c (c + 1) (omega arith), le-ltb c c (omega arith)) (or-false (q c)))
      (λ e.
      rw (e, or-true (q c), and-true)
      (⊎_elim
      (λ l. rw (lt-ltb b c l, lt-ltb b (c + 1) (omega arith)))
      (λ l.
      let over : c + 1 ≤ b = ⊎_elim (λ m. omega arith) (λ m. absurd (eqb-false b c e (omega arith))) (lt_or_le c b) in
      rw (le-ltb b c l, le-ltb b (c + 1) over))
      (lt_or_le b c)))

  mask : (c : ℕ) → c < 32 → cond (q c) 4294967295 (4294967295 - 1 * 2 ^ c % 2 ^ 32) ≡ bits_below (λ b. q c || not (eqb b c)) 32
  unfolding bits_below
  mask c h =
      case (q c)
      (λ e. rw e)
      (λ e. rw e (ap (λ (x : ℕ). 4294967295 - x) (shl_exact {a = 1} 1 c 32 (omega arith) (omega arith) ∙ one-mul (2 ^ c)) ∙ sym (bits_but_one c h)))

  pub clears : (c all word : ℕ) → c < 32 → all ≡ bits_below (from (c + 1) q) 32 → word ≡ cond (q c) 4294967295 (4294967295 - 1 * 2 ^ c % 2 ^ 32) → bit_and all word ≡ bits_below (from c q) 32
  clears c all word h so_far next =
      ap₂ bit_and so_far (next ∙ mask c h)
      ∙ bits_and (from (c + 1) q) (λ b. q c || not (eqb b c)) 32
      ∙ bits_same (λ b. from (c + 1) q b && (q c || not (eqb b c))) (from c q) 32 (λ b l. bit_clears c b)

  pub with_last : (b : Bool) (w : ℕ) → b ≡ q 32 → w ≡ bits_below q 32 → bool_byte b * 4294967296 + w ≡ bits_below q 33
  with_last b w e l = ap₂ (λ (x y : ℕ). x * 4294967296 + y) (byte_digit b ∙ ap digit e) l ∙ sym (step q 32)
