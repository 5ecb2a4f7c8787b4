-- The field of a record in laps whose newest number stands in its slot. Assumes nothing.
--     slot_told      what a slot has is one of the 32 numbers before the newest only where it is the one whose slot it is
--     turned         so which slots have one of the 32 is the field, but for where it begins
use Rattle.std.proofs.Common.{◌≡◌, ℕ, ◌+◌, ◌-◌, ◌*◌, ◌/◌, ◌%◌, ◌^◌, ◌<◌, ◌≤◌, eqb, List, get_or, sym, ap, ◌∙◌, ap₂, ⊎_elim, arith, le-ltb, lt-ltb, eqb-true}
use borrow.Author.Tests.{eqb-false}
use Rattle.laws.specs.Bits.{bits_below}
use Rattle.laws.proofs.Bits.{bits_turn}
use Rattle.laws.proofs.Cases.{case, lt_or_le}
use Rattle.serial.specs.Order.{back}
use Rattle.received.specs.Field.{heard}
use Rattle.received.specs.Recent.{is_recent, recent_at, Settled}

-- numbers that are the same with wrap-around
wrapped : (x y : ℕ) → x % 4294967296 ≡ y % 4294967296 → x + 4294967296 * (y / 4294967296) ≡ y + 4294967296 * (x / 4294967296)
wrapped x y e = omega arith

parts : (x : ℕ) → x ≡ x % 4294967296 % 2147483648 + 2147483648 * (x % 4294967296 / 2147483648 + 2 * (x / 4294967296))
parts x = omega arith

ahead : (e newest k : ℕ) → e ≡ newest - (k + 1) → newest < 65536 → 32 ≤ newest → k < 32 → (e + 4294967296 - (newest - 32)) % 4294967296 % 2147483648 < 32
ahead e newest k same word enough within =
    let x : e + 4294967296 - (newest - 32) ≡ 31 - k + 4294967296 = omega arith in
    rw x (omega arith)

remainder : (x q r : ℕ) → x ≡ r + q * 33 → r < 33 → x % 33 ≡ r
remainder x q r e h = omega arith

module _ (e first newest i p k j s t a b c d : ℕ) (small : e < 4294967296) (word : newest < 65536) (enough : 32 ≤ newest)
    (few : s < 32) (few-p : t < 32) (round : i + (k + 1) ≡ p + 33 * j) (once : j ≤ 1) (within : k < 32)
    (entry : e + 495 + 4294967296 * a ≡ first + (i + 33 * s) + 4294967296 * b)
    (stands : newest + 495 + 4294967296 * c ≡ first + (p + 33 * t) + 4294967296 * d) where
  -- no turn of 2^31 lies between them, and so no lap of 33
  near : (z u : ℕ) → z < 32 → e + 4294967296 ≡ newest - 32 + (z + 2147483648 * u) → e ≡ newest - (k + 1)
  near z u l q =
      let turns : u + 2 * (a + d) ≡ 2 * (b + c + 1) = omega arith in
      let laps : t ≡ s + j = omega arith in
      let none : u ≡ 2 = omega arith in
      omega arith

  told : is_recent (newest - 32) e ≡ eqb e (newest - (k + 1))
  unfolding is_recent
  told =
      let x = e + 4294967296 - (newest - 32) in
      let z = x % 4294967296 % 2147483648 in
      case (eqb e (newest - (k + 1)))
      (λ f. rw f (lt-ltb z 32 (ahead e newest k (eqb-true _ _ f) word enough within)))
      (λ f. rw f (le-ltb z 32 (⊎_elim (λ h. absurd (eqb-false _ _ f (near z (x % 4294967296 / 2147483648 + 2 * (x / 4294967296)) h (omega (arith, parts x))))) (λ h. h) (lt_or_le z 32))))

module _ (newest : ℕ) (slots : List ℕ) (word : newest < 65536) (small : (i : ℕ) → get_or slots i 0 < 4294967296) (home : Settled newest slots) where
  slot_told : (i k j : ℕ) → i + (k + 1) ≡ newest % 33 + 33 * j → j ≤ 1 → k < 32 → i < 33 → heard newest slots k ≡ is_recent (newest - 32) (get_or slots i 0)
  slot_told i k j round once within inside =
      let n : back newest (k + 1) ≡ newest - (k + 1) = omega (arith, home.enough) in
      let at : (newest - (k + 1)) % 33 ≡ i = remainder _ (newest / 33 - j) i (omega (arith, home.enough)) inside in
      let laps = home.laps in
      let entry = wrapped _ _ (laps.each i inside) in
      let stands = wrapped _ _ (rw home.stands at (laps.each (newest % 33) (omega arith))) in
      rw (home.count, n, at)
      (sym
      (told (get_or slots i 0) (get_or slots 0 0) newest i (newest % 33) k j (laps.lap i) (laps.lap (newest % 33)) _ _ _ _ (small i) word home.enough
      (laps.few i inside) (laps.few (newest % 33) (omega arith)) round once within entry stands))

  pub turned : (at w : ℕ) → at ≡ newest % 33 → w ≡ bits_below (recent_at (newest - 32) slots) 33 → bits_below (heard newest slots) 32 ≡ w * 2 ^ at % 4294967296 + w * 2 ^ at / 8589934592
  turned at w at_is w-is =
      let n = 32 - at in
      let q = recent_at (newest - 32) slots in
      let all : at + n ≡ 32 = omega arith in
      let low : n + at ≡ 32 = omega arith in
      let high : n + 1 + at ≡ 33 = omega arith in
      ap (bits_below (heard newest slots)) (sym all)
      ∙ bits_turn (heard newest slots) q at n
      (λ k h. slot_told (32 - (n + 1 + k)) k 0 (omega arith) (omega arith) (omega arith) (omega arith))
      (λ k h. slot_told (32 - k) (at + k) 1 (omega arith) (omega arith) (omega arith) (omega arith))
      ∙ ap₂ (λ (x y : ℕ). bits_below q x * 2 ^ at % 2 ^ y + bits_below q x * 2 ^ at / 2 ^ x) high low
      ∙ ap (λ (x : ℕ). x * 2 ^ at % 4294967296 + x * 2 ^ at / 8589934592) (sym w-is)
