-- The order of numbers against RFC 1982: at each of the five places both are computed. Assumes nothing.
use Rattle.std.proofs.Common.{◌≡◌, ℕ, ◌+◌, ◌-◌, true, false, ◌&&◌, ltb, ◌⊎◌, refl, ◌∙◌, inl, inr, ⊎_elim, arith, le-ltb, lt-ltb, eq-eqb, ne_eqb}
use mathlib.Core.Bool.{or_comm}
use Rattle.laws.proofs.Cases.{case, both, lt_or_le}
use Rattle.serial.specs.Order.{greater}
use Rattle.serial.specs.Rfc1982.{more, defined}
use Rattle.serial.specs.Agreement.{AgreesWithRfc1982}
use Rattle.serial.proofs.Laws.{above, far_above, same, below, far_below, place, greater_above, greater_far_below, lesser_far_above, lesser_same, lesser_below}

-- at distance 32,768 the RFC says neither equal, nor less, nor greater
module _ (a b : ℕ) (half : a ≡ b + 32768) where
  none : defined 16 a b ≡ false
  none = rw (ne_eqb a b (λ e. omega arith), le-ltb a b (omega arith), lt-ltb b a (omega arith), le-ltb 32768 (a - b) (omega arith), le-ltb (a - b) 32768 (omega arith))

  none_back : defined 16 b a ≡ false
  none_back = rw (ne_eqb b a (λ e. omega arith), lt-ltb b a (omega arith), le-ltb (a - b) 32768 (omega arith), le-ltb a b (omega arith), le-ltb 32768 (a - b) (omega arith))

-- elsewhere it has an order
undefined : (a b : ℕ) → defined 16 a b ≡ false → (a ≡ b + 32768) ⊎ (b ≡ a + 32768)
undefined a b e = elim (place a b) [
  | above h k ↦
      ⊎_elim (λ l. both (rw (ne_eqb a b (λ z. omega arith), le-ltb a b (omega arith), lt-ltb b a h, le-ltb 32768 (a - b) (omega arith), lt-ltb (a - b) 32768 (omega arith))) e)
      (λ l. inl (omega arith))
      (lt_or_le a (b + 32768))
  | far_above h ↦ both (rw (ne_eqb a b (λ z. omega arith), le-ltb a b (omega arith), lt-ltb b a (omega arith), lt-ltb 32768 (a - b) (omega arith))) e
  | same h ↦ both (rw (eq-eqb a b h)) e
  | below h k ↦
      ⊎_elim (λ l. both (rw (ne_eqb a b (λ z. omega arith), lt-ltb a b h, lt-ltb (b - a) 32768 (omega arith))) e)
      (λ l. inr (omega arith))
      (lt_or_le b (a + 32768))
  | far_below h ↦ both (rw (ne_eqb a b (λ z. omega arith), lt-ltb a b (omega arith), le-ltb (b - a) 32768 (omega arith), le-ltb b a (omega arith), lt-ltb 32768 (b - a) (omega arith))) e
]

-- and it is `greater`
agrees : (a b : ℕ) → defined 16 a b ≡ true → greater a b ≡ more 16 a b
agrees a b d = elim (place a b) [
  | above h k ↦
      ⊎_elim (λ l. rw (greater_above a b h k, le-ltb a b (omega arith), lt-ltb b a h, lt-ltb (a - b) 32768 (omega arith)))
      (λ l. both d (none a b (omega arith)))
      (lt_or_le a (b + 32768))
  | far_above h ↦ rw (lesser_far_above a b h, le-ltb a b (omega arith), lt-ltb b a (omega arith), le-ltb (a - b) 32768 (omega arith))
  | same h ↦ rw (lesser_same a b h, le-ltb a b (omega arith), le-ltb b a (omega arith))
  | below h k ↦ rw (lesser_below a b h k, lt-ltb a b h, le-ltb 32768 (b - a) (omega arith), le-ltb b a (omega arith))
  | far_below h ↦ rw (greater_far_below a b h, lt-ltb a b (omega arith), lt-ltb 32768 (b - a) (omega arith))
]

-- the RFC's two orders are one, turned round
turned : (a b : ℕ) → defined 16 a b ≡ true → defined 16 b a ≡ true
turned a b d =
    case (defined 16 b a) (λ e. e)
    (λ e. ⊎_elim (λ h. both d (none_back b a h)) (λ h. both d (none a b h)) (undefined b a e))

pub agreement : AgreesWithRfc1982
agreement = record {
  greater_is = agrees;
  less_is = λ a b d. agrees b a (turned a b d)
      ∙ or_comm (ltb b a && ltb 32768 (a - b)) (ltb a b && ltb (b - a) 32768);
  undefined_is = undefined;
  half_undefined = λ a b h. (none a b h, none_back a b h);
  larger_wins = λ a b h. (greater_above a b (omega arith) (omega arith), lesser_below b a (omega arith) (omega arith));
  next_is = λ a. refl;
}
