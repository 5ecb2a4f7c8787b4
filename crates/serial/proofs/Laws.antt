-- What proofs use of `greater` in place of its text: where two numbers can stand, and what it says there.
--     place             the five places that a number can have against another
--     greater_means     what a true answer says of the two; lesser_means, what a false one says
-- Assumes nothing.
use Rattle.std.proofs.Common.{◌≡◌, ℕ, ◌+◌, ◌-◌, ◌<◌, ◌≤◌, true, false, ◌⊎◌, inl, inr, ⊎_elim, arith, le-ltb, lt-ltb, le-leb}
use borrow.Author.Tests.{lt-leb}
use Rattle.laws.proofs.Cases.{both, lt_or_le}
use Rattle.serial.specs.Order.{greater}

pub data Place (a b : ℕ) : Type 0 where
  above : b < a → a ≤ b + 32768 → Place a b
  far_above : b + 32768 < a → Place a b
  same : a ≡ b → Place a b
  below : a < b → b ≤ a + 32768 → Place a b
  far_below : a + 32768 < b → Place a b

pub place : (a b : ℕ) → Place a b
place a b =
    ⊎_elim (λ h. ⊎_elim far_above (above h) (lt_or_le (b + 32768) a))
    (λ h.
    ⊎_elim far_below
    (λ k. ⊎_elim (λ l. below l k) (λ l. same (omega arith)) (lt_or_le a b))
    (lt_or_le (a + 32768) b))
    (lt_or_le b a)

module _ (a b : ℕ) where
  pub greater_above : b < a → a ≤ b + 32768 → greater a b ≡ true
  unfolding greater
  greater_above h k = rw (lt-ltb b a h, le-leb (a - b) 32768 (omega arith))

  pub greater_far_below : a + 32768 < b → greater a b ≡ true
  unfolding greater
  greater_far_below h = rw (le-ltb b a (omega arith), lt-ltb a b (omega arith), lt-ltb 32768 (b - a) (omega arith))

  pub lesser_far_above : b + 32768 < a → greater a b ≡ false
  unfolding greater
  lesser_far_above h = rw (lt-ltb b a (omega arith), lt-leb (a - b) 32768 (omega arith), le-ltb a b (omega arith))

  pub lesser_same : a ≡ b → greater a b ≡ false
  unfolding greater
  lesser_same e = rw (le-ltb b a (omega arith), le-ltb a b (omega arith))

  pub lesser_below : a < b → b ≤ a + 32768 → greater a b ≡ false
  unfolding greater
  lesser_below h k = rw (le-ltb b a (omega arith), lt-ltb a b h, le-ltb 32768 (b - a) (omega arith))

  pub greater_means : greater a b ≡ true → ((b < a) × (a ≤ b + 32768)) ⊎ (a + 32768 < b)
  greater_means e = elim (place a b) [
    | above h k ↦ inl (h, k)
    | far_above h ↦ both e (lesser_far_above h)
    | same h ↦ both e (lesser_same h)
    | below h k ↦ both e (lesser_below h k)
    | far_below h ↦ inr h
  ]

  pub lesser_means : greater a b ≡ false → ((a ≤ b) × (b ≤ a + 32768)) ⊎ (b + 32768 < a)
  lesser_means e = elim (place a b) [
    | above h k ↦ both (greater_above h k) e
    | far_above h ↦ inr h
    | same h ↦ inl (omega arith, omega arith)
    | below h k ↦ inl (omega arith, k)
    | far_below h ↦ both (greater_far_below h) e
  ]
