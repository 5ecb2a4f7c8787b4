-- What the order of numbers is against RFC 1982 with SERIAL_BITS 16.
use Rattle.std.specs.Prelude.{◌≡◌, ℕ, ◌+◌, true, false, ◌⊎◌}
use Rattle.serial.specs.Order.{greater, next}
use Rattle.serial.specs.Rfc1982.{sum, less, more, defined}

pub record AgreesWithRfc1982 : Type 0 where
  -- wherever the RFC defines an order, both directions are the RFC's
  pub greater_is : (a b : ℕ) → defined 16 a b ≡ true → greater a b ≡ more 16 a b
  pub less_is : (a b : ℕ) → defined 16 a b ≡ true → greater b a ≡ less 16 a b
  -- it leaves out just the pairs at distance 32,768
  pub undefined_is : (a b : ℕ) → defined 16 a b ≡ false → (a ≡ b + 32768) ⊎ (b ≡ a + 32768)
  pub half_undefined : (a b : ℕ) → a ≡ b + 32768 → (defined 16 a b ≡ false) × (defined 16 b a ≡ false)
  -- and there the larger number wins: exactly one of the two directions holds
  pub larger_wins : (a b : ℕ) → a ≡ b + 32768 → (greater a b ≡ true) × (greater b a ≡ false)
  -- the next number is the RFC's sum with 1
  pub next_is : (a : ℕ) → next a ≡ sum 16 a 1
