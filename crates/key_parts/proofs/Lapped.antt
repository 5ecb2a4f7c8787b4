-- Entries in laps of 33. Assumes nothing.
--     or_parts         what is small and even by 32 is so in both parts of an `or`
--     laps_of          33 x n, told by its bits
--     lapped           what the entries moved by one number say of the column
--     lapped_once      no key stands twice
use Rattle.std.proofs.Common.{◌≡◌, ℕ, ◌+◌, ◌-◌, ◌*◌, ◌/◌, ◌%◌, ◌^◌, ◌<◌, ◌≤◌, false, List, length, get_or, sym, ◌∙◌, ⊎_elim, mod-eq_of_lt, mul-div_cancel, arith}
use lib.Bits.{bit_or, bit_xor, or_add_and, and_le_l, and_le_r, or_mod, xor_mod, xor_shr}
use Rattle.laws.proofs.Bits.{xor_none}
use Rattle.laws.proofs.Cases.{lt_or_le}
use Rattle.keys.specs.Keys.{twice}
use Rattle.key_parts.specs.Laps.{InLap, Lapped}
use Rattle.keys.proofs.Twice.{all_apart}

pub or_parts : (a b : ℕ) → bit_or a b % 32 ≡ 0 → bit_or a b < 1024 → ((a % 32 ≡ 0) × (a < 1024)) × ((b % 32 ≡ 0) × (b < 1024))
or_parts a b e h =
    let low : bit_or (a % 32) (b % 32) ≡ 0 = sym (or_mod a b 5) ∙ e in (
      (omega (arith, low, or_add_and (a % 32) (b % 32), and_le_r (a % 32) (b % 32)), omega (arith, or_add_and a b, and_le_r a b)),
      (omega (arith, low, or_add_and (a % 32) (b % 32), and_le_l (a % 32) (b % 32)), omega (arith, or_add_and a b, and_le_l a b)),
    )

pub laps_of : (y : ℕ) → bit_xor y (y / 2 ^ 5) % 32 ≡ 0 → bit_xor y (y / 2 ^ 5) < 1024 → (y / 32 < 32) × (y ≡ 33 * (y / 32))
laps_of y e h =
    let low : y % 32 ≡ y / 32 % 32 = xor_none (y % 32) (y / 32 % 32) (sym (xor_mod y (y / 32) 5) ∙ e) in
    let top : bit_xor y (y / 32) / 1024 ≡ 0 = omega arith in
    let high : y / 1024 ≡ y / 32 / 1024 = xor_none (y / 1024) (y / 32 / 1024) (sym (xor_shr y (y / 32) 10) ∙ top) in
    (omega arith, omega arith)

moved : (e s f x : ℕ) → (s + f) % 4294967296 ≡ 495 → (e + s) % 4294967296 ≡ x % 4294967296 → (e + 495) % 4294967296 ≡ (f + x) % 4294967296
moved e s f x h k = omega arith

-- how many laps an entry is above its place
counted : (place entry : ℕ) (h : InLap place entry) → place < 33 → (entry - place) / 33 ≡ h.laps
counted place entry h small =
    let e : entry ≡ place + 33 * h.laps = h.is ∙ mod-eq_of_lt (omega (arith, h.few)) in
    let t : entry - place ≡ h.laps * 33 = omega arith in
    rw t (mul-div_cancel h.laps (omega arith))

pub lapped : (l : List ℕ) (shift : ℕ)
    → (shift + get_or l 0 0) % 4294967296 ≡ 495
    → ((j : ℕ) → j < 33 → InLap j ((get_or l j 0 + shift) % 4294967296))
    → Lapped l
lapped l shift start laps = record {
  lap = λ j. ((get_or l j 0 + shift) % 4294967296 - j) / 33;
  few = λ j h. rw (counted j _ (laps j h) h) (laps j h).few;
  each = λ j h. rw (counted j _ (laps j h) h) (moved (get_or l j 0) shift (get_or l 0 0) (j + 33 * (laps j h).laps) start (laps j h).is);
}

pub lapped_once : (l : List ℕ) → length l ≡ 33 → Lapped l → twice l ≡ false
lapped_once l long h =
    all_apart l
    (λ i j before within key same.
    let f : h.lap i < 32 = h.few i (omega arith) in
    let g : h.lap j < 32 = h.few j (omega arith) in
    let e : i + 33 * h.lap i ≡ j + 33 * h.lap j = omega (arith, h.each i (omega arith), h.each j (omega arith)) in
    ⊎_elim (λ (w : h.lap j < h.lap i). omega arith) (λ (w : h.lap i ≤ h.lap j). omega arith) (lt_or_le (h.lap j) (h.lap i)))
