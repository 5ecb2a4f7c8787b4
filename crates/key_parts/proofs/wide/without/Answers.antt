-- What differs is a packet's word below 2^31, and `room` less is below that too unless it is at most `room`: then it has no number,
-- so the numbers do not differ, and it is the length. A multiple of 64 and a place below 64 have no bit in common.
use Rattle.std.proofs.Common.{◌≡◌, ℕ, ◌+◌, ◌*◌, ◌/◌, ◌%◌, ◌<◌, ◌≤◌, sym, ap, ◌∙◌, ap₂, inl, mod-lt, div-add-mod', zero-add, arith}
use lib.Bits.{bit_xor, xor_block, xor_lt, xor_zero_r, xor_shr, xor_mod}
use Rattle.laws.proofs.Bits.{xor_none}
use Rattle.key_parts.proofs.wide.without.Goals as goal

stands : (number first place : ℕ) → first % 64 ≡ 0 → place < 64 → bit_xor number place ≡ first → number ≡ first + place
stands number first place even small e =
    let low = mod-lt number {m = 64} (omega arith) in
    let parts : bit_xor number place ≡ number / 64 * 64 + bit_xor (number % 64) place =
    ap₂ bit_xor (sym (div-add-mod' number 64)) (sym (zero-add place))
    ∙ xor_block 6 (number / 64) 0 (number % 64) place low small
    ∙ ap (λ (x : ℕ). x * 64 + bit_xor (number % 64) place) (xor_zero_r (number / 64)) in
    let none : bit_xor (number % 64) place ≡ 0 = omega (arith, parts, e, even, xor_lt 6 (number % 64) place low small) in
    omega (arith, parts, e, none, xor_none (number % 64) place none, div-add-mod' number 64)

-- the number and the length of what differs
number_of : (word place first : ℕ) → bit_xor (bit_xor word place) (first * 32768) / 32768 ≡ bit_xor (bit_xor (word / 32768) (place / 32768)) first
number_of word place first =
    xor_shr (bit_xor word place) (first * 32768) 15
    ∙ ap₂ bit_xor (xor_shr word place 15) (let e : first * 32768 / 32768 ≡ first = omega arith in e)

length_of_lem : (word place first : ℕ) → place % 32768 ≡ 0 → bit_xor (bit_xor word place) (first * 32768) % 32768 ≡ word % 32768
length_of_lem word place first even =
    xor_mod (bit_xor word place) (first * 32768) 15
    ∙ ap₂ bit_xor (xor_mod word place 15 ∙ ap (bit_xor (word % 32768)) even ∙ xor_zero_r (word % 32768)) (let e : first * 32768 % 32768 ≡ 0 = omega arith in e)
    ∙ xor_zero_r (word % 32768)

pub returns : goal.returns
returns c =
    let a = c.args in
    let p = c.requires in
    λ h k.
    let low = xor_lt 31 a.word a.place k (omega arith) in
    let differ = xor_lt 31 (bit_xor a.word a.place) (a.first * 32768) low (omega arith) in
    let few : bit_xor (bit_xor a.word a.place) (a.first * 32768) ≤ a.room = omega (arith, differ, h) in
    let none : bit_xor (bit_xor (a.word / 32768) (a.place / 32768)) a.first ≡ 0 = omega (arith, number_of a.word a.place a.first, few) in
    let number = stands (a.word / 32768) a.first (a.place / 32768) p.1 (omega arith) (xor_none _ _ none) in
    (inl number, omega (arith, length_of_lem a.word a.place a.first p.3, few))
