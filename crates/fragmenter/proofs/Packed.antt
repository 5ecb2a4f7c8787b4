-- What is packed into a word is read from it again: each field is a digit of the word. Assumes nothing.
use mathlib.Core.Path.{◌≡◌, ap, ◌∙◌}
use Prim.Native.Nat.{ℕ, ◌+◌, ◌*◌, ◌/◌, ◌%◌, ◌<◌}
use native.Mathlib.Nat.{mod-eq_of_lt}
use native.Mathlib.Omega.{arith}
use lib.Arith.{digits_div, digits_mod}
use Rattle.reassembly_plan.specs.Words.{entry_of, entry_word, header_of, header_word}
use Rattle.reassembly_plan.specs.declared.words.Entry.{Entry}
use Rattle.reassembly_plan.specs.declared.words.AckHeader.{AckHeader}
use Rattle.fragmenter.specs.Unpacked.{Unpacked}

-- the digit above `low` of a word
digit : (w q m n low : ℕ) → low < m → w ≡ q * m + low → w / m % n ≡ q % n
digit w q m n low h e = ap (λ (x : ℕ). x / m % n) e ∙ ap (λ (x : ℕ). x % n) (digits_div q h)

last : (w q m low : ℕ) → low < m → w ≡ q * m + low → w % m ≡ low
last w q m low h e = ap (λ (x : ℕ). x % m) e ∙ digits_mod q h

pub entry_again : (e : Entry) → e.total < 256 → e.received < 256 → e.ids < 65536 → e.joined < 65536 → entry_of (entry_word e) ≡ e
entry_again e t r d j =
    let a = e.total in
    let b = e.received in
    let x = e.ids in
    let y = e.joined in
    let total-is : entry_word e % 256 ≡ a = last (entry_word e) (b + x * 256 + y * 16777216) 256 a t (omega arith) in
    let received_is : entry_word e / 256 % 256 ≡ b =
    digit (entry_word e) (b + x * 256 + y * 16777216) 256 256 a t (omega arith)
    ∙ last (b + x * 256 + y * 16777216) (x + y * 65536) 256 b r (omega arith) in
    let ids-is : entry_word e / 65536 % 65536 ≡ x =
    digit (entry_word e) (x + y * 65536) 65536 65536 (a + b * 256) (omega arith) (omega arith)
    ∙ last (x + y * 65536) y 65536 x d (omega arith) in
    let joined_is : entry_word e / 4294967296 % 65536 ≡ y =
    digit (entry_word e) y 4294967296 65536 (a + b * 256 + x * 65536) (omega arith) (omega arith) ∙ mod-eq_of_lt j in
    λ i. record { total = total-is i; received = received_is i; ids = ids-is i; joined = joined_is i }

pub header_again : (h : AckHeader) → h.number.0 < 65536 → h.acked.0 < 65536 → header_of (header_word h) ≡ h
header_again h n a =
    let x = h.number.0 in
    let y = h.acked.0 in
    let v = h.field in
    let number_is : header_word h % 65536 ≡ x = last (header_word h) (y + v * 65536) 65536 x n (omega arith) in
    let acked-is : header_word h / 65536 % 65536 ≡ y =
    digit (header_word h) (y + v * 65536) 65536 65536 x n (omega arith) ∙ last (y + v * 65536) v 65536 y a (omega arith) in
    let w : header_word h ≡ v * 4294967296 + (x + y * 65536) = omega arith in
    let field_is : header_word h / 4294967296 ≡ v =
    ap (λ (q : ℕ). q / 4294967296) w ∙ digits_div v {m = 4294967296} {r = x + y * 65536} (omega arith) in
    λ i. record { number = record { 0 = number_is i }; acked = record { 0 = acked-is i }; field = field_is i }

pub unpacked : Unpacked
unpacked = record { entry_again = entry_again; header_again = header_again }
