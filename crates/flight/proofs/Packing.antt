-- A record that was packed is read again. Assumes nothing.
use Rattle.std.proofs.Common.{◌≡◌, ℕ, ◌+◌, ◌*◌, ◌/◌, ◌%◌, ◌<◌, ap, ◌∙◌, mod-eq_of_lt, arith}
use native.Mathlib.Nat.{add-mul-mod_self_right}
use Rattle.flight.specs.Entry.{packed, packet_of}
use Rattle.flight.specs.declared.SentPacket.{SentPacket}

-- the lowest part of a word is its remainder
low : (word part rest size : ℕ) → word ≡ part + rest * size → part < size → word % size ≡ part
low word part rest size e h = ap (λ (x : ℕ). x % size) e ∙ add-mul-mod_self_right part rest size ∙ mod-eq_of_lt h

pub packet_packed : (sent : SentPacket) → sent.ordering < 256 → sent.stream < 256 → sent.item.0 < 65536 → packet_of (packed sent) ≡ sent
packet_packed sent o s i =
    let p = low (packed sent) sent.ordering (sent.stream + sent.item.0 * 256) 256 (omega arith) o in
    let q = low (packed sent / 256) sent.stream sent.item.0 256 (omega arith) s in
    let r = low (packed sent / 65536) sent.item.0 0 65536 (omega arith) i in
    λ k. record { ordering = p k; stream = q k; item = record { 0 = r k } }
