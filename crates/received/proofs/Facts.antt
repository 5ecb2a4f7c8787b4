-- What the field says, bit by bit. Assumes nothing.
use Rattle.std.proofs.Common.{◌≡◌, ℕ, ◌+◌, ◌-◌, ◌≤◌, List, refl, ap, ◌∙◌, arith}
use Rattle.laws.specs.Bits.{bit, bits_below}
use Rattle.laws.proofs.Bits.{bits_lt, bits_at}
use Rattle.serial.specs.Order.{back}
use Rattle.sequence_buffer.specs.Buffer.{holds}
use Rattle.received.specs.Field.{newest_of, heard, field_of, FieldFacts}

each : (num : ℕ) (slots : List ℕ) (i : ℕ) → 1 ≤ i → i ≤ 32 → bit (field_of num slots) (i - 1) ≡ holds slots (back (newest_of num) i)
unfolding field_of
each num slots i h k =
    let e : i - 1 + 1 ≡ i = omega arith in
    bits_at (heard (newest_of num) slots) 32 (i - 1) (omega arith) ∙ ap (λ (j : ℕ). holds slots (back (newest_of num) j)) e

pub facts : FieldFacts
unfolding field_of bits_below
facts = record {
  each_bit = each;
  small = λ num slots. bits_lt (heard (newest_of num) slots) 32;
  fresh_newest = refl;
  fresh_field = refl;
}
