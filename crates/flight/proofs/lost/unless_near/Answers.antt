-- What is left of the difference is how far the entry is before the remote number.
use Rattle.std.proofs.Common.{◌≡◌, ℕ, ◌+◌, ◌/◌, ◌%◌, ◌<◌, ⊎_elim, arith, rules}
use Rattle.laws.proofs.Cases.{lt_or_le}
use Rattle.key_parts.specs.Words.{no_packet}
use Rattle.serial.specs.Order.{back}
use Rattle.flight.specs.Entry.{number_in}
use Rattle.flight.proofs.Walks.{no_lost, near_kept, after_kept}
use Rattle.flight.proofs.Words.{has_number, no_number}
use Rattle.flight.proofs.lost.unless_near.Goals as goal
use Rattle.flight.proofs.lost.unless_near.Goals.{then-before-lt33-via-then-before-lt33, then-before-lt33-via-else-before-lt33+then-before-gt32768}

before_is : (w entry remote : ℕ) → (w + entry) % 4294967296 ≡ remote → w < 4294967296 → entry < 65536 → remote < 65536 → w % 65536 ≡ back remote entry
before_is w entry remote e h v r = omega arith

pub returns-then-before-lt33 : goal.returns-then-before-lt33
returns-then-before-lt33 c =
    λ h.
    let a = c.args in
    let w = c.wrapping_sub_u32-before in
    ⊎_elim
    (λ v.
    let number = has_number a.word v in
    let before = before_is w.result (a.word / 32768) a.remote w.ensures.value (search rules) (omega arith) (search rules) in
    elim c.then-before-lt33.branch [
      | then-before-lt33-via-then-before-lt33 t ↦ near_kept a.remote (number_in a.word) (omega (arith, number, before, t.if-before-lt33.true))
      | then-before-lt33-via-else-before-lt33+then-before-gt32768 t ↦ after_kept a.remote (number_in a.word) (search rules) (omega arith) (omega (arith, number, before, t.if-before-gt32768.true))
    ])
    (λ v. no_lost a.remote (number_in a.word) (omega (arith, no_number a.word v)))
    (lt_or_le a.word no_packet)

pub returns : goal.returns
returns c = λ h. let a = c.args in no_lost a.remote (number_in a.word) (omega (arith, no_number a.word h))
