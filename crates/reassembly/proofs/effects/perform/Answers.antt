use mathlib.Core.Path.{refl}
use Rattle.reassembly.specs.Effects.{performed, num_after, slots_after, entry_after, header_after, bytes_after, output_after, answer_of}
use Rattle.reassembly.proofs.effects.perform.Goals as goal

pub returns-in-Err : goal.returns-in-Err
unfolding performed num_after slots_after entry_after header_after bytes_after output_after answer_of
returns-in-Err c =
    rw c.in-Err.is
    (record { number = refl; answer = refl; slots_are = refl; entry_is = refl; header_is = refl; bytes_are = refl; output_is = refl })
