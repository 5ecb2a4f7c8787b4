-- The two tests are the two halves of `sound`.
use mathlib.Core.Path.{sym, ◌∙◌}
use Rattle.acks.specs.Gate.{sound}
use Rattle.acks.proofs.home.is_sound.Goals as goal

pub returns-then-not-is_record_sound : goal.returns-then-not-is_record_sound
unfolding sound
returns-then-not-is_record_sound c = rw (sym c.is_record_sound.ensures ∙ c.if-not-is_record_sound.true)

pub returns : goal.returns
unfolding sound
returns c = rw (sym c.is_record_sound.ensures ∙ c.if-not-is_record_sound.false) c.is_flight_sound.ensures
