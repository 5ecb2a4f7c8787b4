-- 1, 2, 13 of the ordered streams, which every call of a user tries first; and which plans are refusals.
use Rattle.std.specs.Prelude.{ℕ, ◌+◌, ◌*◌, Bool, true, false, cond, not, ◌||◌, List, ltb, length, Result, Ok, Err, ⊤}
use Rattle.terms.specs.Sizes.{in_range}
use Rattle.terms.specs.declared.Sizes.{Sizes}
use Rattle.terms.specs.declared.Refusal.TheVariants.{BadSizes, BadStorage, BadState}
use Rattle.ordering_plan.specs.declared.Arranged.{Arranged}
use Rattle.arranging_plan.specs.Ordered.{States, sound_all}
use Rattle.terms.specs.declared.Refusal.{Refusal}

-- 2: a table of 4 x 64 places, the bytes of 4 x 64 items or "an output buffer of 16 x F + 17" is too short
unfoldable pub too_short : ℕ → List ℕ → List ℕ → List ℕ → List ℕ → Bool
too_short f index lengths bytes output =
    ltb (length index) 256 || (ltb (length lengths) 256 || (ltb (length bytes) (256 * f) || ltb (length output) (16 * f + 17)))

unfoldable pub gate_of : Sizes → States → List ℕ → Result ⊤ Refusal
gate_of z s output =
    cond (not (in_range z)) (Err BadSizes)
    (cond (too_short z.fragment_size s.index s.lengths s.bytes output) (Err BadStorage)
    (cond (not (sound_all z.fragment_size s.counters s.index s.lengths)) (Err BadState)
    (Ok tt)))

abbrev pub is_refused : Result Arranged Refusal → Bool
is_refused (Ok plan) = false
is_refused (Err why) = true
