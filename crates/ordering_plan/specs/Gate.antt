-- Document 01, "Order: 1, 2, 13", which every call of a user tries first.
use Rattle.std.specs.Prelude.{ℕ, ◌+◌, ◌*◌, Bool, true, cond, not, ◌&&◌, ◌||◌, List, [], ◌∷◌, ltb, leb, length, take, Result, Ok, Err, ⊤}
use Rattle.keys.specs.Keys.{twice}
use Rattle.terms.specs.Sizes.{in_range}
use Rattle.terms.specs.declared.Sizes.{Sizes}
use Rattle.terms.specs.declared.Refusal.TheVariants.{BadSizes, BadStorage, BadState}
use Rattle.ordering_plan.specs.State.{State}
use Rattle.ordering_plan.specs.declared.OrderingStream.{OrderingStream}
use Rattle.terms.specs.declared.Refusal.{Refusal}

-- 2: a table of 64 places, the bytes of 64 items or "an output buffer of 16 x F + 17" is too short
unfoldable pub too_short : ℕ → State → List ℕ → Bool
too_short f s output =
    ltb (length s.index) 64 || (ltb (length s.lengths) 64 || (ltb (length s.bytes) (64 * f) || ltb (length output) (16 * f + 17)))

-- no length is over f
unfoldable pub all_fit : ℕ → List ℕ → Bool
all_fit f [] = true
all_fit f (n ∷ ns) = leb n f && all_fit f ns

-- not 13: "a recorded length, or a number of things held, is over what its slot or table holds .. or one table has its
-- key twice (.. the index among one stream's held items)"
unfoldable pub sound : ℕ → OrderingStream → List ℕ → List ℕ → Bool
sound f s index lengths =
    leb s.held 64 && (all_fit f (take s.held lengths) && not (twice (take s.held index)))

unfoldable pub gate_of : Sizes → State → List ℕ → Result ⊤ Refusal
gate_of z s output =
    cond (not (in_range z)) (Err BadSizes)
    (cond (too_short z.fragment_size s output) (Err BadStorage)
    (cond (not (sound z.fragment_size s.stream s.index s.lengths)) (Err BadState)
    (Ok tt)))
