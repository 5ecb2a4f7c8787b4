-- Document 01, "Order: 1, 2, 13": what every call of a user tries first.
use Rattle.std.specs.Prelude.{ℕ, zero, suc, ◌+◌, ◌*◌, Bool, true, cond, not, ◌&&◌, ◌||◌, List, ltb, leb, eqb, length, get_or, take, Result, Ok, Err, ⊤}
use Rattle.laws.specs.Bits.{bit}
use Rattle.keys.specs.Keys.{twice}
use Rattle.terms.specs.Sizes.{in_range}
use Rattle.terms.specs.declared.Sizes.{Sizes}
use Rattle.terms.specs.declared.Refusal.TheVariants.{BadSizes, BadStorage, BadState}
use Rattle.reassembly_plan.specs.Words.{entry_of}
use Rattle.reassembly_plan.specs.declared.words.Entry.{Entry}
use Rattle.terms.specs.declared.Refusal.{Refusal}

-- how many of the numbers below n have p
unfoldable pub count_below : (ℕ → Bool) → ℕ → ℕ
count_below p zero = 0
count_below p (suc n) = cond (p n) 1 0 + count_below p n

-- all of them have it
unfoldable pub all_below : (ℕ → Bool) → ℕ → Bool
all_below p zero = true
all_below p (suc n) = p n && all_below p n

-- not 13: "an entry's received count isn't that of its received ids or its joined length is over F times that"
unfoldable pub entry_sound : ℕ → Entry → Bool
entry_sound f e = eqb e.received (count_below (bit e.ids) 16) && leb e.joined (f * e.received)

-- what stands beside a slot without a number may be anything
abbrev pub sound_at : ℕ → List ℕ → List ℕ → ℕ → Bool
sound_at f slots entry k = leb 65536 (get_or slots k 0) || entry_sound f (entry_of (get_or entry k 0))

-- .. "or one table has its key twice (the packet number .. in reassembly)"
unfoldable pub sound : ℕ → List ℕ → List ℕ → Bool
sound f slots entry = all_below (sound_at f slots entry) (length slots) && not (twice slots)

-- 2: "C x 16 x F reassembly .. and an output buffer of 16 x F + 17", and columns of C
unfoldable pub too_short : ℕ → ℕ → List ℕ → List ℕ → List ℕ → List ℕ → List ℕ → Bool
too_short f c slots entry header bytes output =
    ltb (length slots) c || (ltb (length entry) c || (ltb (length header) c || (ltb (length bytes) (c * (16 * f)) || ltb (length output) (16 * f + 17))))

unfoldable pub gate_of : Sizes → List ℕ → List ℕ → List ℕ → List ℕ → List ℕ → Result ⊤ Refusal
gate_of z slots entry header bytes output =
    cond (not (in_range z)) (Err BadSizes)
    (cond (too_short z.fragment_size z.reassembly_slots slots entry header bytes output) (Err BadStorage)
    (cond (not (sound z.fragment_size (take z.reassembly_slots slots) entry)) (Err BadState)
    (Ok tt)))
