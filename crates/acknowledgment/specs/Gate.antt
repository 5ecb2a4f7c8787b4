-- What each call tries first, in two steps: 1 and 2, and then 13.
use Rattle.std.specs.Prelude.{◌≡◌, ℕ, Bool, true, false, cond, List, Result, Ok, Err}
use Rattle.terms.specs.Sizes.{in_range}
use Rattle.terms.specs.declared.Sizes.{Sizes}
use Rattle.terms.specs.declared.Refusal.{Refusal}
use Rattle.terms.specs.declared.Refusal.TheVariants.{BadSizes, BadStorage, BadState}
use Rattle.flight_home.specs.AtHome.{AtHome}
use Rattle.acks.specs.State.{table_of, slot_of}
use Rattle.acks.specs.Gate.{sound}

abbrev pub opened : Sizes → Bool → Result (Unit {0}) Refusal
opened z is_lent = cond (in_range z) (cond is_lent (Ok tt) (Err BadStorage)) (Err BadSizes)

-- a sound end, and whether its packets in flight are seen to be at home; or 13
abbrev pub Judged : Sizes → List ℕ → List ℕ → Result Bool Refusal → Type 0
Judged z received number (Ok home) = (sound z received number ≡ true) × (home ≡ true → AtHome (slot_of z) (table_of z number))
Judged z received number (Err why) = (sound z received number ≡ false) × (why ≡ BadState)
