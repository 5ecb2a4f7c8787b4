-- What a byte of the standard header reads as, where it does and where it does not. Assumes nothing.
use mathlib.Core.Path.{◌≡◌, refl, sym}
use mathlib.Core.Bool.{Bool, true, false, cond}
use Rattle.std.specs.Prelude.{Ok, Err}
use Rattle.laws.proofs.Cases.{no_answer}
use Rattle.terms.specs.declared.Refusal.{Refusal}
use Rattle.terms.specs.declared.Refusal.TheVariants.{BadHeader}

pub known : {A : Type 0} (b : Bool) (x y : A) → Ok y ≡ cond b (Err BadHeader) (Ok x) → (b ≡ false) × (y ≡ x)
known true x y e = no_answer (sym e)
known false x y e = (refl, cc)

pub refused : {A : Type 0} (b : Bool) (x : A) (w : Refusal) → Err w ≡ cond b (Err BadHeader) (Ok x) → (b ≡ true) × (w ≡ BadHeader)
refused true x w e = (refl, cc)
refused false x w e = no_answer e
