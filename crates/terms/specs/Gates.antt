-- "Order: 1, 2, 13; then ..": through an open gate a call says what it says, a shut one refuses it.
use Rattle.std.specs.Prelude.{Result, Ok, Err, ⊤}
use Rattle.terms.specs.declared.Refusal.{Refusal}

abbrev pub through : {A : Type 0} → Result ⊤ Refusal → (Refusal → A) → A → A
through (Err why) refused answer = refused why
through (Ok tt) refused answer = answer
