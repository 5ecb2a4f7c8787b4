-- The two ways of a test, and of an order. Assumes nothing.
use mathlib.Core.Path.{◌≡◌, refl, sym, ◌∙◌}
use mathlib.Core.Bool.{Bool, true, false, not, ◌&&◌, ◌||◌, true≢false}
use mathlib.Core.Logic.{◌⊎◌, inl, inr}
use Rattle.std.specs.Prelude.{Result, Ok, Err}
use Prim.Native.Nat.{ℕ, ◌≤◌, ◌<◌}
use native.Mathlib.Omega.{arith}
use native.Mathlib.Decide.{dec_lt}

-- a test has two ways, and each knows which it is
pub case : {G : Type 0} (b : Bool) → (b ≡ true → G) → (b ≡ false → G) → G
case true f g = f refl
case false f g = g refl

-- no test has both
pub both : {G : Type 0} {b : Bool} → b ≡ true → b ≡ false → G
both p q = absurd (true≢false (sym p ∙ q))

-- what a negated test says of the test
pub off : (b : Bool) → not b ≡ true → b ≡ false
off true e = sym e
off false e = refl

pub on : (b : Bool) → not b ≡ false → b ≡ true
on true e = refl
on false e = sym e

-- where two tests hold together, each holds
pub each : (a b : Bool) → (a && b) ≡ true → (a ≡ true) × (b ≡ true)
each true b e = (refl, e)
each false b e = both e refl

-- where neither of two tests holds
pub neither : (a b : Bool) → (a || b) ≡ false → (a ≡ false) × (b ≡ false)
neither true b e = both refl e
neither false b e = (refl, e)

-- of two numbers the first is less, or the second is at most the first
pub lt_or_le : (a b : ℕ) → (a < b) ⊎ (b ≤ a)
lt_or_le a b = elim (dec_lt a b) [ yes h ↦ inl h | no h ↦ inr (omega arith) ]

-- no refusal is an answer, and no answer a refusal
pub no_answer : {A E G : Type 0} {w : E} {x : A} → ◌≡◌ {A = Result A E} (Err w) (Ok x) → G
no_answer e = absurd (let z : ◌≡◌ {A = ℕ} 0 1 = cc in omega arith)

pub no_refusal : {A E G : Type 0} {x : A} {w : E} → ◌≡◌ {A = Result A E} (Ok x) (Err w) → G
no_refusal e = no_answer (sym e)

-- two answers that are one have one value, and two refusals one reason
pub same_answer : {A E : Type 0} {x y : A} → ◌≡◌ {A = Result A E} (Ok x) (Ok y) → x ≡ y
same_answer e = cc

pub same_reason : {A E : Type 0} {v w : E} → ◌≡◌ {A = Result A E} (Err v) (Err w) → v ≡ w
same_reason e = cc
