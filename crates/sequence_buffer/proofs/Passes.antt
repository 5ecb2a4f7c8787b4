-- Slots of which nothing goes. Assumes nothing.
use mathlib.Core.Path.{◌≡◌, refl}
use mathlib.Core.Bool.{Bool, false, ◌&&◌}
use mathlib.Core.List.{List, [], ◌∷◌, map}
use mathlib.Core.Logic.{⊎_elim}
use Prim.Native.Nat.{ℕ, suc, ◌<◌, zero-le, suc-le-suc}
use native.Mathlib.Omega.{arith}
use lib.ListN.{length, get_or}
use lib.Dec.{ltb, leb}
use borrow.Author.Tests.{lt-ltb, le-ltb, lt-leb}
use Rattle.laws.proofs.Cases.{lt_or_le}
use Rattle.serial.specs.Order.{back}
use Rattle.sequence_buffer.specs.Buffer.{goes, emptied}

stays : (t : ℕ → Bool) (e : ℕ) → t e ≡ false → emptied t e ≡ e
unfolding emptied
stays t e q = rw q

all_stay : (t : ℕ → Bool) (l : List ℕ) → ((j : ℕ) → j < length l → t (get_or l j 0) ≡ false) → l ≡ map (emptied t) l
all_stay t [] h = refl
all_stay t (x ∷ l) h = rw (stays t x (h 0 (suc-le-suc zero-le)), ← all_stay t l (λ j q. h (suc j) (suc-le-suc q)))

-- a number that comes in order passes only itself
only_itself : (n e : ℕ) → n < 65536 → (e ≡ n → ⊥) → goes false n n e ≡ false
unfolding goes
only_itself n e small apart =
    ⊎_elim
    (λ v.
    let beyond : (ltb e 65536 && leb (back e n) (back n n)) ≡ false = rw (lt-ltb e 65536 v, lt-leb (back e n) (back n n) (later n e small v apart)) in
    beyond)
    (λ v. rw (le-ltb e 65536 v))
    (lt_or_le e 65536)
  where
    later : (n e : ℕ) → n < 65536 → e < 65536 → (e ≡ n → ⊥) → back n n < back e n
    later n e small v apart = ⊎_elim (λ w. omega arith) (λ w. ⊎_elim (λ z. omega arith) (λ z. absurd (apart (omega arith))) (lt_or_le n e)) (lt_or_le e n)

pub none_go : (n : ℕ) (l : List ℕ) → n < 65536 → ((j : ℕ) → j < length l → get_or l j 0 ≡ n → ⊥) → l ≡ map (emptied (goes false n n)) l
none_go n l small apart = all_stay (goes false n n) l (λ j h. only_itself n (get_or l j 0) small (apart j h))
