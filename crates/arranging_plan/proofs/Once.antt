-- A column has a key twice exactly where an entry's first place is not its own. Assumes nothing.
use Prim.Native.Nat.{ℕ, ◌<◌}
use mathlib.Core.Path.{◌≡◌, refl}
use mathlib.Core.Bool.{true, false}
use mathlib.Core.List.{List}
use mathlib.Core.Logic.{⊎_elim}
use native.Mathlib.Omega.{arith}
use lib.ListN.{length, get_or}
use Rattle.laws.proofs.Cases.{lt_or_le}
use Rattle.keys.specs.Keys.{first_place, twice}
use Rattle.keys.proofs.First.{first_at, first_min}
use Rattle.keys.proofs.Twice.{exact, all_apart}

pub not_home : (l : List ℕ) (i : ℕ) → i < length l → get_or l i 0 < 65536 → (first_place (get_or l i 0) l ≡ i → ⊥) → twice l ≡ true
not_home l i h key ne =
    let m = first_min (get_or l i 0) l i h refl in
    let k : first_place (get_or l i 0) l < i = ⊎_elim (λ z. z) (λ z. absurd (ne (omega arith))) (lt_or_le (first_place (get_or l i 0) l) i) in
    let e : get_or l (first_place (get_or l i 0) l) 0 ≡ get_or l i 0 = first_at (get_or l i 0) l (omega arith) in
    exact.if_same l (record { first = first_place (get_or l i 0) l; second = i; before = k; within = h; key = rw e key; same = e })

pub all_home : (l : List ℕ) → ((i : ℕ) → i < length l → first_place (get_or l i 0) l ≡ i) → twice l ≡ false
all_home l home =
    all_apart l
    (λ i j before within key same.
    let m = first_min (get_or l j 0) l i (omega arith) same in
    let e = home j within in
    omega arith)
