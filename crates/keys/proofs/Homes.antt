-- What it says of a column that each key stands at its own place. Assumes nothing.
--     step_home                a key that is its place added to a multiple of the length
--     home_once                no key stands twice
--     home_here, home-away     a key's first place is its own, or it is not there
use mathlib.Core.Path.{◌≡◌, sym, ap, ◌∙◌}
use mathlib.Core.Bool.{false}
use mathlib.Core.List.{List}
use mathlib.Core.Logic.{⊎_elim}
use Prim.Native.Nat.{ℕ, ◌+◌, ◌%◌, ◌<◌}
use native.Mathlib.Nat.{mod-lt, mod-eq_of_lt, mod-add-mod, zero-add}
use native.Mathlib.Omega.{arith}
use lib.ListN.{length, get_or}
use Rattle.laws.proofs.Cases.{lt_or_le}
use Rattle.keys.specs.Keys.{first_place, twice}
use Rattle.keys.specs.Home.{InStep, Home}
use Rattle.keys.proofs.Twice.{all_apart}
use Rattle.keys.proofs.First.{first_le, first_at, first_min}

shifted : (n lap j : ℕ) → lap % n ≡ 0 → j < n → (lap + j) % n ≡ j
shifted n lap j z h = sym (mod-add-mod lap n j) ∙ ap (λ (x : ℕ). (x + j) % n) z ∙ ap (λ (x : ℕ). x % n) (zero-add j) ∙ mod-eq_of_lt h

pub step_home : (n lap last j e : ℕ) → lap % n ≡ 0 → last % n ≡ 0 → j < n → InStep lap last j e → e < 65536 → e % n ≡ j
step_home n lap last j e z y h s key =
    ⊎_elim
    (λ q. ap (λ (x : ℕ). x % n) q ∙ shifted n lap j z h)
    (λ q. ap (λ (x : ℕ). x % n) q ∙ shifted n last j y h)
    (s key)

module _ (l : List ℕ) (h : Home l) where
  pub home_once : twice l ≡ false
  home_once =
      all_apart l
      (λ i j before within key same.
      let z : i ≡ j = sym (h.own i (omega arith) key) ∙ ap (λ (x : ℕ). x % length l) same ∙ h.own j within (omega arith) in
      omega arith)

  module _ (v : ℕ) (key : v < 65536) where
    -- where it stands is its own place
    own_first : first_place v l < length l → v % length l ≡ first_place v l
    own_first w =
        let e = first_at v l w in
        ap (λ (x : ℕ). x % length l) (sym e) ∙ h.own (first_place v l) w (omega arith)

    pub home_here : 0 < length l → get_or l (v % length l) 0 ≡ v → first_place v l ≡ v % length l
    home_here some e =
        let le = first_min v l (v % length l) (mod-lt v {m = length l} some) e in
        sym (own_first (omega (arith, mod-lt v {m = length l} some)))

    pub home-away : (get_or l (v % length l) 0 ≡ v → ⊥) → first_place v l ≡ length l
    home-away apart =
        ⊎_elim
        (λ w. absurd (apart (ap (λ (x : ℕ). get_or l x 0) (own_first w) ∙ first_at v l w)))
        (λ w. omega (arith, first_le v l))
        (lt_or_le (first_place v l) (length l))
