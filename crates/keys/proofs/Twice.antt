-- What `occurs` and `twice` say, place by place. Assumes nothing.
--     occurs_found, occurs_place     an entry occurs exactly where it stands at a place
--     exact                          `twice` is exact
--     all_apart                      a column of which no two places hold the same key
use mathlib.Core.Path.{◌≡◌, sym}
use mathlib.Core.Bool.{true, false, or-true}
use mathlib.Core.List.{List, [], ◌∷◌}
use Prim.Native.Nat.{ℕ, zero, suc, ◌<◌, zero-le, suc-le-suc}
use native.Mathlib.Nat.{not-suc-le-zero, le_of_suc-le-suc}
use native.Mathlib.Omega.{arith}
use lib.ListN.{length, get_or}
use lib.Dec.{ltb, eqb}
use borrow.Author.Tests.{lt-ltb, ltb-true, eq-eqb, eqb-true}
use Rattle.laws.proofs.Cases.{case}
use Rattle.keys.specs.Keys.{occurs, twice}
use Rattle.keys.specs.Exact.{SameKey, TwiceIsExact}

pub occurs_found : (l : List ℕ) (v j : ℕ) → j < length l → get_or l j 0 ≡ v → occurs v l ≡ true
unfolding occurs
occurs_found [] v j h e = absurd (not-suc-le-zero h)
occurs_found (x ∷ l) v zero h e = rw (eq-eqb x v e)
occurs_found (x ∷ l) v (suc j) h e = rw (occurs_found l v j (le_of_suc-le-suc h) e, or-true)

pub occurs_place : (l : List ℕ) (v : ℕ) → occurs v l ≡ true → (j : ℕ) × (j < length l) × (get_or l j 0 ≡ v)
unfolding occurs
occurs_place [] v e = absurd (let z : ◌≡◌ {A = ℕ} 0 1 = cc in omega arith)
occurs_place (x ∷ l) v e =
    case (eqb x v)
    (λ h. (0, suc-le-suc zero-le, eqb-true x v h))
    (λ h. let r = occurs_place l v (rw h at e) in (suc r.0, suc-le-suc r.1, r.2))

twice_found : (l : List ℕ) (i j : ℕ) → i < j → j < length l → get_or l i 0 < 65536 → get_or l i 0 ≡ get_or l j 0 → twice l ≡ true
unfolding twice
twice_found [] i j h k v e = absurd (not-suc-le-zero k)
twice_found (x ∷ l) i zero h k v e = absurd (not-suc-le-zero h)
twice_found (x ∷ l) zero (suc j) h k v e = rw (lt-ltb x 65536 v, occurs_found l x j (le_of_suc-le-suc k) (sym e))
twice_found (x ∷ l) (suc i) (suc j) h k v e = rw (twice_found l i j (le_of_suc-le-suc h) (le_of_suc-le-suc k) v e, or-true)

later : (x : ℕ) (l : List ℕ) → SameKey l → SameKey (x ∷ l)
later x l r = record {
  first = suc r.first;
  second = suc r.second;
  before = suc-le-suc r.before;
  within = suc-le-suc r.within;
  key = r.key;
  same = r.same;
}

twice_places : (l : List ℕ) → twice l ≡ true → SameKey l
unfolding twice
twice_places [] e = absurd (let z : ◌≡◌ {A = ℕ} 0 1 = cc in omega arith)
twice_places (x ∷ l) e =
    case (ltb x 65536)
    (λ h.
    case (occurs x l)
    (λ k.
    let r = occurs_place l x k in
    record {
      first = 0;
      second = suc r.0;
      before = suc-le-suc zero-le;
      within = suc-le-suc r.1;
      key = ltb-true x 65536 h;
      same = sym r.2;
    })
    (λ k. later x l (twice_places l (rw (h, k) at e))))
    (λ h. later x l (twice_places l (rw h at e)))

pub exact : TwiceIsExact
exact = record {
  if_same = λ l s. twice_found l s.first s.second s.before s.within s.key s.same;
  only_if_same = twice_places;
}

pub all_apart : (l : List ℕ)
    → ((i j : ℕ) → i < j → j < length l → get_or l i 0 < 65536 → get_or l i 0 ≡ get_or l j 0 → ⊥)
    → twice l ≡ false
all_apart l apart =
    case (twice l)
    (λ e. let s = twice_places l e in absurd (apart s.first s.second s.before s.within s.key s.same))
    (λ e. e)
