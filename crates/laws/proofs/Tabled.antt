-- A table's rule, proved once: the table is the list of the rule's values, which antt computes, and that list has the rule
-- at each place. Assumes nothing.
use mathlib.Core.Path.{◌≡◌}
use mathlib.Core.List.{List, [], ◌∷◌}
use Prim.Native.Nat.{ℕ, zero, suc, ◌+◌, ◌<◌}
use native.Mathlib.Nat.{add-zero, zero-add, add-suc, suc-add, le_of_suc-le-suc, not-suc-le-zero}
use lib.ListN.{get_or}

-- the rule at the n places from i on
abbrev pub tabled : {A : Type 0} → (ℕ → A) → ℕ → ℕ → List A
tabled rule i zero = []
tabled rule i (suc n) = rule i ∷ tabled rule (suc i) n

from : {A : Type 0} (rule : ℕ → A) (d : A) (n i k : ℕ) → k < n → get_or (tabled rule i n) k d ≡ rule (i + k)
from rule d zero i k h = absurd (not-suc-le-zero h)
from rule d (suc n) i zero h = rw add-zero
from rule d (suc n) i (suc k) h = rw add-suc (rw suc-add at (from rule d n (suc i) k (le_of_suc-le-suc h)))

pub at : {A : Type 0} (rule : ℕ → A) (d : A) (n k : ℕ) → k < n → get_or (tabled rule 0 n) k d ≡ rule k
at rule d n k h = rw zero-add at (from rule d n 0 k h)
