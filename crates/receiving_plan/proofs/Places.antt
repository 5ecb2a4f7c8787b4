-- Where a stream's place is. Assumes nothing.
use Prim.Native.Nat.{ℕ, ◌≤◌, ◌<◌}
use mathlib.Core.Path.{◌≡◌}
use mathlib.Core.Logic.{⊎_elim}
use native.Mathlib.Nat.{eq-or-lt_of_le, le_trans, min-le_left}
use lib.ListN.{length, take, length-take}
use Rattle.keys.proofs.First.{first_le}
use Rattle.arranging_plan.specs.Ids.{place_of}
use Rattle.arranging_plan.specs.declared.ids.StreamIds.{StreamIds}

-- a place that is not the fifth is one of the four
pub place_under : (n : StreamIds) (id : ℕ) → n.made ≤ 4 → (place_of n id ≡ 4 → ⊥) → place_of n id < 4
place_under n id few ne =
    let l : length (take n.made n.ids) ≤ n.made = rw (length-take n.made n.ids) (min-le_left _ _) in
    ⊎_elim (λ e. absurd (ne e)) (λ h. h) (eq-or-lt_of_le (le_trans (first_le id (take n.made n.ids)) (le_trans l few)))
