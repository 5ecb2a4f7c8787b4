-- The four streams' parts of a table, and what is planned by the place. Assumes nothing.
use Prim.Native.Nat.{ℕ, suc, ◌+◌, ◌*◌, ◌≤◌, ◌<◌}
use mathlib.Core.Path.{◌≡◌}
use mathlib.Core.List.{List}
use mathlib.Core.Logic.{⊎_elim}
use native.Mathlib.Nat.{suc-mul, mul-le-mul_right, eq-or-lt_of_le}
use native.Mathlib.Omega.{arith}
use borrow.Author.Tests.{eq-eqb, ne_eqb}
use lib.ListN.{length, take, drop, length-drop}
use lib.Seq.{length-take-le}
use Rattle.std.specs.Prelude.{Err}
use Rattle.terms.specs.declared.Refusal.TheVariants.{NoStream}
use Rattle.keys.proofs.First.{first_le}
use Rattle.ordering_plan.specs.Arrange.{plan_of}
use Rattle.arranging_plan.specs.Ids.{place_of}
use Rattle.arranging_plan.specs.Ordered.{part, stream_at, plan_on}
use Rattle.arranging_plan.specs.declared.ids.StreamIds.{StreamIds}
use Rattle.arranging_plan.specs.declared.ordered.OrderingStreams.{OrderingStreams}

pub block_end : (j r : ℕ) → j < 4 → j * r + r ≤ 4 * r
block_end j r h = rw (suc-mul j r) at (mul-le-mul_right {m = suc j} {n = 4} r h)

-- a part that is lent is as long as it was asked for
pub part_length : (s : List ℕ) (a n : ℕ) → a + n ≤ length s → length (part s a n) ≡ n
part_length s a n h = length-take-le n (drop a s) (rw (length-drop a s) (omega arith))

-- a place that is not the fifth is one of the four
pub place_lt : (n : StreamIds) (id : ℕ) → n.made ≤ 4 → n.made ≤ length n.ids → (place_of n id ≡ 4 → ⊥) → place_of n id < 4
place_lt n id few long ne =
    let l : length (take n.made n.ids) ≡ n.made = length-take-le n.made n.ids long in
    let le = first_le id (take n.made n.ids) in
    let four : place_of n id ≤ 4 = omega arith in
    ⊎_elim (λ e. absurd (ne e)) (λ h. h) (eq-or-lt_of_le four)

module _ (s : OrderingStreams) (index : List ℕ) (id i j : ℕ) (e : place_of s.known id ≡ j) where
  pub plan_none : j ≡ 4 → plan_on s index id i ≡ record { at = 4; plan = Err NoStream }
  unfolding plan_on
  plan_none h = rw (e, eq-eqb j 4 h)

  pub plan_on_lem : (j ≡ 4 → ⊥) → plan_on s index id i ≡ record { at = j; plan = plan_of (stream_at s j) (part index (j * 64) 64) i }
  unfolding plan_on
  plan_on_lem h = rw (e, ne_eqb j 4 h)
