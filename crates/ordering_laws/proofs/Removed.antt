-- An item is taken: the stream stays good, the item is held no more, and what else is held stays. Assumes nothing.
use Prim.Native.Nat.{ℕ, ◌+◌, ◌*◌, ◌≤◌, ◌<◌}
use mathlib.Core.Path.{◌≡◌, refl, sym, ap, ◌∙◌}
use mathlib.Core.List.{List}
use mathlib.Core.Bool.{cond}
use mathlib.Core.Logic.{⊎_elim}
use native.Mathlib.Nat.{lt_irrefl, eq-or-lt_of_le}
use native.Mathlib.Omega.{arith}
use borrow.Author.Tests.{eq-eqb, ne_eqb}
use lib.Dec.{eqb}
use lib.ListN.{length, get_or, drop, set, length-set, length-drop}
use lib.Seq.{length-paste, get_or-set_same, get_or-set_other}
use Rattle.std.specs.Prelude.{Ok, Some, None}
use Rattle.laws.proofs.Paste.{part_same, part_other, places_apart}
use Rattle.ordering_plan.specs.State.{State}
use Rattle.ordering.specs.Take.{next_place, last_place, taken}
use Rattle.ordering.proofs.Places.{place_end}
use Rattle.ordering_laws.specs.Held.{bytes_at, held_at, Good}
use Rattle.ordering_laws.proofs.Found.{same?, place_at, at_absent, same_held}

module _ (f : ℕ) (s : State) (g : Good f s) (n : ℕ) (here : next_place s < s.stream.held) where
  abbrev K : ℕ
  K = next_place s

  abbrev L : ℕ
  L = last_place s

  abbrev pub Left : State
  Left = taken (Ok (Some n)) f s

  -- where what stands at place j came from
  from : ℕ → ℕ
  from j = cond (eqb j K) L j

  from_own : from K ≡ L
  unfolding from
  from_own = rw (eq-eqb K K refl)

  from_other : (j : ℕ) → (j ≡ K → ⊥) → from j ≡ j
  unfolding from
  from_other j ne = rw (ne_eqb j K ne)

  from_lt : (j : ℕ) → j < L → from j < s.stream.held
  from_lt j h =
      ⊎_elim (λ (e : j ≡ K). rw (e, from_own) (omega arith)) (λ (ne : j ≡ K → ⊥). rw (from_other j ne) (omega arith)) (same? j K)

  from_inj : (i j : ℕ) → i < L → j < L → from i ≡ from j → i ≡ j
  from_inj i j p q e =
      ⊎_elim
      (λ (a : i ≡ K).
      ⊎_elim (λ (b : j ≡ K). a ∙ sym b) (λ (b : j ≡ K → ⊥). absurd (lt_irrefl L (rw (sym (from_other j b) ∙ sym e ∙ ap from a ∙ from_own) at q))) (same? j K))
      (λ (a : i ≡ K → ⊥).
      ⊎_elim (λ (b : j ≡ K). absurd (lt_irrefl L (rw (sym (from_other i a) ∙ e ∙ ap from b ∙ from_own) at p)))
      (λ (b : j ≡ K → ⊥). sym (from_other i a) ∙ e ∙ from_other j b)
      (same? j K))
      (same? i K)

  -- a column in which the last entry took the place
  column_from : (l : List ℕ) → 64 ≤ length l → (j : ℕ) → get_or (set l K (get_or l L 0)) j 0 ≡ get_or l (from j) 0
  column_from l long j =
      let c = g.room.few in
      ⊎_elim
      (λ (e : j ≡ K). rw (e, from_own) (get_or-set_same l K (get_or l L 0) 0 (omega arith)))
      (λ (ne : j ≡ K → ⊥). rw (from_other j ne) (get_or-set_other l K j (get_or l L 0) 0 ne))
      (same? j K)

  index_from : (j : ℕ) → get_or Left.index j 0 ≡ get_or s.index (from j) 0
  index_from j = column_from s.index g.room.indices j

  length_from : (j : ℕ) → get_or Left.lengths j 0 ≡ get_or s.lengths (from j) 0
  length_from j = column_from s.lengths g.room.lengths j

  last_short : get_or s.lengths L 0 ≤ f
  last_short = g.room.short L (omega arith)

  to_room : K * f + get_or s.lengths L 0 ≤ length s.bytes
  to_room = let c = g.room.few in omega (arith, last_short, g.room.bytes, place_end K f (omega arith))

  from_room : get_or s.lengths L 0 ≤ length (drop (L * f) s.bytes)
  from_room = let c = g.room.few in rw (length-drop (L * f) s.bytes) (omega (arith, last_short, g.room.bytes, place_end L f (omega arith)))

  pub left_bytes : length Left.bytes ≡ length s.bytes
  left_bytes = length-paste s.bytes (K * f) (drop (L * f) s.bytes) (get_or s.lengths L 0) to_room from_room

  pub left_good : Good f Left
  left_good =
      record {
        room =
            record {
              small = g.room.small;
              few = let c = g.room.few in omega arith;
              indices = rw (length-set s.index K (get_or s.index L 0)) g.room.indices;
              lengths = rw (length-set s.lengths K (get_or s.lengths L 0)) g.room.lengths;
              bytes = rw left_bytes g.room.bytes;
              short = λ j h. rw (length_from j) (g.room.short (from j) (from_lt j h));
            };
        once = λ i j p q key e.
            from_inj i j p q (g.once (from i) (from j) (from_lt i p) (from_lt j q) (rw (sym (index_from i)) key) (sym (index_from i) ∙ e ∙ index_from j));
      }

  bytes_from : (j : ℕ) → j < L → bytes_at f Left j ≡ bytes_at f s (from j)
  bytes_from j h =
      rw (length_from j)
      (⊎_elim
      (λ (e : j ≡ K). rw (e, from_own) (part_same s.bytes (K * f) (drop (L * f) s.bytes) (get_or s.lengths L 0) to_room from_room))
      (λ (ne : j ≡ K → ⊥). rw (from_other j ne)
      (part_other s.bytes (K * f) (drop (L * f) s.bytes) (get_or s.lengths L 0) (j * f) (get_or s.lengths j 0) to_room from_room
      (places_apart j K f (get_or s.lengths j 0) (get_or s.lengths L 0) ne (g.room.short j (omega arith)) last_short)))
      (same? j K))

  own : get_or s.index K 0 ≡ s.stream.expected_index.0
  own = place_at f s g s.stream.expected_index.0 here

  pub left_other : (y : ℕ) → y < 65536 → (y ≡ s.stream.expected_index.0 → ⊥) → held_at f Left y ≡ held_at f s y
  left_other y small ne =
      same_held f s Left g left_good y small
      (λ j h e.
      let other : j ≡ K → ⊥ = λ q. ne (sym e ∙ ap (λ (i : ℕ). get_or s.index i 0) q ∙ own) in
      ⊎_elim
      (λ (q : j ≡ L).
      let b : K < L = ⊎_elim (λ (z : K ≡ L). absurd (other (q ∙ sym z))) (λ (z : K < L). z) (eq-or-lt_of_le {n = K} {m = L} (omega arith)) in
      (K, b, index_from K ∙ rw (from_own, ← q) e, bytes_from K b ∙ rw (from_own, ← q)))
      (λ (q : j < L). (j, q, index_from j ∙ rw (from_other j other) e, bytes_from j q ∙ rw (from_other j other)))
      (eq-or-lt_of_le {n = j} {m = L} (omega arith)))
      (λ away j h e. away (from j) (from_lt j h) (sym (index_from j) ∙ e))

  pub left_here : s.stream.expected_index.0 < 65536 → held_at f Left s.stream.expected_index.0 ≡ None
  left_here small =
      at_absent f Left left_good s.stream.expected_index.0
      (λ j h e.
      let k : get_or s.index (from j) 0 ≡ s.stream.expected_index.0 = sym (index_from j) ∙ e in
      let q : from j ≡ K = g.once (from j) K (from_lt j h) here (omega arith) (k ∙ sym own) in
      ⊎_elim
      (λ (a : j ≡ K). lt_irrefl L (rw (a ∙ sym q ∙ ap from a ∙ from_own) at h))
      (λ (a : j ≡ K → ⊥). a (sym (from_other j a) ∙ q))
      (same? j K))
