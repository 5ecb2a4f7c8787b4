-- An item is held: the stream stays good, the item is found again, and what else is held stays. Assumes nothing.
use Prim.Native.Nat.{ℕ, ◌+◌, ◌*◌, ◌≤◌, ◌<◌}
use mathlib.Core.Path.{◌≡◌, sym, ap, ◌∙◌}
use mathlib.Core.List.{List}
use mathlib.Core.Bool.{Bool, true, false, cond}
use mathlib.Core.Logic.{⊎_elim}
use native.Mathlib.Nat.{le_refl, lt_of_lt_of_le, eq-or-lt_of_le}
use native.Mathlib.Omega.{arith}
use borrow.Author.Tests.{eq-eqb, ne_eqb}
use lib.Dec.{eqb}
use lib.ListN.{length, get_or, length-set}
use lib.Seq.{take-length, length-paste, get_or-set_same, get_or-set_other}
use Rattle.std.specs.Prelude.{Ok, Some}
use Rattle.laws.proofs.Paste.{part_same, part_other, places_apart}
use Rattle.ordering_plan.specs.State.{State, place_of}
use Rattle.ordering_plan.specs.Arrange.{arranged}
use Rattle.ordering_plan.specs.declared.Arranged.TheVariants.{Held}
use Rattle.ordering.proofs.Places.{place_end}
use Rattle.ordering_plan.proofs.Planned.{place_le}
use Rattle.ordering_laws.specs.Held.{held_at, Good}
use Rattle.ordering_laws.proofs.Found.{same?, place_at, place_of_lem, at_found, same_held}

module _ (f : ℕ) (s : State) (g : Good f s) (x : ℕ) (p : List ℕ) (free : place_of s.stream s.index x < 64) (fits : length p ≤ f) where
  abbrev K : ℕ
  K = place_of s.stream s.index x

  abbrev pub Put : State
  Put = arranged (Ok (Held K)) f x p s

  K_le : K ≤ s.stream.held
  K_le = place_le s.stream s.index x (let r = g.room in omega arith)

  -- the place that is written is held then, every place that was held is, and no other
  n_le : s.stream.held ≤ Put.stream.held
  n_le = go (eqb K s.stream.held)
    where
      go : (t : Bool) → s.stream.held ≤ cond t (s.stream.held + 1) s.stream.held
      go true = omega arith
      go false = omega arith

  K_lt : K < Put.stream.held
  K_lt =
      ⊎_elim (λ (e : K ≡ s.stream.held). rw (eq-eqb K s.stream.held e) (omega arith)) (λ (h : K < s.stream.held). lt_of_lt_of_le h n_le)
      (eq-or-lt_of_le K_le)

  n_few : Put.stream.held ≤ 64
  n_few =
      let c = g.room.few in
      ⊎_elim (λ (e : K ≡ s.stream.held). rw (eq-eqb K s.stream.held e) (omega arith))
      (λ (h : K < s.stream.held). rw (ne_eqb K s.stream.held (λ e. omega arith)) c)
      (eq-or-lt_of_le K_le)

  n_old : (j : ℕ) → j < Put.stream.held → (j ≡ K → ⊥) → j < s.stream.held
  n_old j h ne =
      ⊎_elim
      (λ (e : K ≡ s.stream.held).
      let q : j < s.stream.held + 1 = rw (eq-eqb K s.stream.held e) at h in
      ⊎_elim (λ (q : j ≡ s.stream.held). absurd (ne (q ∙ sym e))) (λ (q : j < s.stream.held). q) (eq-or-lt_of_le {n = j} {m = s.stream.held} (omega arith)))
      (λ (e : K < s.stream.held). rw (ne_eqb K s.stream.held (λ q. omega arith)) at h)
      (eq-or-lt_of_le K_le)

  index_own : get_or Put.index K 0 ≡ x
  index_own = let i = g.room.indices in get_or-set_same s.index K x 0 (omega arith)

  index_old : (j : ℕ) → (j ≡ K → ⊥) → get_or Put.index j 0 ≡ get_or s.index j 0
  index_old j ne = get_or-set_other s.index K j x 0 ne

  within : K * f + length p ≤ length s.bytes
  within = omega (arith, place_end K f free, g.room.bytes)

  pub put_bytes : length Put.bytes ≡ length s.bytes
  put_bytes = length-paste s.bytes (K * f) p (length p) within (le_refl (length p))

  pub put_good : Good f Put
  put_good =
      record {
        room =
            record {
              small = g.room.small;
              few = n_few;
              indices = rw (length-set s.index K x) g.room.indices;
              lengths = rw (length-set s.lengths K (length p)) g.room.lengths;
              bytes = rw put_bytes g.room.bytes;
              short = λ j h.
                  ⊎_elim
                  (λ (e : j ≡ K). let i = g.room.lengths in rw (e, get_or-set_same s.lengths K (length p) 0 (omega arith)) fits)
                  (λ (ne : j ≡ K → ⊥). rw (get_or-set_other s.lengths K j (length p) 0 ne) (g.room.short j (n_old j h ne)))
                  (same? j K);
            };
        once = λ j k a b key e.
            ⊎_elim
            (λ (u : j ≡ K).
            let jx : get_or Put.index j 0 ≡ x = ap (λ (i : ℕ). get_or Put.index i 0) u ∙ index_own in
            ⊎_elim (λ (v : k ≡ K). u ∙ sym v)
            (λ (v : k ≡ K → ⊥). absurd (v (sym (place_of_lem f s g x k (omega arith) (n_old k b v) (sym (index_old k v) ∙ sym e ∙ jx)))))
            (same? k K))
            (λ (u : j ≡ K → ⊥).
            ⊎_elim
            (λ (v : k ≡ K).
            let jx : get_or s.index j 0 ≡ x = sym (index_old j u) ∙ e ∙ ap (λ (i : ℕ). get_or Put.index i 0) v ∙ index_own in
            let kx : get_or Put.index j 0 ≡ x = index_old j u ∙ jx in
            absurd (u (sym (place_of_lem f s g x j (omega arith) (n_old j a u) jx))))
            (λ (v : k ≡ K → ⊥).
            g.once j k (n_old j a u) (n_old k b v) (rw (sym (index_old j u)) key) (sym (index_old j u) ∙ e ∙ index_old k v))
            (same? k K))
            (same? j K);
      }

  pub put_found : x < 65536 → held_at f Put x ≡ Some p
  put_found small =
      let i = g.room.lengths in
      at_found f Put put_good x K small K_lt index_own
      ∙ ap Some (rw (get_or-set_same s.lengths K (length p) 0 (omega arith)) (part_same s.bytes (K * f) p (length p) within (le_refl (length p)) ∙ take-length p))

  pub put_other : (y : ℕ) → y < 65536 → (y ≡ x → ⊥) → held_at f Put y ≡ held_at f s y
  put_other y small ne =
      same_held f s Put g put_good y small
      (λ k h e.
      let other : k ≡ K → ⊥ = λ q. ne (sym e ∙ ap (λ (i : ℕ). get_or s.index i 0) q ∙ place_at f s g x (rw q at h)) in (
        k,
        lt_of_lt_of_le h n_le,
        index_old k other ∙ e,
        rw (get_or-set_other s.lengths K k (length p) 0 other)
            (part_other s.bytes (K * f) p (length p) (k * f) (get_or s.lengths k 0) within (le_refl (length p))
            (places_apart k K f (get_or s.lengths k 0) (length p) other (g.room.short k h) fits)),
      ))
      (λ away k h e.
      ⊎_elim (λ (q : k ≡ K). ne (sym e ∙ ap (λ (i : ℕ). get_or Put.index i 0) q ∙ index_own))
      (λ (q : k ≡ K → ⊥). away k (n_old k h q) (sym (index_old k q) ∙ e))
      (same? k K))
