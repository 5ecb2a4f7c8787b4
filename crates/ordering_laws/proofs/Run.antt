-- What goes out is the next items, in order. Assumes nothing.
--     drain_right     takes until none, from any right stream
--     next-right      one arrival
use Prim.Native.Nat.{ℕ, zero, suc, ◌+◌, ◌*◌, ◌%◌, ◌≤◌, ◌<◌}
use mathlib.Core.Path.{◌≡◌, refl, sym, ap, ◌∙◌}
use mathlib.Core.List.{List, ◌∷◌}
use mathlib.Core.Logic.{⊎_elim}
use native.Mathlib.Nat.{eq-or-lt_of_le, not-suc-le-zero, add-suc, add-zero, suc-add}
use native.Mathlib.Omega.{arith}
use lib.ListN.{length, get_or, take, drop}
use Rattle.std.specs.Prelude.{Result, Ok, Err, Option, Some, None}
use Rattle.laws.proofs.Cases.{lt_or_le}
use Rattle.serial.specs.Order.{back}
use Rattle.terms.specs.declared.Sizes.{Sizes}
use Rattle.terms.specs.declared.Refusal.{Refusal}
use Rattle.ordering_plan.specs.State.{State, lending, fresh, written, place_of}
use Rattle.ordering_plan.specs.Arrange.{plan_of, handed_out, arranged}
use Rattle.ordering.specs.Take.{next_place, next_of, taken_out, taken}
use Rattle.ordering_plan.specs.Gate.{gate_of}
use Rattle.ordering.specs.Calls.{take_of}
use Rattle.ordering_plan.specs.declared.Arranged.TheVariants.{Out, Held, Old}
use Rattle.ordering_plan.proofs.Planned.{plan_out, plan_old, plan_full, plan_held, place_le}
use Rattle.ordering.proofs.Next.{next_none, next_item}
use Rattle.ordering.proofs.Calls.{arrange_open, take_open}
use Rattle.ordering_laws.specs.Held.{held_at, Good}
use Rattle.ordering_laws.specs.Sound.{after_take}
use Rattle.ordering_laws.specs.Run.{going, drain, arrive, Right, Drained, InOrder}
use Rattle.ordering_laws.proofs.Found.{same?, at_absent}
use Rattle.ordering_laws.proofs.Put.{put_good, put_found, put_other}
use Rattle.ordering_laws.proofs.Removed.{left_good, left_here, left_other}
use Rattle.ordering_laws.proofs.Map.{found_there, none_there, out_held, taken_held}
use Rattle.ordering_laws.proofs.Stays.{after_arrange_lem, after_take_lem, arranged_good}

some_none : {p : List ℕ} → Some p ≡ None → ⊥
some_none e = let z : ◌≡◌ {A = ℕ} 0 1 = cc in omega arith

some_inj : {p q : List ℕ} → Some p ≡ Some q → p ≡ q
some_inj e = cc

-- in the window, a position is known by its index
known : (k j : ℕ) → k ≤ j → j ≤ k + 32768 → k % 65536 ≡ j % 65536 → j ≡ k
known k j a b e = omega arith

more : {k j : ℕ} → k ≤ j → (j ≡ k → ⊥) → suc k ≤ j
more {k} {j} h ne = ⊎_elim (λ (e : k ≡ j). absurd (ne (sym e))) (λ (l : k < j). l) (eq-or-lt_of_le h)

-- what a take finds
never_refused : (s : State) (why : Refusal) → next_of s ≡ Err why → ⊥
never_refused s why e =
    ⊎_elim
    (λ h. let w : Ok (Some (get_or s.lengths (next_place s) 0)) ≡ Err why = sym (next_item s (next_place s) refl h) ∙ e in let z : ◌≡◌ {A = ℕ} 0 1 = cc in omega arith)
    (λ h. let w : (Ok None) ≡ Err why = sym (next_none s (next_place s) refl h) ∙ e in let z : ◌≡◌ {A = ℕ} 0 1 = cc in omega arith)
    (lt_or_le (next_place s) s.stream.held)

module _ (f : ℕ) (item : ℕ → List ℕ) where
  -- an item is taken, and the next is expected
  taken_right : (k : ℕ) (s : State) (n : ℕ) → Right f item k s → next_of s ≡ Ok (Some n) → Right f item (suc k) (taken (Ok (Some n)) f s)
  taken_right k s n r e =
      let here = (found_there s n e).0 in
      let x₀ : ℕ = s.stream.expected_index.0 in
      let small : x₀ < 65536 = let q = r.next in omega arith in
      record {
        good = left_good f s r.good n here;
        next = let q = r.next in omega arith;
        holds = λ x p low h.
            ⊎_elim
            (λ (q : x ≡ x₀). absurd (some_none (sym h ∙ ap (λ (y : ℕ). held_at f (taken (Ok (Some n)) f s) y) q ∙ left_here f s r.good n here small)))
            (λ (q : x ≡ x₀ → ⊥).
            let w = r.holds x p low (sym (left_other f s r.good n here x low q) ∙ h) in
            let ne : w.0 ≡ k → ⊥ = λ z. q (w.3 ∙ ap (λ (y : ℕ). y % 65536) z ∙ sym r.next) in
            (w.0, more w.1 ne, omega (arith, w.2), w.3, w.4))
            (same? x x₀);
      }

  -- the expected item goes out
  stepped_right : (k : ℕ) (s : State) (i : ℕ) (p : List ℕ) → Right f item k s → held_at f s s.stream.expected_index.0 ≡ None
      → Good f (arranged (Ok Out) f i p s) → Right f item (suc k) (arranged (Ok Out) f i p s)
  stepped_right k s i p r quiet g =
      record {
        good = g;
        next = let q = r.next in omega arith;
        holds = λ x b low h.
            let h' : held_at f s x ≡ Some b = sym (out_held f s i p x) ∙ h in
            let w = r.holds x b low h' in
            let ne : w.0 ≡ k → ⊥ = λ z. some_none (sym h' ∙ ap (λ (y : ℕ). held_at f s y) (w.3 ∙ ap (λ (y : ℕ). y % 65536) z ∙ sym r.next) ∙ quiet) in
            (w.0, more w.1 ne, omega (arith, w.2), w.3, w.4);
      }

  -- an item further on is held
  put_right : (k j : ℕ) (s : State) → Right f item k s → k < j → j ≤ k + 32768 → length (item j) ≤ f → place_of s.stream s.index (j % 65536) < 64
      → Right f item k (arranged (Ok (Held (place_of s.stream s.index (j % 65536)))) f (j % 65536) (item j) s)
  put_right k j s r ahead near short free =
      let i : ℕ = j % 65536 in
      let low' : j % 65536 < 65536 = omega arith in
      record {
        good = put_good f s r.good (j % 65536) (item j) free short;
        next = r.next;
        holds = λ x p low h.
            ⊎_elim
            (λ (q : x ≡ j % 65536).
            (j, omega arith, near, q, some_inj (sym h ∙ ap (λ (y : ℕ). held_at f (arranged (Ok (Held (place_of s.stream s.index (j % 65536)))) f (j % 65536) (item j) s) y) q ∙ put_found f s r.good (j % 65536) (item j) free short low')))
            (λ (q : x ≡ j % 65536 → ⊥). r.holds x p low (sym (put_other f s r.good (j % 65536) (item j) free short x low q) ∙ h))
            (same? x (j % 65536));
      }

module _ (z : Sizes) (item : ℕ → List ℕ) where
  abbrev F : ℕ
  F = z.fragment_size

  drain_suc : (g : ℕ) (s : State) (out : List ℕ)
      → drain (suc g) z s out ≡ going (take_of z s out) F s (drain g z (after_take z s out) (written (taken_out (take_of z s out) F s) out))
  unfolding drain
  drain_suc g s out = refl

  pub drain_right : (g k : ℕ) (s : State) (out : List ℕ) → gate_of z s out ≡ Ok tt → Right F item k s → s.stream.held < g → Drained F item k (drain g z s out)
  drain_right zero k s out e r h = absurd (not-suc-le-zero h)
  drain_right (suc g) k s out e r h =
      rw (drain_suc g s out, take_open z s out e)
      (go (next_of s) refl (rw (take_open z s out e) at (after_take_lem z s out e)) (λ s' out'. drain_right g (suc k) s' out'))
    where
      go : (t : Result (Option ℕ) Refusal) → next_of s ≡ t → gate_of z (taken t F s) (written (taken_out t F s) out) ≡ Ok tt
          → ((s' : State) (out' : List ℕ) → gate_of z s' out' ≡ Ok tt → Right F item (suc k) s' → s'.stream.held < g → Drained F item (suc k) (drain g z s' out'))
          → Drained F item k (going t F s (drain g z (taken t F s) (written (taken_out t F s) out)))
      go (Ok (Some n)) q o later =
          let there = (found_there s n q).0 in
          let bytes : List ℕ = take n (drop (next_place s * F) s.bytes) in
          let x₀ : ℕ = s.stream.expected_index.0 in
          let small : x₀ < 65536 = let w = r.next in omega arith in
          let w = r.holds x₀ bytes small (sym (taken_held F s n r.good q)) in
          let here : w.0 ≡ k = known k w.0 w.1 w.2 (sym r.next ∙ w.3) in
          let rec = later (taken (Ok (Some n)) F s) (written (taken_out (Ok (Some n)) F s) out) o (taken_right F item k s n r q) (omega arith) in
          record {
            many = suc rec.many;
            gone_are =
                ap (λ (b : List ℕ). b ∷ (drain g z (taken (Ok (Some n)) F s) (written (taken_out (Ok (Some n)) F s) out)).gone) (w.4 ∙ ap item here)
                ∙ ap (λ (l : List (List ℕ)). item k ∷ l) rec.gone_are;
            right = rw (add-suc k rec.many, ← (suc-add k rec.many)) rec.right;
            quiet = rec.quiet;
          }
      go (Ok None) q o later = record { many = 0; gone_are = refl; right = rw (add-zero k) r; quiet = none_there F s q }
      go (Err why) q o later = absurd (never_refused s why q)

  module _ (k p : ℕ) (s : State) (out : List ℕ) (e : gate_of z s out ≡ Ok tt) (r : Right F item k s)
      (quiet : held_at F s s.stream.expected_index.0 ≡ None) (short : length (item p) ≤ F) where
    abbrev I : ℕ
    I = p % 65536

    -- the stream after the arrival, by what was planned
    opens : gate_of z (arranged (plan_of s.stream s.index I) F I (item p) s) (written (handed_out (plan_of s.stream s.index I) (item p)) out) ≡ Ok tt
    opens = rw (arrange_open z s out I (item p) e short) at (after_arrange_lem z s out e I (item p))

    few : s.stream.held < 65
    few = let c = r.good.room.few in omega arith

    pub out-drained : plan_of s.stream s.index I ≡ Ok Out → Drained F item (suc k) (drain 65 z (arranged (Ok Out) F I (item p) s) (written (Some (item p)) out))
    out-drained a =
        drain_right 65 (suc k) (arranged (Ok Out) F I (item p) s) (written (Some (item p)) out) (rw a at opens)
        (stepped_right F item k s I (item p) r quiet (arranged_good F s r.good I (item p) short (Ok Out) a)) few

    pub next-right : k ≤ p + 32767 → p ≤ k + 32768 → Drained F item k (arrive z s out I (item p))
    next-right late near =
        rw (arrange_open z s out I (item p) e short)
        (⊎_elim
        (λ (same : p ≡ k).
        let a : plan_of s.stream s.index I ≡ (Ok Out) = plan_out s.stream s.index I 0 (let q = r.next in omega arith) refl in
        let d = out-drained a in
        rw a
        (record {
          many = suc d.many;
          gone_are =
              ap (λ (q : ℕ). item q ∷ (drain 65 z (arranged (Ok Out) F I (item p) s) (written (Some (item p)) out)).gone) same
              ∙ ap (λ (l : List (List ℕ)). item k ∷ l) d.gone_are;
          right = rw (add-suc k d.many, ← (suc-add k d.many)) d.right;
          quiet = d.quiet;
        }))
        (λ (differ : p ≡ k → ⊥).
        ⊎_elim
        (λ (old : p < k).
        let a : plan_of s.stream s.index I ≡ (Ok Old) = plan_old s.stream s.index I (back I s.stream.expected_index.0) refl (let q = r.next in omega arith) in
        rw a (drain_right 65 k s out e r few))
        (λ (ge : k ≤ p).
        let ahead : k < p = more ge differ in
        ⊎_elim
        (λ (full : place_of s.stream s.index I ≡ 64).
        let a = plan_full s.stream s.index I (back I s.stream.expected_index.0) refl (λ w. let q = r.next in omega arith) (let q = r.next in omega arith) full in
        rw a (drain_right 65 k s out e r few))
        (λ (room : place_of s.stream s.index I ≡ 64 → ⊥).
        let a = plan_held s.stream s.index I (back I s.stream.expected_index.0) refl (λ w. let q = r.next in omega arith) (let q = r.next in omega arith) room in
        let le = place_le s.stream s.index I (let c = r.good.room in omega arith) in
        let c = r.good.room.few in
        let free : place_of s.stream s.index I < 64 = ⊎_elim (λ w. w) (λ w. absurd (room (omega arith))) (lt_or_le (place_of s.stream s.index I) 64) in
        let g = put_right F item k p s r ahead near short free in
        rw a
        (drain_right 65 k (arranged (Ok (Held (place_of s.stream s.index I))) F I (item p) s) out (rw a at opens) g
        (let w = g.good.room.few in omega arith)))
        (same? (place_of s.stream s.index I) 64))
        (lt_or_le p k))
        (same? p k))

none_fresh : (f : ℕ) (index lengths bytes : List ℕ) (x : ℕ) → Good f (lending fresh index lengths bytes) → held_at f (lending fresh index lengths bytes) x ≡ None
none_fresh f index lengths bytes x g = at_absent f (lending fresh index lengths bytes) g x (λ k h. absurd (not-suc-le-zero h))

pub in_order : InOrder
in_order =
    record {
      start = λ f item index lengths bytes g. (
        record { good = g; next = refl; holds = λ x p low h. absurd (some_none (sym h ∙ none_fresh f index lengths bytes x g)) },
        none_fresh f index lengths bytes 0 g,
      );
      next_items = λ z item k p s out e r quiet short late near. next-right z item k p s out e r quiet short late near;
      moves_on = λ z item k s out e r quiet short.
          let a = plan_out s.stream s.index (k % 65536) 0 (let q = r.next in omega arith) refl in
          rw (arrange_open z s out (k % 65536) (item k) e short, a) (out-drained z item k k s out e r quiet short a);
    }
