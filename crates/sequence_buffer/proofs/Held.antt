-- Which numbers a buffer holds after an insert, and that its slot count stays. Assumes nothing.
--     held_inserted        a number is held where it was inserted, or was held in another slot and does not go
--     length-..            the slot count
use mathlib.Core.Path.{◌≡◌, refl, sym, ap, ◌∙◌}
use mathlib.Core.Bool.{Bool, false, not, ◌&&◌, ◌||◌, and-true}
use mathlib.Core.List.{List, map}
use Prim.Native.Nat.{ℕ, ◌%◌, ◌≤◌, ◌<◌}
use native.Mathlib.Nat.{mod-lt}
use native.Mathlib.Omega.{arith}
use lib.ListN.{length, get_or, set, length-set, length-map}
use lib.Seq.{get_or-set_same, get_or-set_other}
use lib.Dec.{leb, eqb}
use borrow.Author.Tests.{eq-eqb, ne_eqb, eqb-true, eqb-false}
use Rattle.laws.proofs.Cases.{case}
use Rattle.laws.proofs.Lists.{map_at}
use Rattle.serial.specs.Order.{back}
use Rattle.sequence_buffer.specs.Buffer.{none, holds, too_old, moves, goes, emptied, advanced_slots, inserted_slots, removed_slots}
use Rattle.sequence_buffer.specs.Facts.{gone}

pub length_advanced : (num : ℕ) (slots : List ℕ) (n : ℕ) → length (advanced_slots num slots n) ≡ length slots
unfolding advanced_slots
length_advanced num slots n = case (moves num n) (λ e. rw e (length-map slots _)) (λ e. rw e)

pub length_inserted : (num : ℕ) (slots : List ℕ) (n : ℕ) → length (inserted_slots num slots n) ≡ length slots
unfolding inserted_slots
length_inserted num slots n =
    case (too_old num slots n)
    (λ e. rw e)
    (λ e. rw e (length-set (advanced_slots num slots n) (n % length slots) n ∙ length_advanced num slots n))

pub length_removed : (slots : List ℕ) (n : ℕ) → length (removed_slots slots n) ≡ length slots
unfolding removed_slots
length_removed slots n = case (holds slots n) (λ e. rw e (length-set slots (n % length slots) none)) (λ e. rw e)

-- an entry that goes is no number; any other is as it was
emptied_eqb : (t : ℕ → Bool) (v m : ℕ) → m < 65536 → eqb (emptied t v) m ≡ (eqb v m && not (t m))
unfolding emptied
emptied_eqb t v m h =
    case (eqb v m)
    (λ e. case (t m) (λ q. rw (e, q, ap t (eqb-true v m e) ∙ q) (ne_eqb none m (λ z. omega arith))) (λ q. rw (q, ap t (eqb-true v m e) ∙ q, e)))
    (λ e. case (t v) (λ q. rw (e, q) (ne_eqb none m (λ z. omega arith))) (λ q. rw (q, e)))

-- what a slot has once n was put into its own
put : (size : ℕ) → 1 ≤ size → (slots : List ℕ) → length slots ≡ size → (n m : ℕ)
    → eqb (get_or (set slots (n % size) n) (m % size) 0) m ≡ (eqb m n || (not (eqb (m % size) (n % size)) && eqb (get_or slots (m % size) 0) m))
put size some slots long n m =
    let lt : n % size < length slots = omega (arith, mod-lt n {m = size} some) in
    case (eqb m n)
    (λ e. let q : m ≡ n = eqb-true m n e in rw (e, q) (ap (λ (v : ℕ). eqb v n) (get_or-set_same slots (n % size) n 0 lt) ∙ eq-eqb n n refl))
    (λ e.
    case (eqb (m % size) (n % size))
    (λ f.
    let q : m % size ≡ n % size = eqb-true (m % size) (n % size) f in
    rw (e, f, q) (ap (λ (v : ℕ). eqb v m) (get_or-set_same slots (n % size) n 0 lt) ∙ ne_eqb n m (λ z. eqb-false m n e (sym z))))
    (λ f. rw (e, f) (ap (λ (v : ℕ). eqb v m) (get_or-set_other slots (n % size) (m % size) n 0 (eqb-false (m % size) (n % size) f)))))

module _ (num : ℕ) (slots : List ℕ) (n m : ℕ) (some : 1 ≤ length slots) (number : m < 65536) where
  held_emptied : (t : ℕ → Bool) → holds (map (emptied t) slots) m ≡ (holds slots m && not (t m))
  held_emptied t =
      rw (length-map slots (emptied t))
      (ap (λ (v : ℕ). eqb v m) (map_at (emptied t) slots (m % length slots) (mod-lt m {m = length slots} some))
      ∙ emptied_eqb t (get_or slots (m % length slots) 0) m number)

  held_advanced : holds (advanced_slots num slots n) m ≡ (holds slots m && not (gone num slots n m))
  unfolding advanced_slots
  held_advanced =
      case (moves num n)
      (λ e. rw e (held_emptied (goes (leb (length slots) (back n num)) num n)))
      (λ e. rw (e, and-true))

  held_placed : holds (set (advanced_slots num slots n) (n % length slots) n) m
      ≡ (eqb m n || (not (eqb (m % length slots) (n % length slots)) && holds (advanced_slots num slots n) m))
  held_placed =
      rw (length-set (advanced_slots num slots n) (n % length slots) n, length_advanced num slots n)
      (put (length slots) some (advanced_slots num slots n) (length_advanced num slots n) n m)

  pub held_inserted : too_old num slots n ≡ false
      → holds (inserted_slots num slots n) m
      ≡ (eqb m n || (not (eqb (m % length slots) (n % length slots)) && (holds slots m && not (gone num slots n m))))
  unfolding inserted_slots
  held_inserted young = rw (young, ← held_advanced) held_placed
