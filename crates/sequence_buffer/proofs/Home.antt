-- From a fresh buffer every number stands in its own slot, so none stands twice. Assumes nothing.
use mathlib.Core.Path.{◌≡◌, refl, sym, ap, ◌∙◌}
use mathlib.Core.Bool.{Bool, false}
use mathlib.Core.List.{List, [], ◌∷◌, map}
use Prim.Native.Nat.{ℕ, ◌%◌, ◌<◌}
use native.Mathlib.Omega.{arith}
use lib.ListN.{length, get_or, set, length-set, length-map, length-replicate, get_or-replicate}
use lib.Seq.{get_or-set_same, get_or-set_other}
use lib.Dec.{leb, eqb}
use borrow.Author.Tests.{eqb-true, eqb-false}
use Rattle.laws.proofs.Cases.{case}
use Rattle.laws.proofs.Lists.{map_at}
use Rattle.keys.specs.Keys.{twice}
use Rattle.keys.proofs.Twice.{all_apart}
use Rattle.serial.specs.Order.{back}
use Rattle.sequence_buffer.specs.Buffer.{none, fresh, holds, too_old, moves, goes, emptied, advanced_slots, inserted_slots, removed_slots}
use Rattle.sequence_buffer.specs.Facts.{Buffer, Call, insert, remove, called, after, new, SlotFacts}
use Rattle.sequence_buffer.proofs.Held.{held_inserted}

-- `size` slots, and every number stands in its own
pub record Home (size : ℕ) (slots : List ℕ) : Type 0 where
  pub long : length slots ≡ size
  pub own : (i : ℕ) → i < size → get_or slots i 0 < 65536 → get_or slots i 0 % size ≡ i

pub home_apart : (size : ℕ) (slots : List ℕ) → Home size slots → twice slots ≡ false
home_apart size slots home =
    let long = home.long in
    all_apart slots
    (λ i j before within key same.
    let z : i ≡ j = sym (home.own i (omega arith) key) ∙ ap (λ (x : ℕ). x % size) same ∙ home.own j (omega arith) (omega arith) in
    omega arith)

pub home_fresh : (size : ℕ) → Home size (fresh size)
home_fresh size = record { long = length-replicate size none; own = λ i h v. absurd (omega (arith, get_or-replicate size i none 0 h)) }

home_emptied : (size : ℕ) (t : ℕ → Bool) (slots : List ℕ) → Home size slots → Home size (map (emptied t) slots)
unfolding emptied
home_emptied size t slots home =
    let long = home.long in
    record {
      long = length-map slots (emptied t) ∙ long;
      own = λ i h.
          case (t (get_or slots i 0))
          (λ e. rw (map_at (emptied t) slots i (omega arith), e) (λ v. absurd (omega arith)))
          (λ e. rw (map_at (emptied t) slots i (omega arith), e) (home.own i h));
    }

home_set : (size : ℕ) (slots : List ℕ) (k x : ℕ) → (x < 65536 → x % size ≡ k) → Home size slots → Home size (set slots k x)
home_set size slots k x here home =
    let long = home.long in
    record {
      long = length-set slots k x ∙ long;
      own = λ i h.
          case (eqb i k)
          (λ e. let z : i ≡ k = eqb-true i k e in rw (z, get_or-set_same slots k x 0 (omega arith)) here)
          (λ e. rw (get_or-set_other slots k i x 0 (eqb-false i k e)) (home.own i h));
    }

home_advanced : (size num : ℕ) (slots : List ℕ) (n : ℕ) → Home size slots → Home size (advanced_slots num slots n)
unfolding advanced_slots
home_advanced size num slots n home =
    case (moves num n)
    (λ e. rw e (home_emptied size (goes (leb (length slots) (back n num)) num n) slots home))
    (λ e. rw e home)

pub home_inserted : (size num : ℕ) (slots : List ℕ) (n : ℕ) → Home size slots → Home size (inserted_slots num slots n)
unfolding inserted_slots
home_inserted size num slots n home =
    case (too_old num slots n)
    (λ e. rw e home)
    (λ e. rw (e, home.long) (home_set size (advanced_slots num slots n) (n % size) n (λ v. refl) (home_advanced size num slots n home)))

pub home_removed : (size : ℕ) (slots : List ℕ) (n : ℕ) → Home size slots → Home size (removed_slots slots n)
unfolding removed_slots
home_removed size slots n home =
    case (holds slots n)
    (λ e. rw e (home_set size slots (n % length slots) none (λ v. absurd (omega arith)) home))
    (λ e. rw e home)

home_after : (size : ℕ) (b : Buffer) (calls : List Call) → Home size b.slots → Home size (after b calls).slots
unfolding after called
home_after size b [] home = home
home_after size b (insert n ∷ calls) home = home_after size (called b (insert n)) calls (home_inserted size b.num b.slots n home)
home_after size b (remove n ∷ calls) home = home_after size (called b (remove n)) calls (home_removed size b.slots n home)

from_new : (size : ℕ) (calls : List Call) → Home size (after (new size) calls).slots
from_new size calls = home_after size (new size) calls (home_fresh size)

pub facts : SlotFacts
facts = record {
  held = held_inserted;
  count = λ size calls. (from_new size calls).long;
  home = λ size calls. (from_new size calls).own;
  once = λ size calls. home_apart size (after (new size) calls).slots (from_new size calls);
}
