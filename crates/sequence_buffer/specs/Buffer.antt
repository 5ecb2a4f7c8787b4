-- Document 01, module 1: what a sequence buffer holds, and what inserting and removing a number make of it.
-- A slot has a number below 65,536, or none: any value from 65,536 on. The slot count is the number of slots.
use Rattle.std.specs.Prelude.{ℕ, ◌%◌, Bool, cond, ◌&&◌, ◌||◌, List, map, length, get_or, set, replicate, ltb, leb, eqb, Some, None}
use Rattle.serial.specs.Order.{greater, next, back}
use Rattle.sequence_buffer.specs.declared.Inserted.{Inserted}

-- no number
abbrev pub none : ℕ
none = 4294967295

-- a buffer that has had no number; its `sequence_num` is 0
abbrev pub fresh : ℕ → List ℕ
fresh size = replicate size none

-- the number n is in its slot
abbrev pub holds : List ℕ → ℕ → Bool
holds slots n = eqb (get_or slots (n % length slots) 0) n

-- "`insert` is too old when the number is less than `sequence_num` minus the slot count, wrapping"
abbrev pub too_old : ℕ → List ℕ → ℕ → Bool
too_old num slots n = greater (back num (length slots)) n

-- "Otherwise, if number + 1 is greater than `sequence_num`"
abbrev pub moves : ℕ → ℕ → Bool
moves num n = greater (next n) num

-- "each entry whose own number lies from `sequence_num` to the number is removed (the whole buffer if ..)"
unfoldable pub goes : Bool → ℕ → ℕ → ℕ → Bool
goes whole num n entry = whole || (ltb entry 65536 && leb (back entry num) (back n num))

-- an entry that goes is none
unfoldable pub emptied : (ℕ → Bool) → ℕ → ℕ
emptied gone entry = cond (gone entry) none entry

-- ".. the whole buffer if the number minus `sequence_num`, wrapping, is at least the slot count"
unfoldable pub advanced_slots : ℕ → List ℕ → ℕ → List ℕ
advanced_slots num slots n = cond (moves num n) (map (emptied (goes (leb (length slots) (back n num)) num n)) slots) slots

-- ".. and `sequence_num` becomes number + 1"
unfoldable pub advanced_num : ℕ → ℕ → ℕ
advanced_num num n = cond (moves num n) (next n) num

-- "Then slot number mod size is overwritten."
unfoldable pub inserted_slots : ℕ → List ℕ → ℕ → List ℕ
inserted_slots num slots n = cond (too_old num slots n) slots (set (advanced_slots num slots n) (n % length slots) n)

unfoldable pub inserted_num : ℕ → List ℕ → ℕ → ℕ
inserted_num num slots n = cond (too_old num slots n) num (advanced_num num n)

-- what `insert` answers: the new `sequence_num`, and the slot that the number took
unfoldable pub inserted : ℕ → List ℕ → ℕ → Inserted
inserted num slots n = record {
  sequence_num = record { 0 = inserted_num num slots n };
  insertion = cond (too_old num slots n) None (Some (n % length slots));
}

-- `remove` empties the number's slot where that has the number
unfoldable pub removed_slots : List ℕ → ℕ → List ℕ
removed_slots slots n = cond (holds slots n) (set slots (n % length slots) none) slots
