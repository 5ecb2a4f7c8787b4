-- What holds of every sequence buffer, for every slot count.
use Rattle.std.specs.Prelude.{◌≡◌, Bool, false, not, ◌&&◌, ◌||◌, List, [], ◌∷◌, ℕ, ◌%◌, ◌≤◌, ◌<◌, length, get_or, leb, eqb}
use Rattle.keys.specs.Keys.{twice}
use Rattle.serial.specs.Order.{back}
use Rattle.sequence_buffer.specs.Buffer.{fresh, holds, too_old, moves, goes, inserted_num, inserted_slots, removed_slots}

-- a buffer as calls leave it
pub record Buffer : Type 0 where
  pub num : ℕ
  pub slots : List ℕ

pub data Call : Type 0 where
  insert : ℕ → Call
  remove : ℕ → Call

unfoldable pub called : Buffer → Call → Buffer
called b (insert n) = record { num = inserted_num b.num b.slots n; slots = inserted_slots b.num b.slots n }
called b (remove n) = record { num = b.num; slots = removed_slots b.slots n }

-- a buffer after a row of calls
unfoldable pub after : Buffer → List Call → Buffer
after b [] = b
after b (c ∷ cs) = after (called b c) cs

abbrev pub new : ℕ → Buffer
new size = record { num = 0; slots = fresh size }

-- m goes when n is inserted: n moves the buffer on, and passes m or comes a whole round later
abbrev pub gone : ℕ → List ℕ → ℕ → ℕ → Bool
gone num slots n m = moves num n && goes (leb (length slots) (back n num)) num n m

pub record SlotFacts : Type 0 where
  -- which numbers are held after an insert: the number itself, and each of another slot that was held and does not go
  pub held : (num : ℕ) (slots : List ℕ) (n m : ℕ)
      → 1 ≤ length slots
      → m < 65536
      → too_old num slots n ≡ false
      → holds (inserted_slots num slots n) m
      ≡ (eqb m n || (not (eqb (m % length slots) (n % length slots)) && (holds slots m && not (gone num slots n m))))
  -- from a fresh buffer, whatever is inserted and removed: the slot count stays,
  pub count : (size : ℕ) (calls : List Call) → length (after (new size) calls).slots ≡ size
  -- every number stands in its own slot,
  pub home : (size : ℕ) (calls : List Call) (i : ℕ)
      → i < size
      → get_or (after (new size) calls).slots i 0 < 65536
      → get_or (after (new size) calls).slots i 0 % size ≡ i
  -- and no number stands twice
  pub once : (size : ℕ) (calls : List Call) → twice (after (new size) calls).slots ≡ false
