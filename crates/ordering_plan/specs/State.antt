-- One ordered stream, whole: its counters, and the tables and bytes that it is lent.
use Rattle.std.specs.Prelude.{ℕ, List, ◌++◌, ◌≡◌, length, take, drop, Option, Some, None}
use Rattle.keys.specs.Keys.{first_place}
use Rattle.serial.specs.Order.{next}
use Rattle.serial.specs.declared.ItemId.{ItemId}
use Rattle.ordering_plan.specs.declared.OrderingStream.{OrderingStream}
use Rattle.ordering_plan.specs.declared.NewItem.{NewItem}

-- The first `held` places of the tables are the items that wait: the item at place k has its index at `index` k, its
-- length at `lengths` k and its bytes from k * F on.
pub record State : Type 0 where
  pub stream : OrderingStream
  pub index : List ℕ
  pub lengths : List ℕ
  pub bytes : List ℕ

abbrev pub lending : OrderingStream → List ℕ → List ℕ → List ℕ → State
lending s index lengths bytes = record { stream = s; index = index; lengths = lengths; bytes = bytes }

-- what a call leaves, in its counters and in each buffer, is s
pub record Leaves (s : State) (stream : OrderingStream) (index lengths bytes : List ℕ) : Type 0 where
  pub stream_is : stream ≡ s.stream
  pub index_is : index ≡ s.index
  pub lengths_are : lengths ≡ s.lengths
  pub bytes_are : bytes ≡ s.bytes

-- "An accepted call that hands out nothing leaves the output untouched; bytes after an item stay."
abbrev pub written : Option (List ℕ) → List ℕ → List ℕ
written None output = output
written (Some item) output = item ++ drop (length item) output

-- a stream that has seen nothing expects item 0, holds none and sends item 0 next
abbrev pub fresh : OrderingStream
fresh = record { expected_index = record { 0 = 0 }; held = 0; next_item = record { 0 = 0 } }

-- the identifier after this one
abbrev pub following : ItemId → ItemId
following i = record { 0 = next i.0 }

-- "each sending stream numbers its own items from 0, adding one with wrap-around at each accepted send"
abbrev pub numbered : OrderingStream → NewItem
numbered s =
    record {
      item = s.next_item;
      stream = record { expected_index = s.expected_index; held = s.held; next_item = following s.next_item };
    }

-- where an index is held, its place; where it is not, the first free place
abbrev pub place_of : OrderingStream → List ℕ → ℕ → ℕ
place_of s index i = first_place i (take s.held index)
