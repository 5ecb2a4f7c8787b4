-- What an ordered stream holds, as a map from an index to the bytes of its item: all that a theorem about many calls sees of the
-- tables. An index is below 65,536.
use Rattle.std.specs.Prelude.{ℕ, ◌*◌, ◌≤◌, ◌<◌, ◌≡◌, cond, List, ltb, length, get_or, take, drop, Ok, Some, None, Option}
use Rattle.ordering_plan.specs.State.{State, place_of}
use Rattle.ordering_plan.specs.Arrange.{plan_of, arranged}
use Rattle.ordering.specs.Take.{next_of, taken_out, taken}
use Rattle.ordering_plan.specs.Room.{Room}
use Rattle.ordering_plan.specs.declared.Arranged.TheVariants.{Out, Held}

-- the bytes of the item at place k; f is F
abbrev pub bytes_at : ℕ → State → ℕ → List ℕ
bytes_at f s k = take (get_or s.lengths k 0) (drop (k * f) s.bytes)

-- the bytes of the item with index i, if it is held
unfoldable pub held_at : ℕ → State → ℕ → Option (List ℕ)
held_at f s i = cond (ltb (place_of s.stream s.index i) s.stream.held) (Some (bytes_at f s (place_of s.stream s.index i))) None

-- a stream in enough storage that 13 does not refuse, place by place
pub record Good (f : ℕ) (s : State) : Type 0 where
  pub room : Room f s
  pub once : (j k : ℕ) → j < s.stream.held → k < s.stream.held → get_or s.index j 0 < 65536 → get_or s.index j 0 ≡ get_or s.index k 0 → j ≡ k

pub record HeldIsAMap : Type 0 where
  -- an item that is held is found again, with its bytes, in the place of what was held at its index
  pub put_here : (f : ℕ) (s : State) (i k : ℕ) (p : List ℕ) → Good f s → i < 65536 → length p ≤ f → plan_of s.stream s.index i ≡ Ok (Held k)
      → held_at f (arranged (Ok (Held k)) f i p s) i ≡ Some p
  pub put_elsewhere : (f : ℕ) (s : State) (i k : ℕ) (p : List ℕ) (y : ℕ) → Good f s → i < 65536 → length p ≤ f → plan_of s.stream s.index i ≡ Ok (Held k)
      → y < 65536 → (y ≡ i → ⊥) → held_at f (arranged (Ok (Held k)) f i p s) y ≡ held_at f s y
  -- one that goes out changes nothing that is held
  pub out_elsewhere : (f : ℕ) (s : State) (i : ℕ) (p : List ℕ) (y : ℕ) → held_at f (arranged (Ok Out) f i p s) y ≡ held_at f s y
  -- an item that is taken is the one held at the index expected; it is held no more, and the others are
  pub taken_is : (f : ℕ) (s : State) (n : ℕ) → Good f s → next_of s ≡ Ok (Some n) → taken_out (Ok (Some n)) f s ≡ held_at f s s.stream.expected_index.0
  pub taken_here : (f : ℕ) (s : State) (n : ℕ) → Good f s → s.stream.expected_index.0 < 65536 → next_of s ≡ Ok (Some n)
      → held_at f (taken (Ok (Some n)) f s) s.stream.expected_index.0 ≡ None
  pub taken_elsewhere : (f : ℕ) (s : State) (n y : ℕ) → Good f s → s.stream.expected_index.0 < 65536 → next_of s ≡ Ok (Some n)
      → y < 65536 → (y ≡ s.stream.expected_index.0 → ⊥) → held_at f (taken (Ok (Some n)) f s) y ≡ held_at f s y
  -- and where a take finds none, none is held there
  pub nothing_is : (f : ℕ) (s : State) → next_of s ≡ Ok None → held_at f s s.stream.expected_index.0 ≡ None
