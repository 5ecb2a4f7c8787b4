-- One arrival, with takes until none comes, hands out the next items in order: the heart of demand 3, for one stream.
-- Positions are counted from 0: item p is the p-th that was sent, and its index is p modulo 65,536.
use Rattle.std.specs.Prelude.{ℕ, zero, suc, ◌+◌, ◌%◌, ◌≤◌, ◌<◌, ◌≡◌, List, [], ◌∷◌, length, Result, Ok, Err, Some, None, Option}
use Rattle.terms.specs.declared.Sizes.{Sizes}
use Rattle.ordering_plan.specs.State.{State, lending, fresh, written}
use Rattle.ordering_plan.specs.Arrange.{handed_out}
use Rattle.ordering.specs.Take.{taken_out}
use Rattle.ordering_plan.specs.Gate.{gate_of}
use Rattle.ordering.specs.Calls.{arrange_of, take_of}
use Rattle.ordering_laws.specs.Held.{held_at, Good}
use Rattle.ordering_laws.specs.Sound.{after_arrange, after_take}
use Rattle.terms.specs.declared.Refusal.{Refusal}

-- what was handed out, and the stream that is left
pub record End : Type 0 where
  pub gone : List (List ℕ)
  pub state : State

abbrev pub handing : Option (List ℕ) → End → End
handing None e = e
handing (Some p) e = record { gone = p ∷ e.gone; state = e.state }

-- a take that found an item is followed by another
abbrev pub going : Result (Option ℕ) Refusal → ℕ → State → End → End
going (Ok (Some n)) f s rest = handing (taken_out (Ok (Some n)) f s) rest
going (Ok None) f s rest = record { gone = []; state = s }
going (Err why) f s rest = record { gone = []; state = s }

-- takes until none, at most g
unfoldable pub drain : ℕ → Sizes → State → List ℕ → End
drain zero z s out = record { gone = []; state = s }
drain (suc g) z s out =
    going (take_of z s out) z.fragment_size s (drain g z (after_take z s out) (written (taken_out (take_of z s out) z.fragment_size s) out))

-- an item arrives, and takes until none: 64 are held at most
abbrev pub arrive : Sizes → State → List ℕ → ℕ → List ℕ → End
arrive z s out i p =
    handing (handed_out (arrange_of z s i p out) p) (drain 65 z (after_arrange z s i p out) (written (handed_out (arrange_of z s i p out) p) out))

-- the items from position k on, m of them
abbrev pub items : (ℕ → List ℕ) → ℕ → ℕ → List (List ℕ)
items item k zero = []
items item k (suc m) = item k ∷ items item (suc k) m

-- a stream that has handed out the first k items and holds some of the next 32,768
pub record Right (f : ℕ) (item : ℕ → List ℕ) (k : ℕ) (s : State) : Type 0 where
  pub good : Good f s
  pub next : s.stream.expected_index.0 ≡ k % 65536
  pub holds : (x : ℕ) (p : List ℕ) → x < 65536 → held_at f s x ≡ Some p → (j : ℕ) × (k ≤ j) × (j ≤ k + 32768) × (x ≡ j % 65536) × (p ≡ item j)

-- the items from position k on were handed out, as many as there were, and the next one is not held
pub record Drained (f : ℕ) (item : ℕ → List ℕ) (k : ℕ) (e : End) : Type 0 where
  pub many : ℕ
  pub gone_are : e.gone ≡ items item k many
  pub right : Right f item (k + many) e.state
  pub quiet : held_at f e.state e.state.stream.expected_index.0 ≡ None

pub record InOrder : Type 0 where
  -- a fresh stream has handed out none
  pub start : (f : ℕ) (item : ℕ → List ℕ) (index lengths bytes : List ℕ) → Good f (lending fresh index lengths bytes)
      → Right f item 0 (lending fresh index lengths bytes) × (held_at f (lending fresh index lengths bytes) 0 ≡ None)
  -- item p arrives while k are handed out, k - 32,767 <= p <= k + 32,768, and a take has found none
  pub next_items : (z : Sizes) (item : ℕ → List ℕ) (k p : ℕ) (s : State) (out : List ℕ) → gate_of z s out ≡ Ok tt
      → Right z.fragment_size item k s → held_at z.fragment_size s s.stream.expected_index.0 ≡ None
      → length (item p) ≤ z.fragment_size → k ≤ p + 32767 → p ≤ k + 32768
      → Drained z.fragment_size item k (arrive z s out (p % 65536) (item p))
  -- the one that is expected goes out
  pub moves_on : (z : Sizes) (item : ℕ → List ℕ) (k : ℕ) (s : State) (out : List ℕ) → gate_of z s out ≡ Ok tt
      → Right z.fragment_size item k s → held_at z.fragment_size s s.stream.expected_index.0 ≡ None
      → length (item k) ≤ z.fragment_size
      → Drained z.fragment_size item (suc k) (drain 65 z (after_arrange z s (k % 65536) (item k) out) (written (Some (item k)) out))
