-- Document 01: "From a fresh end whose sizes, state and storage go from call to call unaltered, 13 never arises." Nor do 1 and 2.
use Rattle.std.specs.Prelude.{ℕ, ◌+◌, ◌*◌, ◌≤◌, ◌≡◌, true, List, length, Ok}
use Rattle.terms.specs.Sizes.{in_range}
use Rattle.terms.specs.declared.Sizes.{Sizes}
use Rattle.sequence_buffer.specs.Buffer.{fresh}
use Rattle.ends.specs.State.{State, lending, counters_of, fresh_end}
use Rattle.ends.specs.Gate.{is_lent, gate_of}
use Rattle.link.specs.Calls.{new_of, filled, number_of_fresh}
use Rattle.link_laws.specs.Calls.{Call, lent_to, number_of_call, after, AllTyped}

-- s is a fresh end, lent enough: its tables have no numbers, and whatever lies in the rest of what is lent
pub record New (z : Sizes) (s : State) (output : List ℕ) : Type 0 where
  pub sizes : in_range z ≡ true
  pub storage : is_lent z s output ≡ true
  pub counters : counters_of s ≡ fresh_end
  pub none_received : s.acks.received ≡ fresh (length s.acks.received)
  pub none_in_flight : s.acks.number ≡ fresh (length s.acks.number)
  pub no_message : s.parts.slots ≡ fresh (length s.parts.slots)

-- none of 1, 2 and 13
abbrev pub Other : ℕ → Type 0
Other n = (n ≡ 1 → ⊥) × (n ≡ 2 → ⊥) × (n ≡ 13 → ⊥)

pub record NeverBroken : Type 0 where
  -- what `new` makes, where it refuses nothing, is a fresh end
  pub from_new : (z : Sizes) (received number records payloads slots entry header joined index lengths held output : List ℕ)
      → number_of_fresh (new_of z received number records payloads slots entry header joined index lengths held output) ≡ 0
      → New z
      (lending fresh_end
      (filled (new_of z received number records payloads slots entry header joined index lengths held output) received)
      (filled (new_of z received number records payloads slots entry header joined index lengths held output) number)
      records payloads
      (filled (new_of z received number records payloads slots entry header joined index lengths held output) slots)
      entry header joined index lengths held)
      output
  -- after any calls, one that is lent an output of 16 x F + 17 bytes finds the gate open,
  pub stays_open : (z : Sizes) (s : State) (first : List ℕ) (calls : List Call) (output : List ℕ)
      → New z s first
      → AllTyped calls
      → 16 * z.fragment_size + 17 ≤ length output
      → gate_of z (after z s calls) output ≡ Ok tt
  -- and answers none of 1, 2 and 13
  pub never : (z : Sizes) (s : State) (first : List ℕ) (calls : List Call) (call : Call)
      → New z s first
      → AllTyped calls
      → 16 * z.fragment_size + 17 ≤ length (lent_to call)
      → Other (number_of_call z (after z s calls) call)
