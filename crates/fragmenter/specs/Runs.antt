-- Document 01: "From a fresh end whose sizes, state and storage go from call to call unaltered, 13 never arises."
use Rattle.std.specs.Prelude.{◌≡◌, List, [], ◌∷◌, ℕ, ◌<◌, ◌≤◌, length, take, Err}
use Rattle.terms.specs.declared.Sizes.{Sizes}
use Rattle.terms.specs.declared.Refusal.TheVariants.{BadState}
use Rattle.sequence_buffer.specs.Buffer.{fresh}
use Rattle.reassembly.specs.Effects.{State}
use Rattle.reassembly_plan.specs.Gate.{gate_of}
use Rattle.reassembly.specs.Call.{handled}
use Rattle.reassembly_plan.specs.declared.plan.Fragment.{Fragment}

-- a call of `handle_fragment`, with whatever output it is lent
pub record Call : Type 0 where
  pub fragment : Fragment
  pub payload : List ℕ
  pub output : List ℕ
  -- a packet number and a count are numbers of 16 and 8 bits
  pub number_fits : fragment.number.0 < 65536
  pub count_fits : fragment.count < 256

-- the table after a row of calls
unfoldable pub after : Sizes → State → List Call → State
after z s [] = s
after z s (c ∷ cs) = after z (handled z s c.output c.fragment c.payload) cs

-- a table as `sequence_buffer::new` makes it; what stands beside its slots may be anything
pub record Fresh (z : Sizes) (s : State) : Type 0 where
  pub num_zero : s.num ≡ 0
  pub slots_none : take z.reassembly_slots s.slots ≡ fresh z.reassembly_slots
  pub entries : z.reassembly_slots ≤ length s.entry

-- whatever is called and lent, no call after it is refused 13
pub record StaysSound : Type 0 where
  pub never : (z : Sizes) (s : State) → Fresh z s → (calls : List Call) (output : List ℕ)
      → gate_of z (after z s calls).slots (after z s calls).entry (after z s calls).header (after z s calls).bytes output ≡ Err BadState
      → ⊥
