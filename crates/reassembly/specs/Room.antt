-- What the calls for the crates above require.
use Rattle.std.specs.Prelude.{ℕ, ◌+◌, ◌*◌, ◌≤◌, List, ◌≡◌, length}
use Rattle.reassembly.specs.Effects.{State, length_of}
use Rattle.reassembly_plan.specs.Table.{Growing}
use Rattle.reassembly_plan.specs.declared.plan.Joining.{Joining}
use Rattle.reassembly_plan.specs.declared.plan.Plan.{Plan}
use Rattle.reassembly_plan.specs.declared.plan.Plan.TheVariants.{Join}

abbrev pub lending : ℕ → List ℕ → List ℕ → List ℕ → List ℕ → State
lending num slots entry header bytes = record { num = num; slots = slots; entry = entry; header = header; bytes = bytes }

-- a table, and room for its bytes and for a message
pub record Room (f : ℕ) (s : State) (output : List ℕ) : Type 0 where
  pub table : Growing f s.slots s.entry
  pub headers : length s.slots ≤ length s.header
  pub bytes : length s.slots * (16 * f) ≤ length s.bytes
  pub message : 16 * f ≤ length output

-- a payload of so many bytes can be put where it is to join
abbrev pub Joins : ℕ → ℕ → ℕ → Plan → Type 0
Joins room len bytes plan = (j : Joining) → plan ≡ Join j → room + j.at + len ≤ bytes

-- a message can be read and handed out
abbrev pub Hands : ℕ → ℕ → ℕ → Plan → Type 0
Hands room bytes output plan = (j : Joining) → plan ≡ Join j → (room + length_of j.entry ≤ bytes) × (length_of j.entry ≤ output)
