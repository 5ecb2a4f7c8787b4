-- Document 01, module 3: what is to become of a fragment that has come. "A fragment with no entry makes one; then 10, 8,
-- 11 are tried." Its table and its order: 9, 10, 8, 11; 12 comes with the effects.
use Rattle.std.specs.Prelude.{ℕ, ◌+◌, ◌*◌, ◌%◌, ◌^◌, Bool, cond, not, ◌&&◌, List, leb, eqb, length, get_or, Result, Ok, Err}
use Rattle.std.specs.Int.Bits.{bit_or}
use Rattle.laws.specs.Bits.{bit}
use Rattle.sequence_buffer.specs.Buffer.{holds, too_old}
use Rattle.terms.specs.declared.Refusal.TheVariants.{ExceededMaxFragments, CouldNotFindFragmentById, FragmentWithUnevenNumberOfFragments, AlreadyProcessedFragment}
use Rattle.reassembly_plan.specs.Words.{entry_of}
use Rattle.reassembly_plan.specs.declared.words.Entry.{Entry}
use Rattle.reassembly_plan.specs.declared.plan.Fragment.{Fragment}
use Rattle.reassembly_plan.specs.declared.plan.Plan.{Plan}
use Rattle.reassembly_plan.specs.declared.plan.Plan.TheVariants.{Make, Join}
use Rattle.terms.specs.declared.Refusal.{Refusal}

-- the slot of a number
abbrev pub slot_of : List ℕ → Fragment → ℕ
slot_of slots g = g.number.0 % length slots

-- an entry has the number
abbrev pub known : List ℕ → Fragment → Bool
known slots g = holds slots g.number.0

-- an entry that is made: nothing was received
abbrev pub opened : ℕ → Entry
opened count = record { total = count; received = 0; ids = 0; joined = 0 }

-- the entry of a fragment, as it stands at slot k or as it is made
unfoldable pub found : Bool → List ℕ → ℕ → ℕ → Entry
found there entry k count = cond there (entry_of (get_or entry k 0)) (opened count)

-- where the bytes of a fragment go in the room of its entry: "Accepted payloads are joined in arrival order"
abbrev pub place_of : Entry → ℕ
place_of e = e.joined

-- the entry once a fragment of so many bytes has joined
abbrev pub grown : Entry → ℕ → ℕ → Entry
grown e id len = record {
  total = e.total;
  received = e.received + 1;
  ids = bit_or e.ids (1 * 2 ^ id);
  joined = e.joined + len;
}

-- 10 "count differs from the entry's"; 8 "id 16 or more": "the entry stays, and where it was absent it has been made";
-- 11 "that id was received"
unfoldable pub judged : Bool → Entry → Fragment → ℕ → Result Plan Refusal
judged there e g len =
    cond (not (eqb e.total g.count)) (Err FragmentWithUnevenNumberOfFragments)
    (cond (leb 16 g.id) (cond there (Err ExceededMaxFragments) (Ok Make))
    (cond (bit e.ids g.id) (Err AlreadyProcessedFragment)
    (Ok (Join (record { made = not there; at = place_of e; entry = grown e g.id len })))))

-- 9 "no entry has the number and it is too old for the reassembly buffer"
unfoldable pub passed : Bool → ℕ → List ℕ → ℕ → Bool
passed there num slots n = not there && too_old num slots n

unfoldable pub plan_of : ℕ → List ℕ → List ℕ → Fragment → ℕ → Result Plan Refusal
plan_of num slots entry g len =
    cond (passed (known slots g) num slots g.number.0) (Err CouldNotFindFragmentById)
    (judged (known slots g) (found (known slots g) entry (slot_of slots g) g.count) g len)
