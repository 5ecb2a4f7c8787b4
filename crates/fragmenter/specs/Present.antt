-- Document 01, module 3: a payload's fragments, presented in order, each once, give it back.
use Rattle.std.specs.Prelude.{◌≡◌, true, false, List, [], ℕ, zero, suc, ◌+◌, ◌*◌, ◌<◌, ◌≤◌, length, get_or, take, Ok, Some, None}
use Rattle.terms.specs.Sizes.{in_range}
use Rattle.terms.specs.declared.Sizes.{Sizes}
use Rattle.sequence_buffer.specs.Buffer.{fresh, too_old}
use Rattle.splitter.specs.Split.{pieces, split_of}
use Rattle.reassembly.specs.Effects.{State, written}
use Rattle.reassembly.specs.Call.{handled, told, output_of}
use Rattle.reassembly_plan.specs.declared.words.AckHeader.{AckHeader}
use Rattle.reassembly_plan.specs.declared.plan.Fragment.{Fragment}
use Rattle.fragmenter.specs.Runs.{Fresh}

-- fragment j of `count` under packet number n
abbrev pub part : ℕ → AckHeader → ℕ → ℕ → Fragment
part n h count j = record { number = record { 0 = n }; id = j; count = count; header = h }

abbrev pub count_of : Sizes → List ℕ → ℕ
count_of z payload = length (pieces z.fragment_size payload)

abbrev pub piece_of : Sizes → List ℕ → ℕ → List ℕ
piece_of z payload j = get_or (pieces z.fragment_size payload) j []

-- the table once the first k fragments were presented; call j is lent `outputs j`
unfoldable pub presented : Sizes → State → (ℕ → List ℕ) → ℕ → AckHeader → List ℕ → ℕ → State
presented z s outputs n h payload zero = s
presented z s outputs n h payload (suc k) =
    handled z (presented z s outputs n h payload k) (outputs k) (part n h (count_of z payload) k) (piece_of z payload k)

-- a fresh table with its storage, a number that is not too old there, and a payload that can be split
pub record Ready (z : Sizes) (s : State) (outputs : ℕ → List ℕ) (n : ℕ) (h : AckHeader) (payload : List ℕ) : Type 0 where
  pub within_range : in_range z ≡ true
  pub new : Fresh z s
  pub slots_long : z.reassembly_slots ≤ length s.slots
  pub headers_long : z.reassembly_slots ≤ length s.header
  pub bytes_long : z.reassembly_slots * (16 * z.fragment_size) ≤ length s.bytes
  pub outputs_long : (j : ℕ) → 16 * z.fragment_size + 17 ≤ length (outputs j)
  pub number_fits : n < 65536
  pub young : too_old 0 (fresh z.reassembly_slots) n ≡ false
  pub header_fits : (h.number.0 < 65536) × (h.acked.0 < 65536)
  pub can_split : split_of z (length payload) ≡ Ok (count_of z payload)

pub record GivesBack : Type 0 where
  -- before the last fragment nothing comes out
  pub waits : (z : Sizes) (s : State) (outputs : ℕ → List ℕ) (n : ℕ) (h : AckHeader) (payload : List ℕ)
      → Ready z s outputs n h payload
      → (j : ℕ)
      → suc j < count_of z payload
      → (told z (presented z s outputs n h payload j) (outputs j) (part n h (count_of z payload) j) (piece_of z payload j) ≡ Ok None)
      × (output_of z (presented z s outputs n h payload j) (outputs j) (part n h (count_of z payload) j) (piece_of z payload j) ≡ outputs j)
  -- with it the payload and fragment 0's header do, and the entry is gone
  pub whole : (z : Sizes) (s : State) (outputs : ℕ → List ℕ) (n : ℕ) (h : AckHeader) (payload : List ℕ)
      → Ready z s outputs n h payload
      → (j : ℕ)
      → suc j ≡ count_of z payload
      → (told z (presented z s outputs n h payload j) (outputs j) (part n h (count_of z payload) j) (piece_of z payload j) ≡ Ok (Some (record { length = length payload; header = h })))
      × (output_of z (presented z s outputs n h payload j) (outputs j) (part n h (count_of z payload) j) (piece_of z payload j) ≡ written payload (outputs j))
      × (take z.reassembly_slots (presented z s outputs n h payload (suc j)).slots ≡ fresh z.reassembly_slots)
