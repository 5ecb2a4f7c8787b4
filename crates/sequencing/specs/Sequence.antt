-- Document 01, module 5: what becomes of an item that has come on a sequenced stream.
use Rattle.std.specs.Prelude.{ℕ, cond, List, leb, Option, Some, None}
use Rattle.serial.specs.Order.{back, next}
use Rattle.serial.specs.declared.ItemId.{ItemId}
use Rattle.sequencing.specs.declared.SequencingStream.{SequencingStream}
use Rattle.sequencing.specs.declared.Sequenced.{Sequenced}
use Rattle.sequencing.specs.declared.Sequenced.TheVariants.{Out, Dropped}
use Rattle.sequencing.specs.declared.AfterArrange.{AfterArrange}
use Rattle.sequencing.specs.declared.NewItem.{NewItem}

-- a stream that has seen nothing
abbrev pub fresh : SequencingStream
fresh = record { top_index = record { 0 = 0 }; next_item = record { 0 = 0 } }

-- "d from `top_index` 0..32,768: out .. Else dropped."
unfoldable pub sequence_of : SequencingStream → ℕ → Sequenced
sequence_of s i = cond (leb (back i s.top_index.0) 32768) Out Dropped

-- 01's number for each answer: nothing is refused
abbrev pub number_of_sequenced : Sequenced → ℕ
number_of_sequenced Out = 0
number_of_sequenced Dropped = 0

-- what each hands out
abbrev pub handed_out : Sequenced → List ℕ → Option (List ℕ)
handed_out Out payload = Some payload
handed_out Dropped payload = None

-- "and top becomes the index"
abbrev pub topped : Sequenced → SequencingStream → ItemId → SequencingStream
topped Out s i = record { top_index = i; next_item = s.next_item }
topped Dropped s i = s

abbrev pub arranged : SequencingStream → ItemId → AfterArrange
arranged s i = record { answer = sequence_of s i.0; stream = topped (sequence_of s i.0) s i }

-- "each sending stream numbers its own items from 0, adding one with wrap-around"
abbrev pub numbered : SequencingStream → NewItem
numbered s = record { item = s.next_item; stream = record { top_index = s.top_index; next_item = record { 0 = next s.next_item.0 } } }
