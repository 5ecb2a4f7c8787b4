-- The sequenced streams of an end.
use Rattle.std.specs.Prelude.{ℕ, cond, ltb, get_or, set, replicate}
use Rattle.serial.specs.declared.ItemId.{ItemId}
use Rattle.sequencing.specs.Sequence.{fresh, arranged, numbered}
use Rattle.sequencing.specs.declared.SequencingStream.{SequencingStream}
use Rattle.arranging_plan.specs.Ids.{made_at, no_ids}
use Rattle.arranging.specs.declared.sequenced.SequencingStreams.{SequencingStreams}
use Rattle.arranging.specs.declared.sequenced.AfterArrange.{AfterArrange}
use Rattle.arranging.specs.declared.sequenced.NewItem.{NewItem}

abbrev pub no_streams : SequencingStreams
no_streams = record { known = no_ids; streams = replicate 4 fresh }

-- the counters at place j: a stream that is not made yet is fresh
unfoldable pub stream_at : SequencingStreams → ℕ → SequencingStream
stream_at s j = cond (ltb j s.known.made) (get_or s.streams j fresh) fresh

-- stream j is t now, under that id
abbrev pub stored_at : SequencingStreams → ℕ → ℕ → SequencingStream → SequencingStreams
stored_at s j id t = record { known = made_at s.known j id; streams = set s.streams j t }

-- an item comes on the stream at place j, which is made: a dropped one is accepted too
abbrev pub arranged_at : SequencingStreams → ℕ → ℕ → ItemId → AfterArrange
arranged_at s j id i = record { answer = (arranged (stream_at s j) i).answer; streams = stored_at s j id (arranged (stream_at s j) i).stream }

-- an item is sent on it
abbrev pub numbered_at : SequencingStreams → ℕ → ℕ → NewItem
numbered_at s j id = record { item = (numbered (stream_at s j)).item; streams = stored_at s j id (numbered (stream_at s j)).stream }
