-- An item comes on the sequenced stream with an id, as a whole: 13, then 7, else what module 5 says.
use Rattle.std.specs.Prelude.{ℕ, cond, not, eqb, Result, Ok, Err}
use Rattle.serial.specs.declared.ItemId.{ItemId}
use Rattle.terms.specs.Refusals.{number_of}
use Rattle.terms.specs.declared.Refusal.TheVariants.{NoStream, BadState}
use Rattle.sequencing.specs.declared.Sequenced.{Sequenced}
use Rattle.sequencing.specs.declared.Sequenced.TheVariants.{Out, Dropped}
use Rattle.arranging_plan.specs.Ids.{place_of, sound_ids}
use Rattle.arranging.specs.Sequenced.{arranged_at}
use Rattle.arranging.specs.declared.sequenced.SequencingStreams.{SequencingStreams}
use Rattle.arranging.specs.declared.calls.AfterSequence.{AfterSequence}
use Rattle.terms.specs.declared.Refusal.{Refusal}

-- 01's number for each answer, 0 where nothing is refused
abbrev pub number_of_sequence : Result Sequenced Refusal → ℕ
number_of_sequence (Ok Out) = 0
number_of_sequence (Ok Dropped) = 0
number_of_sequence (Err why) = number_of why

-- a refused item leaves everything, and makes no stream
unfoldable pub sequenced : SequencingStreams → ℕ → ItemId → AfterSequence
sequenced s id i =
    cond (not (sound_ids s.known)) (record { answer = Err BadState; streams = s })
    (cond (eqb (place_of s.known id) 4) (record { answer = Err NoStream; streams = s })
    (record { answer = Ok (arranged_at s (place_of s.known id) id i).answer; streams = (arranged_at s (place_of s.known id) id i).streams }))
