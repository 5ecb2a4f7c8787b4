-- Document 01, module 7: what is to become of a packet that has come. "5, 7, 6" are tried before anything is written.
use Rattle.std.specs.Prelude.{ℕ, Bool, true, false, cond, List, eqb, Result, Ok, Err}
use Rattle.terms.specs.Refusals.{number_of}
use Rattle.terms.specs.declared.Refusal.TheVariants.{NoStream}
use Rattle.packet_table.specs.declared.Headers.{Headers}
use Rattle.packet_table.specs.declared.ArrangingHeader.{ArrangingHeader}
use Rattle.packet_table.specs.declared.OrderingGuarantee.{OrderingGuarantee}
use Rattle.packet_table.specs.declared.OrderingGuarantee.TheVariants.{None, Sequenced as InSequence, Ordered as InOrder}
use Rattle.ordering_plan.specs.declared.Arranged.{Arranged}
use Rattle.ordering_plan.specs.declared.Arranged.TheVariants.{Out as GoesOut, Held as IsHeld, Old as IsOld}
use Rattle.sequencing.specs.Sequence.{sequence_of}
use Rattle.sequencing.specs.declared.Sequenced.{Sequenced as Sequence}
use Rattle.sequencing.specs.declared.Sequenced.TheVariants.{Out as Newest, Dropped as Passed}
use Rattle.arranging_plan.specs.Ids.{place_of}
use Rattle.arranging_plan.specs.Ordered.{plan_on}
use Rattle.arranging.specs.Sequenced.{stream_at}
use Rattle.arranging_plan.specs.declared.ordered.Planned.{Planned}
use Rattle.arranging_plan.specs.declared.ordered.OrderingStreams.{OrderingStreams}
use Rattle.arranging.specs.declared.sequenced.SequencingStreams.{SequencingStreams}
use Rattle.receiving_plan.specs.declared.Item.{Item}
use Rattle.receiving_plan.specs.declared.Answer.{Answer}
use Rattle.receiving_plan.specs.declared.Answer.TheVariants.{Out, Held, Old, Dropped, Waiting, Heartbeat}
use Rattle.receiving_plan.specs.declared.Plan.{Plan}
use Rattle.receiving_plan.specs.declared.Plan.TheVariants.{Unordered, Sequenced, Ordered}
use Rattle.terms.specs.declared.Refusal.{Refusal}

-- 7: "an item .. received names a fifth stream of its kind"; else what module 5 says
unfoldable pub sequenced_plan : SequencingStreams → ArrangingHeader → Result Plan Refusal
sequenced_plan s i =
    cond (eqb (place_of s.known i.stream) 4) (Err NoStream)
    (Ok (Sequenced (record { at = place_of s.known i.stream; answer = sequence_of (stream_at s (place_of s.known i.stream)) i.index.0 })))

-- 7 and 6 as `arranging` finds them; else what module 4 says
abbrev pub ordered_as : Result Arranged Refusal → Planned → Result Plan Refusal
ordered_as (Ok a) p = Ok (Ordered p)
ordered_as (Err why) p = Err why

abbrev pub ordered_plan : Planned → Result Plan Refusal
ordered_plan p = ordered_as p.plan p

abbrev pub plan_by : OrderingGuarantee → ArrangingHeader → OrderingStreams → List ℕ → SequencingStreams → Result Plan Refusal
plan_by None i ordered index sequenced = Ok Unordered
plan_by InSequence i ordered index sequenced = sequenced_plan sequenced i
plan_by InOrder i ordered index sequenced = ordered_plan (plan_on ordered index i.stream i.index.0)

unfoldable pub plan_of : Headers → OrderingStreams → List ℕ → SequencingStreams → Result Plan Refusal
plan_of h ordered index sequenced = plan_by h.standard.ordering h.arranging ordered index sequenced

abbrev pub refuses : Result Plan Refusal → Bool
refuses (Err why) = true
refuses (Ok p) = false

-- what is told of an item
abbrev pub sequenced_told : Sequence → Item → Answer
sequenced_told Newest item = Out item
sequenced_told Passed item = Dropped

abbrev pub ordered_told : Result Arranged Refusal → Item → Result Answer Refusal
ordered_told (Ok GoesOut) item = Ok (Out item)
ordered_told (Ok (IsHeld k)) item = Ok Held
ordered_told (Ok IsOld) item = Ok Old
ordered_told (Err why) item = Err why

abbrev pub told : Result Plan Refusal → Item → Result Answer Refusal
told (Err why) item = Err why
told (Ok Unordered) item = Ok (Out item)
told (Ok (Sequenced q)) item = Ok (sequenced_told q.answer item)
told (Ok (Ordered p)) item = ordered_told p.plan item

abbrev pub item_of : Headers → ℕ → Item
item_of h length =
    record { delivery = h.standard.delivery; ordering = h.standard.ordering; stream = h.arranging.stream; length = length }

-- 01's number for each answer, 0 where nothing is refused
abbrev pub number_of_answer : Result Answer Refusal → ℕ
number_of_answer (Ok (Out item)) = 0
number_of_answer (Ok Held) = 0
number_of_answer (Ok Old) = 0
number_of_answer (Ok Dropped) = 0
number_of_answer (Ok Waiting) = 0
number_of_answer (Ok Heartbeat) = 0
number_of_answer (Err why) = number_of why
