-- Document 01: what is to become of an item that is sent. "For sending: 1, 2, 13, 4 (combination not listed for type 0), 5, 8, 7, 6."
use Rattle.std.specs.Prelude.{ℕ, Bool, true, false, cond, not, ◌&&◌, ◌||◌, List, ltb, eqb, Result, Ok, Err}
use Rattle.terms.specs.declared.Sizes.{Sizes}
use Rattle.terms.specs.declared.Refusal.TheVariants.{BadHeader, TooLong, Full, NoStream, ExceededMaxFragments}
use Rattle.packet_table.specs.Table.{rule, listed}
use Rattle.packet_table.specs.declared.PacketType.TheVariants.{Packet}
use Rattle.packet_table.specs.declared.DeliveryGuarantee.{DeliveryGuarantee}
use Rattle.packet_table.specs.declared.DeliveryGuarantee.TheVariants.{Unreliable, Reliable}
use Rattle.packet_table.specs.declared.OrderingGuarantee.{OrderingGuarantee}
use Rattle.packet_table.specs.declared.OrderingGuarantee.TheVariants.{None, Sequenced, Ordered}
use Rattle.splitter.specs.Split.{needed}
use Rattle.flight.specs.Entry.{numbers_in}
use Rattle.flight.specs.Places.{place_of as place_in_flight, full}
use Rattle.arranging_plan.specs.Ids.{place_of}
use Rattle.arranging_plan.specs.declared.ordered.OrderingStreams.{OrderingStreams}
use Rattle.arranging.specs.declared.sequenced.SequencingStreams.{SequencingStreams}
use Rattle.datagrams.specs.declared.Item.{Item}
use Rattle.terms.specs.declared.Refusal.{Refusal}
use Rattle.sending.specs.declared.plan.Sending.{Sending}

-- 4: "combination not listed for type 0"
abbrev pub is_listed : Item → Bool
is_listed i = listed (rule Packet i.delivery i.ordering)

abbrev pub is_split : DeliveryGuarantee → OrderingGuarantee → Bool
is_split Unreliable o = false
is_split Reliable None = true
is_split Reliable Sequenced = false
is_split Reliable Ordered = false

-- 5: "a payload to send over 65,535, or over F and not both reliable and unordered"
unfoldable pub is_long : ℕ → Item → ℕ → Bool
is_long f i n = ltb 65535 n || (ltb f n && not (is_split i.delivery i.ordering))

-- the place of an item's stream; 7: "an item sent .. names a fifth stream of its kind", whose place would be 4
abbrev pub place_by : OrderingGuarantee → ℕ → OrderingStreams → SequencingStreams → ℕ
place_by None id ordered sequenced = 0
place_by Sequenced id ordered sequenced = place_of sequenced.known id
place_by Ordered id ordered sequenced = place_of ordered.known id

abbrev pub stream_place : Item → OrderingStreams → SequencingStreams → ℕ
stream_place i ordered sequenced = place_by i.ordering i.stream ordered sequenced

-- 6: "a reliable send finds N other numbers in flight"
abbrev pub is_full : DeliveryGuarantee → ℕ → List ℕ → Bool
is_full Unreliable n number = false
is_full Reliable n number = full n (numbers_in number)

abbrev pub flight_place : DeliveryGuarantee → ℕ → List ℕ → ℕ
flight_place Unreliable n number = 0
flight_place Reliable n number = place_in_flight n (numbers_in number)

-- n is the local number, `number` the N places in flight
unfoldable pub plan_of : Sizes → ℕ → OrderingStreams → SequencingStreams → List ℕ → Item → ℕ → Result Sending Refusal
plan_of z n ordered sequenced number i length =
    cond (not (is_listed i)) (Err BadHeader)
    (cond (is_long z.fragment_size i length) (Err TooLong)
    (cond (ltb z.max_fragments (needed length z.fragment_size)) (Err ExceededMaxFragments)
    (cond (eqb (stream_place i ordered sequenced) 4) (Err NoStream)
    (cond (is_full i.delivery n number) (Err Full)
    (Ok (record { at = flight_place i.delivery n number; stream = stream_place i ordered sequenced }))))))
