-- The runs, computed: every definition that is met is opened. Assumes nothing.
use Prim.Native.Nat.{ℕ}
use mathlib.Core.Path.{◌≡◌, refl}
use mathlib.Core.List.{List}
use Rattle.std.specs.Prelude.{Option, Some}
use Rattle.ends.specs.State.{fresh_end}
use Rattle.ends.specs.declared.End.{End}
use Rattle.link_laws.specs.Never.{New}
use Rattle.agreement.specs.Agreement.{Mays}
use Rattle.agreement.specs.World.{World, start, latest}
use Rattle.laws.specs.Bits.{bits_below as u1}
use Rattle.terms.specs.Sizes.{between as u2, in_range as u3}
use Rattle.keys.specs.Keys.{first_place as u4, occurs as u5, twice as u6}
use Rattle.serial.specs.Order.{greater as u7}
use Rattle.sequence_buffer.specs.Buffer.{goes as u8, emptied as u9, advanced_slots as u10, advanced_num as u11, inserted_slots as u12, inserted_num as u13, inserted as u14, removed_slots as u15}
use Rattle.sequence_buffer.specs.Facts.{called as u16, after as u17}
use Rattle.received.specs.Field.{field_of as u18}
use Rattle.flight.specs.Entry.{number_in as u0}
use Rattle.flight.specs.Acked.{is_acked as u19}
use Rattle.flight.specs.Lost.{is_lost as u20, least_lost as u21, drop_of as u22}
use Rattle.flight.specs.Places.{count_of as u23, over_long as u24, sound as u25, first_free as u26, place_of as u27, others_of as u28}
use Rattle.flight.specs.View.{in_flight as u29, view as u30, distinct_of as u31}
use Rattle.acknowledgment.specs.Calls.{incoming_of as u32, outgoing_of as u33, dropped_of as u34}
use Rattle.acks.specs.Gate.{flight_lent as u35, lent as u36, sound as u37, too_long as u38}
use Rattle.acks.specs.Questions.{counted_of as u39, told_of as u40}
use Rattle.acks.specs.State.{newer_of as u41}
use Rattle.splitter.specs.Split.{cut as u42, needed as u43, split_of as u44}
use Rattle.reassembly.specs.Effects.{num_after as u45, slots_after as u46, entry_after as u47, header_after as u48, bytes_after as u49, output_after as u50, performed as u51, joined_answer as u52, answer_of as u53}
use Rattle.reassembly_plan.specs.Gate.{count_below as u54, all_below as u55, entry_sound as u56, sound as u57, too_short as u58, gate_of as u59}
use Rattle.reassembly.specs.Call.{decided as u60, handled as u61}
use Rattle.reassembly_plan.specs.Plan.{found as u62, judged as u63, passed as u64, plan_of as u65}
use Rattle.ordering_plan.specs.Arrange.{plan_of as u66}
use Rattle.ordering_plan.specs.Gate.{too_short as u67, all_fit as u68, sound as u69, gate_of as u70}
use Rattle.ordering.specs.Calls.{arrange_of as u71, take_of as u72}
use Rattle.ordering.specs.Take.{next_of as u73}
use Rattle.sequencing.specs.Sequence.{sequence_of as u74}
use Rattle.arranging_plan.specs.Gate.{too_short as u75, gate_of as u76}
use Rattle.arranging.specs.Calls.{arrange_of as u77, take_of as u78}
use Rattle.arranging_plan.specs.Ids.{sound_ids as u79}
use Rattle.arranging_plan.specs.Ordered.{stream_at as u80, plan_on as u81, next_on as u82, each_sound as u83, sound_all as u84}
use Rattle.arranging.specs.Sequence.{sequenced as u85}
use Rattle.arranging.specs.Sequenced.{stream_at as u86}
use Rattle.packet.specs.Build.{build_of as u87}
use Rattle.packet_table.specs.Numbers.{written as u88}
use Rattle.packet_laws.specs.Inverse.{carried as u89}
use Rattle.packet_table.specs.Layout.{standard_bytes as u90, fragment_bytes as u91, acked_bytes as u92, arranging_bytes as u93, following_bytes as u94, datagram as u95}
use Rattle.packet_table.specs.Numbers.{bytes as u96, onward as u97, number_at as u98}
use Rattle.packet.specs.Read.{headers_of as u99, following_read as u100, unknown as u101, read_of as u103}
use Rattle.packet_table.specs.Table.{misfit as u102}
use Rattle.packet_table.specs.Table.{type_of as u104, delivery_of as u105, ordering_of as u106, follows as u107}
use Rattle.ends.specs.Gate.{is_lent as u108, is_sound as u109, gate_of as u110}
use Rattle.receiving_plan.specs.Plan.{sequenced_plan as u111, plan_of as u112}
use Rattle.receiving.specs.Receive.{received_of as u113}
use Rattle.datagrams.specs.Datagrams.{type_for as u114, count_of as u115}
use Rattle.datagrams.specs.Further.{has_further as u116, further_of as u117, further_output as u118}
use Rattle.sending.specs.Plan.{is_long as u119, plan_of as u120}
use Rattle.sending.specs.Send.{transmitted_of as u121}
use Rattle.link_incoming.specs.Calls.{receive_of as u123, take_of as u124}
use Rattle.link_outgoing.specs.Calls.{send_of as u125, resend_of as u126, fragment_of as u127, fragment_output as u128}
use Rattle.link.specs.Calls.{new_of as u122, drop_of as u129, report_of as u130}
use Rattle.link_laws.specs.Calls.{number_of_call as u131, called as u132, after as u133}
use Rattle.agreement_setting.specs.Setting.{sizes, pair, lent, out, payloads}
use Rattle.agreement_runs.specs.Runs.{losing, lost_from, told_by, resending, resent_from, later, Runs}
use Rattle.agreement_setting.proofs.May.{traced, traced_ok, same_some}

fresh_is : New sizes (lent fresh_end) out
unfolding u0 u1 u2 u3 u4 u5 u6 u7 u8 u9 u10 u11 u12 u13 u14 u15 u16 u17 u18 u19 u20 u21 u22 u23 u24 u25 u26 u27 u28 u29 u30 u31 u32 u33 u34 u35 u36 u37 u38 u39 u40 u41 u42 u43 u44 u45 u46 u47 u48 u49 u50 u51 u52 u53 u54 u55 u56 u57 u58 u59 u60 u61 u62 u63 u64 u65 u66 u67 u68 u69 u70 u71 u72 u73 u74 u75 u76 u77 u78 u79 u80 u81 u82 u83 u84 u85 u86 u87 u88 u89 u90 u91 u92 u93 u94 u95 u96 u97 u98 u99 u100 u101 u102 u103 u104 u105 u106 u107 u108 u109 u110 u111 u112 u113 u114 u115 u116 u117 u118 u119 u120 u121 u122 u123 u124 u125 u126 u127 u128 u129 u130 u131 u132 u133
fresh_is = record { sizes = refl; storage = refl; counters = refl; none_received = refl; none_in_flight = refl; no_message = refl }

-- what was handed out in the end
abbrev ending : World → Option (List (List ℕ))
ending w = Some w.handed

abbrev going : World → Option (List (List ℕ))
going w = traced pair w (resending w) ending

resent_is : traced pair (start (lent fresh_end) (lent fresh_end)) losing going ≡ Some (payloads 40 0)
unfolding losing told_by resending latest u0 u1 u2 u3 u4 u5 u6 u7 u8 u9 u10 u11 u12 u13 u14 u15 u16 u17 u18 u19 u20 u21 u22 u23 u24 u25 u26 u27 u28 u29 u30 u31 u32 u33 u34 u35 u36 u37 u38 u39 u40 u41 u42 u43 u44 u45 u46 u47 u48 u49 u50 u51 u52 u53 u54 u55 u56 u57 u58 u59 u60 u61 u62 u63 u64 u65 u66 u67 u68 u69 u70 u71 u72 u73 u74 u75 u76 u77 u78 u79 u80 u81 u82 u83 u84 u85 u86 u87 u88 u89 u90 u91 u92 u93 u94 u95 u96 u97 u98 u99 u100 u101 u102 u103 u104 u105 u106 u107 u108 u109 u110 u111 u112 u113 u114 u115 u116 u117 u118 u119 u120 u121 u122 u123 u124 u125 u126 u127 u128 u129 u130 u131 u132 u133
resent_is = refl

crossed_is : traced pair (start (lent later) (lent later)) losing going ≡ Some (payloads 40 0)
unfolding losing told_by resending latest u0 u1 u2 u3 u4 u5 u6 u7 u8 u9 u10 u11 u12 u13 u14 u15 u16 u17 u18 u19 u20 u21 u22 u23 u24 u25 u26 u27 u28 u29 u30 u31 u32 u33 u34 u35 u36 u37 u38 u39 u40 u41 u42 u43 u44 u45 u46 u47 u48 u49 u50 u51 u52 u53 u54 u55 u56 u57 u58 u59 u60 u61 u62 u63 u64 u65 u66 u67 u68 u69 u70 u71 u72 u73 u74 u75 u76 u77 u78 u79 u80 u81 u82 u83 u84 u85 u86 u87 u88 u89 u90 u91 u92 u93 u94 u95 u96 u97 u98 u99 u100 u101 u102 u103 u104 u105 u106 u107 u108 u109 u110 u111 u112 u113 u114 u115 u116 u117 u118 u119 u120 u121 u122 u123 u124 u125 u126 u127 u128 u129 u130 u131 u132 u133
crossed_is = refl

-- what one such computation says of a run from two like ends
told : (end : End) → traced pair (start (lent end) (lent end)) losing going ≡ Some (payloads 40 0)
    → Mays pair (start (lent end) (lent end)) losing × Mays pair (lost_from end) (resending (lost_from end)) × ((resent_from end).handed ≡ payloads 40 0)
unfolding lost_from resent_from
told end h =
    let lost = traced_ok pair (start (lent end) (lent end)) losing going (payloads 40 0) h in
    let again = traced_ok pair (lost_from end) (resending (lost_from end)) ending (payloads 40 0) lost.1 in
    (lost.0, again.0, same_some again.1)

pub runs : Runs
runs =
    let resent = told fresh_end resent_is in
    let crossed = told later crossed_is in
    record {
      fresh_ends = fresh_is;
      losing_may = resent.0;
      resending_may = resent.1;
      resent_handed = resent.2;
      crossing_may = crossed.0;
      crossing_again_may = crossed.1;
      crossed_handed = crossed.2;
    }
