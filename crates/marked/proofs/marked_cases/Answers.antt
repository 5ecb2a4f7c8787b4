-- Every definition on the way is opened, and the list computes to true.
use mathlib.Core.Path.{refl}
use Rattle.laws.specs.Bits.{bits_below}
use Rattle.serial.specs.Order.{greater}
use Rattle.sequence_buffer.specs.Buffer.{goes, emptied, advanced_slots, advanced_num, inserted_slots, inserted_num, inserted}
use Rattle.sequence_buffer.specs.Facts.{called}
use Rattle.received.specs.Field.{field_of}
use Rattle.keys.specs.Keys.{first_place, occurs, twice}
use Rattle.terms.specs.Sizes.{between, in_range}
use Rattle.flight.specs.Entry.{number_in}
use Rattle.flight.specs.Acked.{is_acked}
use Rattle.flight.specs.Lost.{is_lost, least_lost, drop_of}
use Rattle.splitter.specs.Split.{cut, needed, split_of}
use Rattle.reassembly_plan.specs.Plan.{found, judged, passed, plan_of}
use Rattle.reassembly.specs.Effects.{num_after, slots_after, entry_after, header_after, bytes_after, output_after, performed, joined_answer, answer_of}
use Rattle.reassembly_plan.specs.Gate.{count_below, all_below, entry_sound, sound, too_short, gate_of}
use Rattle.reassembly.specs.Call.{decided, handled}
use Rattle.sequence_buffer.specs.Buffer.{removed_slots}
use Rattle.ordering_plan.specs.Arrange.{plan_of as arrange_plan}
use Rattle.sequencing.specs.Sequence.{sequence_of}
use Rattle.marked.specs.Cases.{cases, accepted, from, having, field_after, same, numbers, dropped_first, dropped, split_number, is_held, is_past, goes_out, all_go_out, told, joined, holds, hold}
use Rattle.marked.proofs.marked_cases.Goals as goal

pub returns : goal.returns
unfolding cases accepted from having field_after same numbers dropped_first dropped split_number is_held is_past goes_out all_go_out told joined holds hold greater goes emptied advanced_slots advanced_num inserted_slots inserted_num inserted removed_slots called bits_below field_of first_place occurs twice between in_range number_in is_acked is_lost least_lost drop_of cut needed split_of found judged passed plan_of num_after slots_after entry_after header_after bytes_after output_after performed joined_answer answer_of count_below all_below entry_sound sound too_short gate_of decided handled arrange_plan sequence_of
returns c = refl
