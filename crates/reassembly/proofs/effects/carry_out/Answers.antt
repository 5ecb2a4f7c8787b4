use mathlib.Core.Path.{sym}
use Prim.Native.Nat.{◌*◌}
use native.Mathlib.Omega.{arith}
use lib.ListN.{length}
use Rattle.reassembly.specs.Effects.{performed}
use Rattle.laws.proofs.Slots.{slot_end}
use Rattle.reassembly.proofs.Planned.{plan_fits}
use Rattle.reassembly.proofs.effects.carry_out.Goals as goal

pub join-requires : goal.join-requires
join-requires c j e =
    let a = c.args in
    let fit = plan_fits a.f a.sequence_num.0 a.slots.now a.entry.now a.fragment (length a.payload.now) j (rw e at (sym c.requires.2)) c.requires.0.table (omega (arith, c.well_formed.1.1.1.1.1.1.0)) c.requires.1 in
    omega (arith, slot_end c.slot-at.result (length a.slots.now) (16 * a.f) c.slot-at.ensures.1, c.requires.0.bytes)

pub hand_out-requires : goal.hand_out-requires
hand_out-requires c j e =
    let a = c.args in
    let fit = plan_fits a.f a.sequence_num.0 a.slots.now a.entry.now a.fragment (length a.payload.now) j (rw e at (sym c.requires.2)) c.requires.0.table (omega (arith, c.well_formed.1.1.1.1.1.1.0)) c.requires.1 in
    (rw c.join.auto.bytes (omega (arith, slot_end c.slot-at.result (length a.slots.now) (16 * a.f) c.slot-at.ensures.1, c.requires.0.bytes)), omega (arith, c.requires.0.message))

pub returns : goal.returns
unfolding performed
returns c =
    let at = c.slot-at.ensures.0 in
    record {
      number = c.number_in-after.ensures.result_value;
      answer = rw (← at, ← c.keep_header.ensures) c.tell.ensures;
      slots_are = c.number_in-after.ensures.slots_after;
      entry_is = rw (← at) c.note.ensures;
      header_is = rw (← at) c.keep_header.ensures;
      bytes_are = rw (← at) c.join.ensures;
      output_is = rw (← at, ← c.join.ensures) c.hand_out.ensures;
    }
