-- The call of a user: the room behind an open gate, what a refusal keeps, and what a plan leaves of what is lent. Assumes nothing.
use mathlib.Core.Path.{◌≡◌, sym, ap}
use mathlib.Core.List.{List, ◌++◌}
use Prim.Native.Nat.{ℕ}
use native.Mathlib.Omega.{arith}
use lib.ListN.{length, take, drop, take-append-drop}
use lib.Seq.{length-take-le}
use Rattle.std.specs.Prelude.{Result, Err}
use Rattle.terms.specs.declared.Sizes.{Sizes}
use Rattle.terms.specs.declared.Refusal.{Refusal}
use Rattle.reassembly_plan.specs.declared.plan.Fragment.{Fragment}
use Rattle.reassembly_plan.specs.declared.plan.Plan.{Plan}
use Rattle.reassembly_plan.proofs.Opening.{Opens}
use Rattle.reassembly.specs.Effects.{State, num_after, slots_after, entry_after, header_after, bytes_after, output_after, answer_of, performed, Performs}
use Rattle.reassembly.specs.Call.{stated, decided, handled, Handles}
use Rattle.reassembly.specs.Room.{lending, Room}
use Rattle.reassembly.specs.declared.effects.Handled.{Handled}

module _ (z : Sizes) (slots entry header bytes output : List ℕ) where
  pub open_room : (num : ℕ) → Opens z slots entry header bytes output → Room z.fragment_size (lending num (take z.reassembly_slots slots) entry header bytes) output
  open_room num o =
      let l = o.long in
      let r = o.within_range in
      let e = length-take-le z.reassembly_slots slots l.slots_c in
      record {
        table = record {
          f_most = r.f.1;
          some = rw e r.c.0;
          most = rw e r.c.1;
          beside = rw e l.entry_c;
          is_sound_lem = o.is_sound_lem;
        };
        headers = rw e l.header_c;
        bytes = rw e l.bytes_room;
        message = omega (arith, l.output_room);
      }

module _ (z : Sizes) (s : State) (g : Fragment) (payload output : List ℕ) where
  -- a refusal that nothing was done for
  pub kept : (why : Refusal) (r : Handled)
      → decided z s output g (length payload) ≡ Err why
      → r.sequence_num.0 ≡ s.num
      → r.answer ≡ Err why
      → Handles z s g payload output r s.slots s.entry s.header s.bytes output
  unfolding handled performed num_after slots_after entry_after header_after bytes_after output_after answer_of
  kept why r e n a = record {
    number = rw e n;
    answer = rw e a;
    slots_are = rw e (sym (take-append-drop z.reassembly_slots s.slots));
    entry_is = rw e;
    header_is = rw e;
    bytes_are = rw e;
    output_is = rw e;
  }

  -- a plan that was carried out on the table's slots
  pub done : (plan : Result Plan Refusal) (r : Handled) (slots entry header bytes written : List ℕ)
      → decided z s output g (length payload) ≡ plan
      → Performs plan z.fragment_size g payload (stated z.reassembly_slots s) output r slots entry header bytes written
      → Handles z s g payload output r (slots ++ drop z.reassembly_slots s.slots) entry header bytes written
  unfolding handled
  done plan r slots entry header bytes written e p = record {
    number = rw e p.number;
    answer = rw e p.answer;
    slots_are = rw e (ap (λ (l : List ℕ). l ++ drop z.reassembly_slots s.slots) p.slots_are);
    entry_is = rw e p.entry_is;
    header_is = rw e p.header_is;
    bytes_are = rw e p.bytes_are;
    output_is = rw e p.output_is;
  }
