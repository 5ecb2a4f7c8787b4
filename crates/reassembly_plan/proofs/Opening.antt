-- What an open gate says: sizes in range, lent buffers that are long enough, and a sound table. Assumes nothing.
use mathlib.Core.Path.{◌≡◌}
use mathlib.Core.Bool.{true, false}
use mathlib.Core.List.{List}
use Prim.Native.Nat.{ℕ, ◌+◌, ◌*◌, ◌≤◌}
use lib.Dec.{ltb}
use lib.ListN.{length, take}
use borrow.Author.Tests.{ltb-false}
use Rattle.std.specs.Prelude.{Ok}
use Rattle.laws.proofs.Cases.{case, neither, no_answer}
use Rattle.terms.specs.Sizes.{in_range}
use Rattle.terms.specs.declared.Sizes.{Sizes}
use Rattle.terms.proofs.Ranges.{InRange, in_range_means}
use Rattle.reassembly_plan.specs.Gate.{sound, too_short, gate_of}

pub record Long (f c : ℕ) (slots entry header bytes output : List ℕ) : Type 0 where
  pub slots_c : c ≤ length slots
  pub entry_c : c ≤ length entry
  pub header_c : c ≤ length header
  pub bytes_room : c * (16 * f) ≤ length bytes
  pub output_room : 16 * f + 17 ≤ length output

pub long_enough : (f c : ℕ) (slots entry header bytes output : List ℕ) → too_short f c slots entry header bytes output ≡ false → Long f c slots entry header bytes output
unfolding too_short
long_enough f c slots entry header bytes output e =
    let p = neither (ltb (length slots) c) _ e in
    let q = neither (ltb (length entry) c) _ p.1 in
    let r = neither (ltb (length header) c) _ q.1 in
    let s = neither (ltb (length bytes) (c * (16 * f))) (ltb (length output) (16 * f + 17)) r.1 in
    record {
      slots_c = ltb-false _ _ p.0;
      entry_c = ltb-false _ _ q.0;
      header_c = ltb-false _ _ r.0;
      bytes_room = ltb-false _ _ s.0;
      output_room = ltb-false _ _ s.1;
    }

pub record Opens (z : Sizes) (slots entry header bytes output : List ℕ) : Type 0 where
  pub within_range : InRange z
  pub long : Long z.fragment_size z.reassembly_slots slots entry header bytes output
  pub is_sound_lem : sound z.fragment_size (take z.reassembly_slots slots) entry ≡ true

module _ (z : Sizes) (slots entry header bytes output : List ℕ) where
  pub gate_opens : gate_of z slots entry header bytes output ≡ Ok tt → Opens z slots entry header bytes output
  unfolding gate_of
  gate_opens e =
      case (in_range z)
      (λ a.
      case (too_short z.fragment_size z.reassembly_slots slots entry header bytes output)
      (λ b. no_answer (rw (a, b) at e))
      (λ b.
      case (sound z.fragment_size (take z.reassembly_slots slots) entry)
      (λ d. record { within_range = in_range_means z a; long = long_enough _ _ slots entry header bytes output b; is_sound_lem = d })
      (λ d. no_answer (rw (a, b, d) at e))))
      (λ a. no_answer (rw a at e))
