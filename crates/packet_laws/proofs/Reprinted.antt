-- Each header that was read, printed again, is the bytes that stood there.
-- Assumes nothing.
use mathlib.Core.Path.{◌≡◌, refl}
use mathlib.Core.Bool.{Bool, true, false}
use mathlib.Core.List.{List, ◌++◌, append_assoc}
use Prim.Native.Nat.{ℕ, ◌+◌, ◌≤◌, ◌<◌}
use native.Mathlib.Omega.{arith}
use native.Mathlib.Nat.{add-zero}
use lib.ListN.{length, drop}
use Rattle.packet_table.specs.Numbers.{bytes, number_at, Bytes}
use Rattle.packet_table.specs.Layout.{part, size_of, standard_bytes, fragment_bytes, acked_bytes, arranging_bytes}
use Rattle.packet.specs.Read.{standard_of, fragment_of, acked_of, arranging_of}
use Rattle.packet_table.proofs.Width.{again, fits_width}
use Rattle.packet_table.proofs.Rule.{type_number_lem, delivery_number_lem, ordering_number_lem}

module _ (d : List ℕ) (all : Bytes d) where
  -- a field before what is already printed
  before : (w at q : ℕ) (rest : List ℕ) → q ≡ at + w → q ≤ length d → rest ≡ drop q d → bytes w (number_at w d at) ++ rest ≡ drop at d
  before w at q rest here room e = rw (e, here) (again w d at (rw here at room) all)

  pub standard_again : (v : ℕ) → 5 ≤ length d → number_at 2 d 0 ≡ v → number_at 1 d 2 < 3 → number_at 1 d 3 < 2 → number_at 1 d 4 < 3
      → standard_bytes v (standard_of d) ++ drop 5 d ≡ d
  unfolding standard_bytes
  standard_again v long e t dl o =
      rw (← e, type_number_lem (number_at 1 d 2) t, delivery_number_lem (number_at 1 d 3) dl, ordering_number_lem (number_at 1 d 4) o)
      (simp append_assoc
      (before 2 0 2 _ refl (omega arith) (before 1 2 3 _ refl (omega arith) (before 1 3 4 _ refl (omega arith) (before 1 4 5 _ refl long refl)))))

  module _ (at : ℕ) where
    pub fragment-again : (there : Bool) → at + size_of there 4 ≤ length d → part there (fragment_bytes (fragment_of there d at)) ++ drop (at + size_of there 4) d ≡ drop at d
    unfolding fragment_bytes
    fragment-again true room =
        simp append_assoc
        (before 2 at (at + 2) _ refl (omega arith) (before 1 (at + 2) (at + 3) _ (omega arith) (omega arith) (before 1 (at + 3) (at + 4) _ (omega arith) room refl)))
    fragment-again false room = rw add-zero

    pub acked-again : (there : Bool) → at + size_of there 8 ≤ length d → part there (acked_bytes (acked_of there d at)) ++ drop (at + size_of there 8) d ≡ drop at d
    unfolding acked_bytes
    acked-again true room =
        simp append_assoc
        (before 2 at (at + 2) _ refl (omega arith) (before 2 (at + 2) (at + 4) _ (omega arith) (omega arith) (before 4 (at + 4) (at + 8) _ (omega arith) room refl)))
    acked-again false room = rw add-zero

    pub arranging-again : (there : Bool) → at + size_of there 3 ≤ length d → part there (arranging_bytes (arranging_of there d at)) ++ drop (at + size_of there 3) d ≡ drop at d
    unfolding arranging_bytes
    arranging-again true room =
        simp append_assoc
        (before 2 at (at + 2) _ refl (omega arith) (before 1 (at + 2) (at + 3) _ (omega arith) room refl))
    arranging-again false room = rw add-zero

    -- and each of its fields fits its bytes
    pub fragment-fits : (there : Bool) → at + size_of there 4 ≤ length d
        → ((fragment_of there d at).number.0 < 65536) × ((fragment_of there d at).id < 256) × ((fragment_of there d at).count < 256)
    fragment-fits true room = (fits_width 2 d at (omega arith) all, fits_width 1 d (at + 2) (omega arith) all, fits_width 1 d (at + 3) (omega arith) all)
    fragment-fits false room = (omega arith, omega arith, omega arith)

    pub acked-fits : (there : Bool) → at + size_of there 8 ≤ length d
        → ((acked_of there d at).number.0 < 65536) × ((acked_of there d at).acked.0 < 65536) × ((acked_of there d at).field < 4294967296)
    acked-fits true room = (fits_width 2 d at (omega arith) all, fits_width 2 d (at + 2) (omega arith) all, fits_width 4 d (at + 4) (omega arith) all)
    acked-fits false room = (omega arith, omega arith, omega arith)

    pub arranging-fits : (there : Bool) → at + size_of there 3 ≤ length d
        → ((arranging_of there d at).index.0 < 65536) × ((arranging_of there d at).stream < 256)
    arranging-fits true room = (fits_width 2 d at (omega arith) all, fits_width 1 d (at + 2) (omega arith) all)
    arranging-fits false room = (omega arith, omega arith)
