-- Each header's bytes, at a place of a datagram, read as the header, and the rest comes after it.
-- Assumes nothing.
use mathlib.Core.Path.{◌≡◌, refl, ◌∙◌}
use mathlib.Core.Bool.{Bool, true, false, cond}
use mathlib.Core.List.{List, ◌++◌, append_assoc}
use Prim.Native.Nat.{ℕ, ◌+◌, ◌<◌}
use native.Mathlib.Omega.{arith}
use native.Mathlib.Nat.{add-zero}
use lib.ListN.{drop}
use Rattle.packet_table.specs.declared.StandardHeader.{StandardHeader}
use Rattle.packet_table.specs.declared.FragmentHeader.{FragmentHeader}
use Rattle.packet_table.specs.declared.AckedPacketHeader.{AckedPacketHeader}
use Rattle.packet_table.specs.declared.ArrangingHeader.{ArrangingHeader}
use Rattle.packet_table.specs.Numbers.{bytes, number_at}
use Rattle.packet_table.specs.Table.{type_number, delivery_number, ordering_number}
use Rattle.packet_table.specs.Layout.{part, size_of, standard_bytes, fragment_bytes, acked_bytes, arranging_bytes}
use Rattle.packet.specs.Read.{standard_of, no_fragment, no_acked, no_arranging, fragment_of, acked_of, arranging_of}
use Rattle.packet_table.proofs.Width.{reads}
use Rattle.packet_table.proofs.Rule.{type_below, delivery_below, ordering_below, type_told, delivery_told, ordering_told}

pub record StandardParsed (v : ℕ) (s : StandardHeader) (d rest : List ℕ) : Type 0 where
  pub version : number_at 2 d 0 ≡ v
  pub type_is : number_at 1 d 2 ≡ type_number s.packet_type
  pub delivery_is : number_at 1 d 3 ≡ delivery_number s.delivery
  pub ordering_is : number_at 1 d 4 ≡ ordering_number s.ordering
  pub standard : standard_of d ≡ s
  pub after : drop 5 d ≡ rest

pub standard_parsed : (v : ℕ) (s : StandardHeader) (d rest : List ℕ) → v < 65536 → d ≡ standard_bytes v s ++ rest → StandardParsed v s d rest
unfolding standard_bytes
standard_parsed v s d rest h e =
    let t : ℕ = type_number s.packet_type in
    let dl : ℕ = delivery_number s.delivery in
    let o : ℕ = ordering_number s.ordering in
    let flat : drop 0 d ≡ bytes 2 v ++ (bytes 1 t ++ (bytes 1 dl ++ (bytes 1 o ++ rest))) = e ∙ simp append_assoc in
    let one = reads 2 d 0 v _ h flat 2 refl in
    let two = reads 1 d 2 t _ (omega (arith, type_below s.packet_type)) one.1 3 refl in
    let three = reads 1 d 3 dl _ (omega (arith, delivery_below s.delivery)) two.1 4 refl in
    let four = reads 1 d 4 o _ (omega (arith, ordering_below s.ordering)) three.1 5 refl in
    record {
      version = one.0;
      type_is = two.0;
      delivery_is = three.0;
      ordering_is = four.0;
      standard = rw (two.0, three.0, four.0, type_told s.packet_type, delivery_told s.delivery, ordering_told s.ordering);
      after = four.1;
    }

module _ (d : List ℕ) (at : ℕ) (rest : List ℕ) where
  pub fragment_parsed : (there : Bool) (f : FragmentHeader) → f.number.0 < 65536 → f.id < 256 → f.count < 256
      → drop at d ≡ part there (fragment_bytes f) ++ rest
      → (fragment_of there d at ≡ cond there f no_fragment) × (drop (at + size_of there 4) d ≡ rest)
  unfolding fragment_bytes
  fragment_parsed true f a b c e =
      let flat : drop at d ≡ bytes 2 f.number.0 ++ (bytes 1 f.id ++ (bytes 1 f.count ++ rest)) = e ∙ simp append_assoc in
      let one = reads 2 d at f.number.0 _ a flat (at + 2) refl in
      let two = reads 1 d (at + 2) f.id _ b one.1 (at + 3) (omega arith) in
      let three = reads 1 d (at + 3) f.count _ c two.1 (at + 4) (omega arith) in
      (rw (one.0, two.0, three.0), three.1)
  fragment_parsed false f a b c e = (refl, rw add-zero e)

  pub acked_parsed : (there : Bool) (h : AckedPacketHeader) → h.number.0 < 65536 → h.acked.0 < 65536 → h.field < 4294967296
      → drop at d ≡ part there (acked_bytes h) ++ rest
      → (acked_of there d at ≡ cond there h no_acked) × (drop (at + size_of there 8) d ≡ rest)
  unfolding acked_bytes
  acked_parsed true h a b c e =
      let flat : drop at d ≡ bytes 2 h.number.0 ++ (bytes 2 h.acked.0 ++ (bytes 4 h.field ++ rest)) = e ∙ simp append_assoc in
      let one = reads 2 d at h.number.0 _ a flat (at + 2) refl in
      let two = reads 2 d (at + 2) h.acked.0 _ b one.1 (at + 4) (omega arith) in
      let three = reads 4 d (at + 4) h.field _ c two.1 (at + 8) (omega arith) in
      (rw (one.0, two.0, three.0), three.1)
  acked_parsed false h a b c e = (refl, rw add-zero e)

  pub arranging_parsed : (there : Bool) (h : ArrangingHeader) → h.index.0 < 65536 → h.stream < 256
      → drop at d ≡ part there (arranging_bytes h) ++ rest
      → (arranging_of there d at ≡ cond there h no_arranging) × (drop (at + size_of there 3) d ≡ rest)
  unfolding arranging_bytes
  arranging_parsed true h a b e =
      let flat : drop at d ≡ bytes 2 h.index.0 ++ (bytes 1 h.stream ++ rest) = e ∙ simp append_assoc in
      let one = reads 2 d at h.index.0 _ a flat (at + 2) refl in
      let two = reads 1 d (at + 2) h.stream _ b one.1 (at + 3) (omega arith) in
      (rw (one.0, two.0), two.1)
  arranging_parsed false h a b e = (refl, rw add-zero e)
