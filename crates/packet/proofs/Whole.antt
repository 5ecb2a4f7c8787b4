-- The three runs of a datagram, written one after the other, are the datagram. Assumes nothing.
use mathlib.Core.Path.{◌≡◌, refl, sym, ap, ◌∙◌}
use mathlib.Core.List.{List, ◌++◌}
use Prim.Native.Nat.{ℕ, ◌+◌, ◌≤◌}
use native.Mathlib.Omega.{arith}
use lib.ListN.{length, drop}
use Rattle.packet_table.specs.declared.Headers.{Headers}
use Rattle.packet_table.specs.Table.{follows}
use Rattle.packet_table.specs.Layout.{standard_bytes, following_bytes, payload_at, datagram}
use Rattle.packet_table.specs.Numbers.{written}
use Rattle.packet_table.proofs.Lengths.{standard_length, following_length, datagram_length}
use Rattle.packet_table.proofs.Output.{three, at_start}

module _ (v : ℕ) (h : Headers) (p o : List ℕ) where
  pub whole : payload_at (follows h.standard) h.fragment.id + length p ≤ length o
      → written (payload_at (follows h.standard) h.fragment.id) p (written 5 (following_bytes (follows h.standard) h) (written 0 (standard_bytes v h.standard) o))
      ≡ datagram v h p ++ drop (payload_at (follows h.standard) h.fragment.id + length p) o
  unfolding datagram
  whole room =
      let s : List ℕ = standard_bytes v h.standard in
      let f : List ℕ = following_bytes (follows h.standard) h in
      let here : payload_at (follows h.standard) h.fragment.id ≡ 5 + length f = sym (following_length (follows h.standard) h) in
      three o 0 s f p 5 (length f) 5 (payload_at (follows h.standard) h.fragment.id) (standard_length v h.standard) refl refl here (omega arith)
      ∙ at_start o (s ++ (f ++ p))
      ∙ ap (λ (n : ℕ). (s ++ (f ++ p)) ++ drop n o) (datagram_length v h p)
