-- How long each part of a datagram is. Assumes nothing.
use mathlib.Core.Path.{◌≡◌, refl}
use mathlib.Core.Bool.{Bool, true, false}
use mathlib.Core.List.{List}
use Prim.Native.Nat.{ℕ, ◌+◌, ◌≤◌}
use native.Mathlib.Omega.{arith}
use lib.ListN.{length, length-append}
use Rattle.packet_table.specs.declared.StandardHeader.{StandardHeader}
use Rattle.packet_table.specs.declared.FragmentHeader.{FragmentHeader}
use Rattle.packet_table.specs.declared.AckedPacketHeader.{AckedPacketHeader}
use Rattle.packet_table.specs.declared.ArrangingHeader.{ArrangingHeader}
use Rattle.packet_table.specs.declared.Headers.{Headers}
use Rattle.packet_table.specs.declared.table.Following.{Following}
use Rattle.packet_table.specs.Numbers.{bytes}
use Rattle.packet_table.specs.Table.{follows, has_fragment, has_acked, has_arranging}
use Rattle.packet_table.specs.Layout.{part, size_of, standard_bytes, fragment_bytes, acked_bytes, arranging_bytes, following_bytes, payload_at, datagram}

pub size_most : (there : Bool) (n : ℕ) → size_of there n ≤ n
size_most true n = omega arith
size_most false n = omega arith

pub standard_length : (v : ℕ) (s : StandardHeader) → length (standard_bytes v s) ≡ 5
unfolding standard_bytes bytes
standard_length v s = refl

pub fragment_length : (there : Bool) (f : FragmentHeader) → length (part there (fragment_bytes f)) ≡ size_of there 4
unfolding fragment_bytes bytes
fragment_length true f = refl
fragment_length false f = refl

pub acked_length : (there : Bool) (a : AckedPacketHeader) → length (part there (acked_bytes a)) ≡ size_of there 8
unfolding acked_bytes bytes
acked_length true a = refl
acked_length false a = refl

pub arranging_length : (there : Bool) (a : ArrangingHeader) → length (part there (arranging_bytes a)) ≡ size_of there 3
unfolding arranging_bytes bytes
arranging_length true a = refl
arranging_length false a = refl

pub following_length : (f : Following) (h : Headers) → 5 + length (following_bytes f h) ≡ payload_at f h.fragment.id
unfolding following_bytes
following_length f h =
    rw (length-append, length-append, fragment_length (has_fragment f) h.fragment, acked_length (has_acked f h.fragment.id) h.acked, arranging_length (has_arranging f) h.arranging)
    (omega arith)

pub datagram_length : (v : ℕ) (h : Headers) (p : List ℕ) → length (datagram v h p) ≡ payload_at (follows h.standard) h.fragment.id + length p
unfolding datagram
datagram_length v h p =
    rw (length-append, length-append, standard_length v h.standard) (omega (arith, following_length (follows h.standard) h))
