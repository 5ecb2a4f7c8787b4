-- A datagram is bytes where its payload is. Assumes nothing.
use Prim.Native.Nat.{ℕ, zero, suc, ◌/◌, ◌%◌, ◌<◌}
use mathlib.Core.Bool.{Bool, true, false}
use mathlib.Core.List.{List, [], ◌∷◌, ◌++◌}
use native.Mathlib.Nat.{mod-lt, le_of_suc-le-suc, not-suc-le-zero}
use native.Mathlib.Omega.{arith}
use lib.ListN.{take, drop}
use Rattle.packet_table.specs.Numbers.{bytes, Bytes}
use Rattle.packet_table.specs.Layout.{standard_bytes, fragment_bytes, acked_bytes, arranging_bytes, part, following_bytes, datagram}
use Rattle.packet_table.specs.Table.{type_number, delivery_number, ordering_number, follows, has_fragment, has_acked, has_arranging}
use Rattle.packet_table.specs.declared.Headers.{Headers}
use Rattle.packet_table.specs.declared.StandardHeader.{StandardHeader}
use Rattle.packet_table.specs.declared.FragmentHeader.{FragmentHeader}
use Rattle.packet_table.specs.declared.AckedPacketHeader.{AckedPacketHeader}
use Rattle.packet_table.specs.declared.ArrangingHeader.{ArrangingHeader}
use Rattle.packet_table.specs.declared.table.Following.{Following}

no_bytes : Bytes []
no_bytes i h = absurd (not-suc-le-zero h)

rest : (x : ℕ) (xs : List ℕ) → Bytes (x ∷ xs) → Bytes xs
rest x xs a i h = a (suc i) (omega arith)

cons : (x : ℕ) (xs : List ℕ) → x < 256 → Bytes xs → Bytes (x ∷ xs)
cons x xs h a zero l = h
cons x xs h a (suc i) l = a i (le_of_suc-le-suc l)

append : (a b : List ℕ) → Bytes a → Bytes b → Bytes (a ++ b)
append [] b p q = q
append (x ∷ xs) b p q = cons x (xs ++ b) (p zero (omega arith)) (append xs b (rest x xs p) q)

pub taken : (n : ℕ) (l : List ℕ) → Bytes l → Bytes (take n l)
taken zero l a = no_bytes
taken (suc n) [] a = no_bytes
taken (suc n) (x ∷ l) a = cons x (take n l) (a zero (omega arith)) (taken n l (rest x l a))

pub dropped : (n : ℕ) (l : List ℕ) → Bytes l → Bytes (drop n l)
dropped zero l a = a
dropped (suc n) [] a = no_bytes
dropped (suc n) (x ∷ l) a = dropped n l (rest x l a)

number : (w n : ℕ) → Bytes (bytes w n)
unfolding bytes
number zero n = no_bytes
number (suc w) n = append (bytes w (n / 256)) (n % 256 ∷ []) (number w (n / 256)) (cons (n % 256) [] (mod-lt n {m = 256} (omega arith)) no_bytes)

there : (b : Bool) (l : List ℕ) → Bytes l → Bytes (part b l)
there true l a = a
there false l a = no_bytes

standard : (v : ℕ) (s : StandardHeader) → Bytes (standard_bytes v s)
unfolding standard_bytes
standard v s =
    let t : ℕ = type_number s.packet_type in
    let d : ℕ = delivery_number s.delivery in
    let o : ℕ = ordering_number s.ordering in
    append (bytes 2 v) (bytes 1 t ++ (bytes 1 d ++ bytes 1 o)) (number 2 v)
    (append (bytes 1 t) (bytes 1 d ++ bytes 1 o) (number 1 t) (append (bytes 1 d) (bytes 1 o) (number 1 d) (number 1 o)))

fragment : (f : FragmentHeader) → Bytes (fragment_bytes f)
unfolding fragment_bytes
fragment f =
    append (bytes 2 f.number.0) (bytes 1 f.id ++ bytes 1 f.count) (number 2 f.number.0)
    (append (bytes 1 f.id) (bytes 1 f.count) (number 1 f.id) (number 1 f.count))

acked : (h : AckedPacketHeader) → Bytes (acked_bytes h)
unfolding acked_bytes
acked h =
    append (bytes 2 h.number.0) (bytes 2 h.acked.0 ++ bytes 4 h.field) (number 2 h.number.0)
    (append (bytes 2 h.acked.0) (bytes 4 h.field) (number 2 h.acked.0) (number 4 h.field))

arranging : (h : ArrangingHeader) → Bytes (arranging_bytes h)
unfolding arranging_bytes
arranging h = append (bytes 2 h.index.0) (bytes 1 h.stream) (number 2 h.index.0) (number 1 h.stream)

following : (f : Following) (h : Headers) → Bytes (following_bytes f h)
unfolding following_bytes
following f h =
    let a = part (has_fragment f) (fragment_bytes h.fragment) in
    let b = part (has_acked f h.fragment.id) (acked_bytes h.acked) in
    let c = part (has_arranging f) (arranging_bytes h.arranging) in
    append a (b ++ c) (there (has_fragment f) (fragment_bytes h.fragment) (fragment h.fragment))
    (append b c (there (has_acked f h.fragment.id) (acked_bytes h.acked) (acked h.acked)) (there (has_arranging f) (arranging_bytes h.arranging) (arranging h.arranging)))

pub whole : (v : ℕ) (h : Headers) (p : List ℕ) → Bytes p → Bytes (datagram v h p)
unfolding datagram
whole v h p a =
    append (standard_bytes v h.standard) (following_bytes (follows h.standard) h ++ p) (standard v h.standard)
    (append (following_bytes (follows h.standard) h) p (following (follows h.standard) h) a)
