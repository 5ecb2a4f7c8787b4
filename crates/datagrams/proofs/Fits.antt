-- What a payload that is sent fits into: its slot in flight, and with its headers the output. Assumes nothing.
--     holds, at_most     n bytes are at most m pieces exactly where they are at most m * f
--     room               the first datagram of an item
use mathlib.Core.List.{List}
use mathlib.Core.Logic.{⊎_elim}
use Prim.Native.Nat.{ℕ, ◌+◌, ◌*◌, ◌/◌, ◌%◌, ◌≤◌, ◌<◌}
use native.Mathlib.Nat.{mod-lt, add-mul, one-mul, div-add-mod', mul-le-mul_right}
use native.Mathlib.Omega.{arith}
use lib.Dec.{ltb}
use lib.ListN.{length, take, length-take}
use borrow.Author.Tests.{ltb-false}
use Rattle.laws.proofs.Cases.{case, lt_or_le}
use Rattle.serial.specs.declared.ItemId.{ItemId}
use Rattle.acks.specs.declared.Acknowledgment.{Acknowledgment}
use Rattle.splitter.specs.Split.{needed}
use Rattle.splitter.proofs.Pieces.{begins}
use Rattle.packet_table.specs.Table.{follows, has_fragment, has_acked, has_arranging}
use Rattle.packet_table.specs.Layout.{payload_at}
use Rattle.packet_table.specs.declared.table.Following.{Following}
use Rattle.packet_table.proofs.Lengths.{size_most}
use Rattle.datagrams.specs.Datagrams.{count_of, standard_for, headers_for, Room}
use Rattle.datagrams.specs.declared.Item.{Item}

held : (n f : ℕ) → 1 ≤ f → n ≤ needed n f * f
unfolding needed
held n f some =
    let whole = div-add-mod' n f in
    case (ltb 0 (n % f))
    (λ e. rw (e, add-mul (n / f) 1 f, one-mul f) (omega (arith, whole, mod-lt n {m = f} some)))
    (λ e. rw (e, add-mul (n / f) 0 f) (omega (arith, whole, ltb-false 0 (n % f) e)))

pub holds : (n f m : ℕ) → 1 ≤ f → needed n f ≤ m → n ≤ m * f
holds n f m some h = omega (arith, held n f some, mul-le-mul_right {m = needed n f} {n = m} f h)

pub at_most : (n f m : ℕ) → 1 ≤ f → n ≤ m * f → needed n f ≤ m
at_most n f m some h = ⊎_elim (λ l. absurd (omega (arith, h, begins f m n some l))) (λ l. l) (lt_or_le m (needed n f))

pub few_datagrams : (f n m : ℕ) → m ≤ 16 → needed n f ≤ m → count_of f n < 256
unfolding count_of
few_datagrams f n m most h = case (ltb f n) (λ e. rw e (omega arith)) (λ e. rw e (omega arith))

pub payload_at_most : (f : Following) (id : ℕ) → payload_at f id ≤ 20
payload_at_most f id = omega (arith, size_most (has_fragment f) 4, size_most (has_acked f id) 8, size_most (has_arranging f) 3)

pub take_most : (f : ℕ) (l : List ℕ) → length (take f l) ≤ f
take_most f l = simp length-take (omega arith)

pub room : (f : ℕ) (i : Item) (id : ItemId) (c : Acknowledgment) (received payload output : List ℕ)
    → 1 ≤ f
    → 16 * f + 17 ≤ length output
    → Room (headers_for f i id c received (length payload)) (take f payload) output
room f i id c received payload output some wide = omega (arith, payload_at_most (follows (standard_for f i (length payload))) 0, take_most f payload)
