-- What may happen, as a test. Assumes nothing.
use Prim.Native.Nat.{ℕ, zero, suc, ◌+◌, ◌*◌}
use mathlib.Core.Path.{◌≡◌, refl}
use mathlib.Core.Bool.{Bool, true, false, cond, ◌&&◌}
use mathlib.Core.List.{List, [], ◌∷◌}
use native.Mathlib.Omega.{arith}
use native.Mathlib.Nat.{le_of_suc-le-suc, not-suc-le-zero}
use borrow.Author.Tests.{leb-true, ltb-true}
use lib.Dec.{leb, ltb}
use lib.ListN.{length, get_or}
use Rattle.std.specs.Prelude.{Option, Some, None}
use Rattle.laws.proofs.Cases.{both, each}
use Rattle.terms.specs.declared.Sizes.{Sizes}
use Rattle.packet_table.specs.Numbers.{Bytes}
use Rattle.link_laws.specs.Calls.{Call, receives, takes as takes_on, sends as sends_on, resends as resends_on, writes as writes_on, drops as drops_on, asks}
use Rattle.agreement.specs.World.{Pair, World, no_copy}
use Rattle.agreement.specs.Events.{Event, sends, resends, drops, writes, hears, collects, arrives, takes, others, step, run}
use Rattle.agreement.specs.Agreement.{Lent, Window, Waited, Beside, May, Mays}

abbrev lent_b : Sizes → List ℕ → Bool
lent_b z output = leb (16 * z.fragment_size + 17) (length output)

lent_ok : (z : Sizes) (output : List ℕ) → lent_b z output ≡ true → Lent z output
lent_ok z output e = leb-true (16 * z.fragment_size + 17) (length output) e

abbrev bytes_b : List ℕ → Bool
bytes_b [] = true
bytes_b (x ∷ xs) = ltb x 256 && bytes_b xs

bytes_ok : (l : List ℕ) → bytes_b l ≡ true → Bytes l
bytes_ok [] e i h = absurd (not-suc-le-zero h)
bytes_ok (x ∷ xs) e zero h = ltb-true x 256 (each (ltb x 256) (bytes_b xs) e).0
bytes_ok (x ∷ xs) e (suc i) h = bytes_ok xs (each (ltb x 256) (bytes_b xs) e).1 i (le_of_suc-le-suc h)

abbrev window_b : ℕ → Option ℕ → Bool
window_b e None = true
window_b e (Some p) = leb e (p + 32767) && leb p (e + 32768)

window_ok : (e : ℕ) (o : Option ℕ) → window_b e o ≡ true → Window e o
window_ok e None h = tt
window_ok e (Some p) h =
    let q = each (leb e (p + 32767)) (leb p (e + 32768)) h in (leb-true e (p + 32767) q.0, leb-true p (e + 32768) q.1)

abbrev waited_b : Bool → Option ℕ → Bool
waited_b quiet None = true
waited_b quiet (Some p) = quiet

waited_ok : (b : Bool) (o : Option ℕ) → waited_b b o ≡ true → Waited b o
waited_ok b None h = tt
waited_ok true (Some p) h = tt
waited_ok false (Some p) h = both {b = false} h refl

-- of the other calls at the receiver, sends
abbrev beside_b : Sizes → Call → Bool
beside_b z (receives datagram output) = false
beside_b z (takes_on stream output) = false
beside_b z (sends_on delivery ordering stream payload output) = lent_b z output && ltb stream 256
beside_b z (resends_on sent payload output) = false
beside_b z (writes_on n j output) = false
beside_b z (drops_on output) = false
beside_b z (asks output) = false

beside_ok : (z : Sizes) (id : ℕ) (c : Call) → beside_b z c ≡ true → Beside z id c
beside_ok z id (receives datagram output) h = both {b = false} h refl
beside_ok z id (takes_on stream output) h = both {b = false} h refl
beside_ok z id (sends_on delivery ordering stream payload output) h =
    let q = each (lent_b z output) (ltb stream 256) h in (lent_ok z output q.0, ltb-true stream 256 q.1)
beside_ok z id (resends_on sent payload output) h = both {b = false} h refl
beside_ok z id (writes_on n j output) h = both {b = false} h refl
beside_ok z id (drops_on output) h = both {b = false} h refl
beside_ok z id (asks output) h = both {b = false} h refl

abbrev may_b : Pair → World → Event → Bool
may_b l w (sends delivery ordering stream payload output) = lent_b l.sending output && (ltb stream 256 && bytes_b payload)
may_b l w (resends j output) = lent_b l.sending output && ltb j (length w.back)
may_b l w (drops output) = lent_b l.sending output
may_b l w (writes n j output) = lent_b l.sending output && ltb n 65536
may_b l w (hears datagram output) = lent_b l.sending output && bytes_b datagram
may_b l w (collects stream output) = lent_b l.sending output
may_b l w (arrives j output) =
    lent_b l.receiving output
    && (ltb j (length w.line)
    && (waited_b w.quiet (get_or w.line j no_copy).item && window_b (length w.handed) (get_or w.line j no_copy).item))
may_b l w (takes output) = lent_b l.receiving output
may_b l w (others call) = beside_b l.receiving call

may_ok : (l : Pair) (w : World) (e : Event) → may_b l w e ≡ true → May l w e
may_ok l w (sends delivery ordering stream payload output) h =
    let q = each (lent_b l.sending output) _ h in
    let r = each (ltb stream 256) (bytes_b payload) q.1 in
    (lent_ok l.sending output q.0, ltb-true stream 256 r.0, bytes_ok payload r.1)
may_ok l w (resends j output) h = let q = each (lent_b l.sending output) _ h in (lent_ok l.sending output q.0, ltb-true j (length w.back) q.1)
may_ok l w (drops output) h = lent_ok l.sending output h
may_ok l w (writes n j output) h = let q = each (lent_b l.sending output) _ h in (lent_ok l.sending output q.0, ltb-true n 65536 q.1)
may_ok l w (hears datagram output) h = let q = each (lent_b l.sending output) _ h in (lent_ok l.sending output q.0, bytes_ok datagram q.1)
may_ok l w (collects stream output) h = lent_ok l.sending output h
may_ok l w (arrives j output) h =
    let q = each (lent_b l.receiving output) _ h in
    let r = each (ltb j (length w.line)) _ q.1 in
    let s = each (waited_b w.quiet (get_or w.line j no_copy).item) (window_b (length w.handed) (get_or w.line j no_copy).item) r.1 in
    (lent_ok l.receiving output q.0, ltb-true j (length w.line) r.0, waited_ok w.quiet (get_or w.line j no_copy).item s.0, window_ok (length w.handed) (get_or w.line j no_copy).item s.1)
may_ok l w (takes output) h = lent_ok l.receiving output h
may_ok l w (others call) h = beside_ok l.receiving l.stream call h

-- a run and what is asked of its end, in one computation: none where something may not happen
abbrev pub traced : {A : Type 0} → Pair → World → List Event → (World → Option A) → Option A
traced l w [] ask = ask w
traced l w (v ∷ vs) ask = cond (may_b l w v) (traced l (step l w v) vs ask) None

none_some : {A G : Type 0} {a : A} → ◌≡◌ {A = Option A} None (Some a) → G
none_some h = absurd (let z : ◌≡◌ {A = ℕ} 0 1 = cc in omega arith)

pub same_some : {A : Type 0} {a b : A} → ◌≡◌ {A = Option A} (Some a) (Some b) → a ≡ b
same_some h = cc

here : {A : Type 0} (b : Bool) (o : Option A) (a : A) → cond b o None ≡ Some a → (b ≡ true) × (o ≡ Some a)
here true o a h = (refl, h)
here false o a h = none_some h

pub traced_ok : {A : Type 0} (l : Pair) (w : World) (es : List Event) (ask : World → Option A) (a : A)
    → traced l w es ask ≡ Some a → Mays l w es × (ask (run l w es) ≡ Some a)
traced_ok l w [] ask a h = (tt, h)
traced_ok l w (v ∷ vs) ask a h =
    let q = here (may_b l w v) _ a h in
    let r = traced_ok l (step l w v) vs ask a q.1 in
    ((may_ok l w v q.0, r.0), r.1)
