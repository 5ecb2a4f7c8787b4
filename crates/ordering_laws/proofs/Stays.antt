-- A stream that passed the gate passes it after every call. Assumes nothing.
--     sound_good, good_sound       13's tests and `Good` say the same
--     open_good, good_open         so do the gate's
--     arranged_good, taken_good    what a call leaves of a good state is good
use Prim.Native.Nat.{ℕ, ◌+◌, ◌*◌, ◌≤◌, ◌<◌}
use mathlib.Core.Path.{◌≡◌, refl, sym, ◌∙◌}
use mathlib.Core.Bool.{true, false}
use mathlib.Core.List.{List, ◌++◌}
use mathlib.Core.Logic.{⊎_elim}
use native.Mathlib.Omega.{arith}
use borrow.Author.Tests.{le-leb}
use lib.ListN.{length, get_or, take, drop, length-append, length-drop, length-take}
use lib.Seq.{length-take-le, get_or-take}
use Rattle.std.specs.Prelude.{Result, Ok, Err, Option, Some, None}
use Rattle.laws.proofs.Cases.{both, off, lt_or_le}
use Rattle.terms.specs.Sizes.{in_range}
use Rattle.terms.specs.declared.Sizes.{Sizes}
use Rattle.keys.specs.Keys.{twice}
use Rattle.keys.proofs.Twice.{exact, all_apart}
use Rattle.ordering_plan.specs.State.{State, lending, fresh, written, numbered}
use Rattle.ordering_plan.specs.Arrange.{plan_of, handed_out, arranged}
use Rattle.ordering.specs.Take.{next_place, next_of, taken_out, taken}
use Rattle.ordering_plan.specs.Room.{Room}
use Rattle.ordering_plan.specs.Gate.{all_fit, sound, gate_of}
use Rattle.ordering.specs.Calls.{arrange_of, take_of}
use Rattle.ordering_plan.specs.declared.Arranged.{Arranged}
use Rattle.ordering_plan.specs.declared.Arranged.TheVariants.{Out, Held, Old}
use Rattle.ordering_plan.proofs.Fits.{at_fits}
use Rattle.ordering_plan.proofs.Gates.{opened, size_high, sound_once, long_enough, gate_open}
use Rattle.ordering_plan.proofs.Planned.{held_place}
use Rattle.ordering.proofs.Calls.{arrange_long, arrange_open, take_open}
use Rattle.ordering_laws.specs.Held.{Good}
use Rattle.ordering_laws.specs.Sound.{StaysSound}
use Rattle.ordering_laws.proofs.Put.{put_good}
use Rattle.ordering_laws.proofs.Removed.{left_good}
use Rattle.ordering_laws.proofs.Map.{found_there}
use Rattle.terms.specs.declared.Refusal.{Refusal}

-- of two places that differ one comes first
once_of : (s : State) → s.stream.held ≤ length s.index → twice (take s.stream.held s.index) ≡ false
    → (j k : ℕ) → j < s.stream.held → k < s.stream.held → get_or s.index j 0 < 65536 → get_or s.index j 0 ≡ get_or s.index k 0 → j ≡ k
once_of s long t j k a b key e =
    ⊎_elim (λ h. absurd (never j k h b key e))
    (λ h. ⊎_elim (λ q. absurd (never k j q a (rw (sym e) key) (sym e))) (λ q. omega arith) (lt_or_le k j))
    (lt_or_le j k)
  where
    held : List ℕ
    held = take s.stream.held s.index

    never : (i m : ℕ) → i < m → m < s.stream.held → get_or s.index i 0 < 65536 → get_or s.index i 0 ≡ get_or s.index m 0 → ⊥
    never i m h n key same =
        let n' : i < s.stream.held = omega arith in
        both
        (exact.if_same held
        (record {
          first = i;
          second = m;
          before = h;
          within = rw (length-take-le s.stream.held s.index long) n;
          key = rw (get_or-take s.stream.held s.index i 0 n') key;
          same = get_or-take s.stream.held s.index i 0 n' ∙ same ∙ sym (get_or-take s.stream.held s.index m 0 n);
        }))
        t

pub sound_good : (f : ℕ) (s : State) → Room f s → sound f s.stream s.index s.lengths ≡ true → Good f s
sound_good f s r e =
    record {
      room = r;
      once = once_of s (let few = r.few in let long = r.indices in omega arith) (off (twice (take s.stream.held s.index)) (sound_once f s.stream s.index s.lengths e));
    }

pub good_sound : (f : ℕ) (s : State) → Good f s → sound f s.stream s.index s.lengths ≡ true
unfolding sound
good_sound f s g =
    let few = g.room.few in
    let indices = g.room.indices in
    let lengths = g.room.lengths in
    let n : ℕ = s.stream.held in
    let il : length (take n s.index) ≡ n = length-take-le n s.index (omega arith) in
    let ll : length (take n s.lengths) ≡ n = length-take-le n s.lengths (omega arith) in
    let a : all_fit f (take n s.lengths) ≡ true = at_fits f (take n s.lengths) (λ k p. rw (get_or-take n s.lengths k 0 (rw ll at p)) (g.room.short k (rw ll at p))) in
    let b : twice (take n s.index) ≡ false =
    all_apart (take n s.index)
    (λ i j before within key same.
    let jn : j < n = rw il at within in
    let in' : i < n = omega arith in
    let ij : get_or s.index i 0 ≡ get_or s.index j 0 = sym (get_or-take n s.index i 0 in') ∙ same ∙ get_or-take n s.index j 0 jn in
    let z : i ≡ j = g.once i j in' jn (rw (get_or-take n s.index i 0 in') at key) ij in
    omega arith) in
    rw (le-leb n 64 few, a, b)

module _ (z : Sizes) (s : State) (out : List ℕ) where
  pub open_good : gate_of z s out ≡ Ok tt → Good z.fragment_size s
  open_good e = let o = opened z s out e in sound_good z.fragment_size s o.room o.state

  pub good_open : in_range z ≡ true → Good z.fragment_size s → 16 * z.fragment_size + 17 ≤ length out → gate_of z s out ≡ Ok tt
  good_open r g h =
      gate_open z s out r (long_enough z.fragment_size s out g.room.indices g.room.lengths g.room.bytes h) (good_sound z.fragment_size s g)

written_length : (p out : List ℕ) → length p ≤ length out → length (p ++ drop (length p) out) ≡ length out
written_length p out h = length-append p (drop (length p) out) ∙ omega (arith, length-drop (length p) out)

fresh_good : (f : ℕ) (index lengths bytes : List ℕ) → f ≤ 1024 → 64 ≤ length index → 64 ≤ length lengths → 64 * f ≤ length bytes
    → Good f (lending fresh index lengths bytes)
fresh_good f index lengths bytes a b c d =
    record {
      room = record { small = a; few = omega arith; indices = b; lengths = c; bytes = d; short = λ k h. absurd (omega arith) };
      once = λ j k h. absurd (omega arith);
    }

-- what a state is good for depends on its tables and on how many are held
pub recounted : (f : ℕ) (s s' : State) → Good f s → s'.stream.held ≡ s.stream.held → s'.index ≡ s.index → s'.lengths ≡ s.lengths → s'.bytes ≡ s.bytes → Good f s'
recounted f s s' g a b c d =
    record {
      room =
          record {
            small = g.room.small;
            few = rw a g.room.few;
            indices = rw b g.room.indices;
            lengths = rw c g.room.lengths;
            bytes = rw d g.room.bytes;
            short = rw (a, c) g.room.short;
          };
      once = rw (a, b) g.once;
    }

module _ (f : ℕ) (s : State) (g : Good f s) where
  pub arranged_good : (i : ℕ) (p : List ℕ) → length p ≤ f → (a : Result Arranged Refusal) → plan_of s.stream s.index i ≡ a → Good f (arranged a f i p s)
  arranged_good i p fits (Ok Out) q = recounted f s (arranged (Ok Out) f i p s) g refl refl refl refl
  arranged_good i p fits (Ok (Held k)) q =
      let h = held_place s.stream s.index i k g.room.few g.room.indices (sym q) in
      rw h.0 (put_good f s g i p (rw (sym h.0) h.1) fits)
  arranged_good i p fits (Ok Old) q = g
  arranged_good i p fits (Err why) q = g

  pub taken_good : (t : Result (Option ℕ) Refusal) → next_of s ≡ t → Good f (taken t f s)
  taken_good (Ok (Some n)) q = left_good f s g n (found_there s n q).0
  taken_good (Ok None) q = g
  taken_good (Err why) q = g

module _ (z : Sizes) (s : State) (out : List ℕ) (e : gate_of z s out ≡ Ok tt) where
  abbrev F : ℕ
  F = z.fragment_size

  room_out : (a : Result Arranged Refusal) (p : List ℕ) → length p ≤ F → 16 * F + 17 ≤ length (written (handed_out a p) out)
  room_out (Ok Out) p fits = let h = (opened z s out e).output in rw (written_length p out (omega arith)) h
  room_out (Ok (Held k)) p fits = (opened z s out e).output
  room_out (Ok Old) p fits = (opened z s out e).output
  room_out (Err why) p fits = (opened z s out e).output

  pub after_arrange_lem : (i : ℕ) (p : List ℕ)
      → gate_of z (arranged (arrange_of z s i p out) F i p s) (written (handed_out (arrange_of z s i p out) p) out) ≡ Ok tt
  after_arrange_lem i p =
      ⊎_elim (λ h. rw (arrange_long z s out i p e h) e)
      (λ h.
      rw (arrange_open z s out i p e h)
      (good_open z (arranged (plan_of s.stream s.index i) F i p s) (written (handed_out (plan_of s.stream s.index i) p) out) (opened z s out e).sizes
      (arranged_good F s (open_good z s out e) i p h (plan_of s.stream s.index i) refl)
      (room_out (plan_of s.stream s.index i) p h)))
      (lt_or_le F (length p))

  room_taken : (t : Result (Option ℕ) Refusal) → next_of s ≡ t → 16 * F + 17 ≤ length (written (taken_out t F s) out)
  room_taken (Ok (Some n)) q =
      let o = opened z s out e in
      let w = found_there s n q in
      let short : get_or s.lengths (next_place s) 0 ≤ F = o.room.short (next_place s) w.0 in
      let told : get_or s.lengths (next_place s) 0 ≡ n = w.1 in
      let h = o.output in
      let l = length-take n (drop (next_place s * F) s.bytes) in
      rw (written_length (take n (drop (next_place s * F) s.bytes)) out (omega arith)) h
  room_taken (Ok None) q = (opened z s out e).output
  room_taken (Err why) q = (opened z s out e).output

  pub after_take_lem : gate_of z (taken (take_of z s out) F s) (written (taken_out (take_of z s out) F s) out) ≡ Ok tt
  after_take_lem =
      rw (take_open z s out e)
      (good_open z (taken (next_of s) F s) (written (taken_out (next_of s) F s) out) (opened z s out e).sizes (taken_good F s (open_good z s out e) (next_of s) refl) (room_taken (next_of s) refl))

pub stays_sound : StaysSound
stays_sound =
    record {
      from_fresh = λ z index lengths bytes out r a b c d.
          good_open z (lending fresh index lengths bytes) out r (fresh_good z.fragment_size index lengths bytes (size_high z r) a b c) d;
      by_arrange = λ z s i p out e. after_arrange_lem z s out e i p;
      by_take = λ z s out e. after_take_lem z s out e;
      by_send = λ z s out e.
          good_open z (lending (numbered s.stream).stream s.index s.lengths s.bytes) out (opened z s out e).sizes
          (recounted z.fragment_size s (lending (numbered s.stream).stream s.index s.lengths s.bytes) (open_good z s out e) refl refl refl refl)
          (opened z s out e).output;
    }
