-- One stream is stored: it is there, every other is as it was, and all are sound. Assumes nothing.
use Prim.Native.Nat.{ℕ, zero, suc, ◌+◌, ◌*◌, ◌≤◌, ◌<◌}
use mathlib.Core.Path.{◌≡◌, sym, ap, ◌∙◌}
use mathlib.Core.Bool.{true}
use mathlib.Core.List.{List}
use mathlib.Core.Logic.{⊎_elim}
use native.Mathlib.Nat.{le_refl, eq-or-lt_of_le, not-suc-le-zero}
use native.Mathlib.Numerals.{add-one}
use native.Mathlib.Omega.{arith}
use borrow.Author.Tests.{lt-ltb, le-ltb, ltb-true, eq-eqb, ne_eqb}
use lib.Dec.{ltb}
use lib.ListN.{length, length-set}
use lib.Seq.{get_or-set_same, get_or-set_other}
use Rattle.laws.proofs.Cases.{lt_or_le}
use Rattle.laws.proofs.Paste.{places_apart}
use Rattle.ordering_plan.specs.State.{State, fresh}
use Rattle.ordering_plan.specs.Gate.{sound}
use Rattle.ordering_plan.specs.declared.OrderingStream.{OrderingStream}
use Rattle.ordering_laws.specs.Held.{Good}
use Rattle.ordering_laws.proofs.Stays.{good_sound, sound_good}
use Rattle.ordering_laws.proofs.Found.{same?}
use Rattle.arranging_plan.specs.Ids.{place_of, made_at, sound_ids}
use Rattle.arranging_plan.specs.Ordered.{part, States, stream_at, state_at, stored_at, each_sound, sound_all}
use Rattle.arranging_plan.specs.declared.ids.StreamIds.{StreamIds}
use Rattle.arranging_plan.specs.declared.ordered.OrderingStreams.{OrderingStreams}
use Rattle.arranging_plan.proofs.Parts.{block_end}
use Rattle.arranging_plan.proofs.Sound.{each_zero, each_more, all_at, all_ids, fresh_at, room_for_all}
use Rattle.arranging_laws.specs.Sound.{Whole, WholeIds}
use Rattle.arranging_laws.proofs.Apart.{put_length, put_here, put_there}
use Rattle.arranging_laws.proofs.Ids.{place_le, made_whole}

-- how many are made then: place j is one of them, and of the other places those that were
pub made_own : (n : StreamIds) (j id : ℕ) → j ≤ n.made → j < (made_at n j id).made
made_own n j id h =
    ⊎_elim (λ (e : j ≡ n.made). rw (eq-eqb j n.made e) (omega arith)) (λ (l : j < n.made). rw (ne_eqb j n.made (λ e. omega arith)) l)
    (eq-or-lt_of_le h)

pub made_other : (n : StreamIds) (j id k : ℕ) → (k ≡ j → ⊥) → ltb k (made_at n j id).made ≡ ltb k n.made
made_other n j id k ne =
    ⊎_elim
    (λ (e : j ≡ n.made).
    rw (eq-eqb j n.made e)
    (⊎_elim (λ (h : k < n.made). rw (lt-ltb k n.made h, lt-ltb k (n.made + 1) (omega arith)))
    (λ (h : n.made ≤ k).
    rw (le-ltb k n.made h)
    (⊎_elim (λ (q : n.made ≡ k). absurd (ne (sym q ∙ sym e))) (λ (q : n.made < k). le-ltb k (n.made + 1) (omega arith)) (eq-or-lt_of_le h)))
    (lt_or_le k n.made)))
    (λ (ne' : j ≡ n.made → ⊥). rw (ne_eqb j n.made ne'))
    (same? j n.made)

-- a state that may be a stream's: good, in parts of the length that each has
pub record Fitting (f : ℕ) (t : State) : Type 0 where
  pub good : Good f t
  pub indices : length t.index ≡ 64
  pub lengths : length t.lengths ≡ 64
  pub bytes : length t.bytes ≡ 64 * f

module _ (f : ℕ) (s : OrderingStreams) (index lengths : List ℕ) where
  each_all : (n : ℕ) → ((j : ℕ) → j < n → sound f (stream_at s j) (part index (j * 64) 64) (part lengths (j * 64) 64) ≡ true) → each_sound f s index lengths n ≡ true
  each_all zero h = each_zero f s index lengths
  each_all (suc n) h =
      rw add-one at (each_more f s index lengths n (each_all n (λ j l. h j (omega arith))) (h n (omega arith)))

  pub all_of : sound_ids s.known ≡ true
      → ((j : ℕ) → j < s.known.made → sound f (stream_at s j) (part index (j * 64) 64) (part lengths (j * 64) 64) ≡ true)
      → sound_all f s index lengths ≡ true
  unfolding sound_all
  all_of e h = rw (e, each_all s.known.made h)

module _ (f : ℕ) (s : States) (w : Whole f s) (id : ℕ) (free : place_of s.counters.known id < 4) (t : State) (ok : Fitting f t) where
  abbrev J : ℕ
  J = place_of s.counters.known id

  abbrev Next : States
  Next = stored_at f s J id t

  ids : WholeIds s.counters.known
  ids = record { four_ids = w.four_ids; state = all_ids f s.counters s.index s.lengths w.state }

  index_room : J * 64 + 64 ≤ length s.index
  index_room = let q = w.indices in omega arith

  lengths_room : J * 64 + 64 ≤ length s.lengths
  lengths_room = let q = w.lengths in omega arith

  bytes_room : J * (64 * f) + 64 * f ≤ length s.bytes
  bytes_room = let q = w.bytes in omega (arith, block_end J (64 * f) free)

  stream_own : stream_at Next.counters J ≡ t.stream
  unfolding stream_at
  stream_own =
      rw (lt-ltb J (made_at s.counters.known J id).made (made_own s.counters.known J id (place_le s.counters.known ids id)))
      (get_or-set_same s.counters.streams J t.stream fresh (let q = w.four_streams in omega arith))

  stream_other : (k : ℕ) → (k ≡ J → ⊥) → stream_at Next.counters k ≡ stream_at s.counters k
  unfolding stream_at
  stream_other k ne = rw (made_other s.counters.known J id k ne, get_or-set_other s.counters.streams J k t.stream fresh ne)

  pub stored_other : (k : ℕ) → (k ≡ J → ⊥) → state_at f Next k ≡ state_at f s k
  stored_other k ne =
      rw
      (stream_other k ne, put_there s.index t.index (J * 64) 64 ok.indices index_room (k * 64) 64 (places_apart k J 64 64 64 ne (le_refl 64) (le_refl 64)), put_there s.lengths t.lengths (J * 64) 64 ok.lengths lengths_room (k * 64) 64 (places_apart k J 64 64 64 ne (le_refl 64) (le_refl 64)), put_there s.bytes t.bytes (J * (64 * f)) (64 * f) ok.bytes bytes_room (k * (64 * f)) (64 * f) (places_apart k J (64 * f) (64 * f) (64 * f) ne (le_refl (64 * f)) (le_refl (64 * f))))

  sound_at_lem : (k : ℕ) → k < Next.counters.known.made → sound f (stream_at Next.counters k) (part Next.index (k * 64) 64) (part Next.lengths (k * 64) 64) ≡ true
  sound_at_lem k h =
      ⊎_elim
      (λ (e : k ≡ J).
      rw (e, stream_own, put_here s.index t.index (J * 64) 64 ok.indices index_room, put_here s.lengths t.lengths (J * 64) 64 ok.lengths lengths_room)
      (good_sound f t ok.good))
      (λ (ne : k ≡ J → ⊥).
      let m : k < s.counters.known.made = made-old k h ne in
      let same = stored_other k ne in
      ap (λ (x : State). sound f x.stream x.index x.lengths) same ∙ all_at f s.counters s.index s.lengths w.state k m)
      (same? k J)
    where
      made-old : (k : ℕ) → k < Next.counters.known.made → (k ≡ J → ⊥) → k < s.counters.known.made
      made-old k h ne = ltb-true k s.counters.known.made (sym (made_other s.counters.known J id k ne) ∙ lt-ltb k Next.counters.known.made h)

  pub stored_whole : Whole f Next
  stored_whole =
      let new = made_whole s.counters.known ids id free in
      record {
        small = w.small;
        four_ids = new.four_ids;
        four_streams = length-set s.counters.streams J t.stream ∙ w.four_streams;
        indices = rw (put_length s.index t.index (J * 64) 64 ok.indices index_room) w.indices;
        lengths = rw (put_length s.lengths t.lengths (J * 64) 64 ok.lengths lengths_room) w.lengths;
        bytes = rw (put_length s.bytes t.bytes (J * (64 * f)) (64 * f) ok.bytes bytes_room) w.bytes;
        state = all_of f Next.counters Next.index Next.lengths new.state sound_at_lem;
      }

-- each place of the four has a good state, made or not
pub state_good : (f : ℕ) (s : States) → Whole f s → (j : ℕ) → j < 4 → Good f (state_at f s j)
state_good f s w j h =
    let room = (room_for_all f s w.small w.indices w.lengths w.bytes w.state).each j h in
    ⊎_elim
    (λ (m : j < s.counters.known.made). sound_good f (state_at f s j) room (all_at f s.counters s.index s.lengths w.state j m))
    (λ (m : s.counters.known.made ≤ j).
    let none : (stream_at s.counters j).held ≡ 0 = ap (λ (x : OrderingStream). x.held) (fresh_at s.counters j m) in
    record { room = room; once = λ a b q. absurd (not-suc-le-zero (rw none at q)) })
    (lt_or_le j s.counters.known.made)
