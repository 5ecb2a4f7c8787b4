-- 13 for all ordered streams: the loop's steps, and what is known where it passes. Assumes nothing.
use Prim.Native.Nat.{ℕ, zero, suc, ◌+◌, ◌*◌, ◌≤◌, ◌<◌}
use mathlib.Core.Path.{◌≡◌, refl, sym, ◌∙◌}
use mathlib.Core.Bool.{Bool, true, false, ◌&&◌}
use mathlib.Core.List.{List}
use mathlib.Core.Logic.{⊎_elim}
use native.Mathlib.Nat.{not-suc-le-zero}
use native.Mathlib.Numerals.{add-one}
use native.Mathlib.Omega.{arith}
use borrow.Author.Tests.{le-ltb, leb-true}
use lib.Dec.{leb}
use lib.ListN.{length}
use Rattle.laws.proofs.Cases.{lt_or_le}
use Rattle.ordering_plan.specs.State.{fresh}
use Rattle.ordering_plan.specs.Gate.{sound}
use Rattle.ordering_plan.proofs.Gates.{first, second, sound_count, sound_short}
use Rattle.arranging_plan.specs.Ids.{sound_ids}
use Rattle.arranging_plan.specs.Ordered.{part, stream_at, States, RoomForAll, each_sound, sound_all}
use Rattle.arranging_plan.specs.declared.ids.StreamIds.{StreamIds}
use Rattle.arranging_plan.specs.declared.ordered.OrderingStreams.{OrderingStreams}
use Rattle.arranging_plan.proofs.Parts.{block_end, part_length}

module _ (f : ℕ) (s : OrderingStreams) (index lengths : List ℕ) where
  abbrev At : ℕ → Bool
  At j = sound f (stream_at s j) (part index (j * 64) 64) (part lengths (j * 64) 64)

  pub each_zero : each_sound f s index lengths 0 ≡ true
  unfolding each_sound
  each_zero = refl

  each_suc : (j : ℕ) → each_sound f s index lengths (suc j) ≡ (each_sound f s index lengths j && At j)
  unfolding each_sound
  each_suc j = refl

  pub each_more : (j : ℕ) → each_sound f s index lengths j ≡ true → At j ≡ true → each_sound f s index lengths (j + 1) ≡ true
  each_more j e h = rw (add-one, each_suc, e, h)

  -- one that is not sound spoils the rest
  pub each_not : (j n : ℕ) → j < n → each_sound f s index lengths j ≡ true → At j ≡ false → each_sound f s index lengths n ≡ false
  each_not j zero h e q = absurd (not-suc-le-zero h)
  each_not j (suc n) h e q =
      ⊎_elim (λ l. rw (each_suc n, each_not j n l e q)) (λ l. let z : j ≡ n = omega arith in rw (each_suc n, ← z, e, q)) (lt_or_le j n)

  each_at : (n j : ℕ) → each_sound f s index lengths n ≡ true → j < n → At j ≡ true
  each_at zero j e h = absurd (not-suc-le-zero h)
  each_at (suc n) j e h =
      let both : (each_sound f s index lengths n && At n) ≡ true = sym (each_suc n) ∙ e in
      ⊎_elim (λ l. each_at n j (first (each_sound f s index lengths n) (At n) both) l)
      (λ l. let z : j ≡ n = omega arith in rw z (second (each_sound f s index lengths n) (At n) both))
      (lt_or_le j n)

  pub all_at : sound_all f s index lengths ≡ true → (j : ℕ) → j < s.known.made → At j ≡ true
  unfolding sound_all
  all_at e j h = each_at s.known.made j (second (sound_ids s.known) (each_sound f s index lengths s.known.made) e) h

  pub all_ids : sound_all f s index lengths ≡ true → sound_ids s.known ≡ true
  unfolding sound_all
  all_ids e = first (sound_ids s.known) (each_sound f s index lengths s.known.made) e

pub ids_four : (n : StreamIds) → sound_ids n ≡ true → n.made ≤ 4
unfolding sound_ids
ids_four n e = leb-true n.made 4 (first (leb n.made 4) _ e)

pub fresh_at : (s : OrderingStreams) (j : ℕ) → s.known.made ≤ j → stream_at s j ≡ fresh
unfolding stream_at
fresh_at s j h = rw (le-ltb j s.known.made h)

-- past 1, 2 and 13 the streams have what the functions for the crates above require
pub room_for_all : (f : ℕ) (s : States) → f ≤ 1024 → 256 ≤ length s.index → 256 ≤ length s.lengths → 4 * (64 * f) ≤ length s.bytes
    → sound_all f s.counters s.index s.lengths ≡ true → RoomForAll f s
room_for_all f s small il ll bl e =
    record {
      four = ids_four s.counters.known (all_ids f s.counters s.index s.lengths e);
      small = small;
      indices = il;
      lengths = ll;
      bytes = bl;
      each = λ j h.
          let i64 : length (part s.index (j * 64) 64) ≡ 64 = part_length s.index (j * 64) 64 (omega arith) in
          let l64 : length (part s.lengths (j * 64) 64) ≡ 64 = part_length s.lengths (j * 64) 64 (omega arith) in
          let b64 : length (part s.bytes (j * (64 * f)) (64 * f)) ≡ 64 * f = part_length s.bytes (j * (64 * f)) (64 * f) (omega (arith, block_end j (64 * f) h)) in
          ⊎_elim
          (λ m.
          let ok = all_at f s.counters s.index s.lengths e j m in
          record {
            small = small;
            few = sound_count f (stream_at s.counters j) (part s.index (j * 64) 64) (part s.lengths (j * 64) 64) ok;
            indices = omega arith;
            lengths = omega arith;
            bytes = omega arith;
            short = sound_short f (stream_at s.counters j) (part s.index (j * 64) 64) (part s.lengths (j * 64) 64) ok (omega arith);
          })
          (λ m.
          let new = fresh_at s.counters j m in
          record {
            small = small;
            few = rw new (omega arith);
            indices = omega arith;
            lengths = omega arith;
            bytes = omega arith;
            short = λ k q. absurd (not-suc-le-zero (rw new at q));
          })
          (lt_or_le j s.counters.known.made);
    }
