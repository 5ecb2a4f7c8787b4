-- The gate, rung by rung, and what is known past it. Assumes nothing.
--     gate-..     what the gate answers where a test stops a call, or none does
--     opened      past the gate a stream is sound and has its storage
use Prim.Native.Nat.{ℕ, ◌+◌, ◌*◌, ◌≤◌, ◌<◌}
use mathlib.Core.Path.{◌≡◌, refl, sym, ◌∙◌}
use mathlib.Core.List.{List}
use mathlib.Core.Bool.{Bool, true, false, not, ◌&&◌, ◌||◌, or-true}
use native.Mathlib.Omega.{arith}
use lib.Dec.{leb, ltb}
use lib.ListN.{length, get_or, take}
use lib.Seq.{length-take-le, get_or-take}
use borrow.Author.Tests.{lt-ltb, le-ltb, leb-true, ltb-false}
use Rattle.std.specs.Prelude.{Ok, Err}
use Rattle.laws.proofs.Cases.{case, both, no_answer}
use Rattle.terms.specs.Sizes.{in_range, between}
use Rattle.terms.specs.declared.Sizes.{Sizes}
use Rattle.terms.specs.declared.Refusal.TheVariants.{BadSizes, BadStorage, BadState}
use Rattle.keys.specs.Keys.{twice}
use Rattle.ordering_plan.specs.State.{State}
use Rattle.ordering_plan.specs.Gate.{too_short, all_fit, sound, gate_of}
use Rattle.ordering_plan.specs.Room.{Room}
use Rattle.ordering_plan.specs.declared.OrderingStream.{OrderingStream}
use Rattle.ordering_plan.proofs.Fits.{fits_at}

-- a test of two parts that passes passes both
pub first : (a b : Bool) → (a && b) ≡ true → a ≡ true
first true b e = refl
first false b e = e

pub second : (a b : Bool) → (a && b) ≡ true → b ≡ true
second true b e = e
second false b e = absurd (both e refl)

left_off : (a b : Bool) → (a || b) ≡ false → a ≡ false
left_off true b e = e
left_off false b e = refl

right_off : (a b : Bool) → (a || b) ≡ false → b ≡ false
right_off true b e = absurd (both refl e)
right_off false b e = e

-- F is 1 to 1,024
module _ (z : Sizes) (e : in_range z ≡ true) where
  pub size_low : 1 ≤ z.fragment_size
  unfolding in_range between
  size_low = leb-true 1 z.fragment_size (first (leb 1 z.fragment_size) (leb z.fragment_size 1024) (first (leb 1 z.fragment_size && leb z.fragment_size 1024) _ e))

  pub size_high : z.fragment_size ≤ 1024
  unfolding in_range between
  size_high = leb-true z.fragment_size 1024 (second (leb 1 z.fragment_size) (leb z.fragment_size 1024) (first (leb 1 z.fragment_size && leb z.fragment_size 1024) _ e))

module _ (f : ℕ) (s : State) (o : List ℕ) where
  pub short_index : length s.index < 64 → too_short f s o ≡ true
  unfolding too_short
  short_index h = rw (lt-ltb (length s.index) 64 h)

  pub short_lengths : length s.lengths < 64 → too_short f s o ≡ true
  unfolding too_short
  short_lengths h = rw (lt-ltb (length s.lengths) 64 h, or-true)

  pub short_bytes : length s.bytes < 64 * f → too_short f s o ≡ true
  unfolding too_short
  short_bytes h = rw (lt-ltb (length s.bytes) (64 * f) h, or-true, or-true)

  pub short_output : length o < 16 * f + 17 → too_short f s o ≡ true
  unfolding too_short
  short_output h = rw (lt-ltb (length o) (16 * f + 17) h, or-true, or-true, or-true)

  pub long_enough : 64 ≤ length s.index → 64 ≤ length s.lengths → 64 * f ≤ length s.bytes → 16 * f + 17 ≤ length o → too_short f s o ≡ false
  unfolding too_short
  long_enough a b g h = rw (le-ltb (length s.index) 64 a, le-ltb (length s.lengths) 64 b, le-ltb (length s.bytes) (64 * f) g, le-ltb (length o) (16 * f + 17) h)

module _ (z : Sizes) (s : State) (o : List ℕ) where
  pub gate_sizes : in_range z ≡ false → gate_of z s o ≡ Err BadSizes
  unfolding gate_of
  gate_sizes e = rw e

  pub gate_storage : in_range z ≡ true → too_short z.fragment_size s o ≡ true → gate_of z s o ≡ Err BadStorage
  unfolding gate_of
  gate_storage e g = rw (e, g)

  pub gate_state : in_range z ≡ true → too_short z.fragment_size s o ≡ false → sound z.fragment_size s.stream s.index s.lengths ≡ false
      → gate_of z s o ≡ Err BadState
  unfolding gate_of
  gate_state e g h = rw (e, g, h)

  pub gate_open : in_range z ≡ true → too_short z.fragment_size s o ≡ false → sound z.fragment_size s.stream s.index s.lengths ≡ true
      → gate_of z s o ≡ Ok tt
  unfolding gate_of
  gate_open e g h = rw (e, g, h)

-- what each test of a sound state says
module _ (f : ℕ) (s : OrderingStream) (index lengths : List ℕ) (e : sound f s index lengths ≡ true) where
  pub sound_count : s.held ≤ 64
  unfolding sound
  sound_count = leb-true s.held 64 (first (leb s.held 64) _ e)

  pub sound_fits : all_fit f (take s.held lengths) ≡ true
  unfolding sound
  sound_fits = first (all_fit f (take s.held lengths)) _ (second (leb s.held 64) _ e)

  pub sound_once : not (twice (take s.held index)) ≡ true
  unfolding sound
  sound_once = second (all_fit f (take s.held lengths)) _ (second (leb s.held 64) _ e)

  pub sound_short : 64 ≤ length lengths → (k : ℕ) → k < s.held → get_or lengths k 0 ≤ f
  sound_short long k h =
      let few = sound_count in
      rw (get_or-take s.held lengths k 0 h)
      at (fits_at f (take s.held lengths) sound_fits k (rw (length-take-le s.held lengths (omega arith)) h))

pub record Opened (z : Sizes) (s : State) (o : List ℕ) : Type 0 where
  pub sizes : in_range z ≡ true
  pub state : sound z.fragment_size s.stream s.index s.lengths ≡ true
  pub room : Room z.fragment_size s
  pub output : 16 * z.fragment_size + 17 ≤ length o

long : (z : Sizes) (s : State) (o : List ℕ) → in_range z ≡ true → too_short z.fragment_size s o ≡ false
    → sound z.fragment_size s.stream s.index s.lengths ≡ true → Opened z s o
unfolding too_short
long z s o a b g =
    let f = z.fragment_size in
    let i = left_off (ltb (length s.index) 64) _ b in
    let r = right_off (ltb (length s.index) 64) _ b in
    let l = left_off (ltb (length s.lengths) 64) _ r in
    let q = right_off (ltb (length s.lengths) 64) _ r in
    record {
      sizes = a;
      state = g;
      room =
          record {
            small = size_high z a;
            few = sound_count f s.stream s.index s.lengths g;
            indices = ltb-false (length s.index) 64 i;
            lengths = ltb-false (length s.lengths) 64 l;
            bytes = ltb-false (length s.bytes) (64 * f) (left_off (ltb (length s.bytes) (64 * f)) _ q);
            short = sound_short f s.stream s.index s.lengths g (ltb-false (length s.lengths) 64 l);
          };
      output = ltb-false (length o) (16 * f + 17) (right_off (ltb (length s.bytes) (64 * f)) _ q);
    }

pub opened : (z : Sizes) (s : State) (o : List ℕ) → gate_of z s o ≡ Ok tt → Opened z s o
opened z s o e =
    case (in_range z)
    (λ a.
    case (too_short z.fragment_size s o)
    (λ b. no_answer (sym (gate_storage z s o a b) ∙ e))
    (λ b.
    case (sound z.fragment_size s.stream s.index s.lengths)
    (λ g. long z s o a b g)
    (λ g. no_answer (sym (gate_state z s o a b g) ∙ e))))
    (λ a. no_answer (sym (gate_sizes z s o a) ∙ e))
