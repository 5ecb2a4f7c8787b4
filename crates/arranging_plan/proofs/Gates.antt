-- The gate of the ordered streams rung by rung, what is known past it, and of an item that is accepted. Assumes nothing.
use Prim.Native.Nat.{ℕ, ◌+◌, ◌*◌, ◌≤◌, ◌<◌}
use mathlib.Core.Path.{◌≡◌, refl, sym, ap, ◌∙◌}
use mathlib.Core.List.{List}
use mathlib.Core.Bool.{true, false, or-true}
use native.Mathlib.Omega.{arith}
use lib.Dec.{ltb, eqb}
use lib.ListN.{length}
use borrow.Author.Tests.{lt-ltb, le-ltb, ltb-false, eqb-true, eqb-false}
use Rattle.std.specs.Prelude.{Result, Ok, Err, None}
use Rattle.laws.proofs.Cases.{case, both, neither, no_answer}
use Rattle.terms.specs.Sizes.{in_range}
use Rattle.terms.specs.declared.Sizes.{Sizes}
use Rattle.terms.specs.declared.Refusal.{Refusal}
use Rattle.terms.specs.declared.Refusal.TheVariants.{BadSizes, BadStorage, BadState}
use Rattle.ordering_plan.specs.Arrange.{plan_of, handed_out}
use Rattle.ordering_plan.specs.declared.Arranged.{Arranged}
use Rattle.ordering_plan.proofs.Gates.{size_high}
use Rattle.arranging_plan.specs.Ids.{place_of}
use Rattle.arranging_plan.specs.Ordered.{part, States, RoomForAll, stream_at, plan_on, sound_all}
use Rattle.arranging_plan.specs.Gate.{too_short, gate_of, is_refused}
use Rattle.arranging_plan.specs.declared.ordered.Planned.{Planned}
use Rattle.arranging_plan.proofs.Parts.{plan_none, plan_on_lem}
use Rattle.arranging_plan.proofs.Sound.{room_for_all}

pub record Long (f : ℕ) (index lengths bytes o : List ℕ) : Type 0 where
  pub index_room : 256 ≤ length index
  pub lengths_room : 256 ≤ length lengths
  pub bytes_room : 256 * f ≤ length bytes
  pub output_room : 16 * f + 17 ≤ length o

module _ (f : ℕ) (index lengths bytes o : List ℕ) where
  pub short_index : length index < 256 → too_short f index lengths bytes o ≡ true
  unfolding too_short
  short_index h = rw (lt-ltb (length index) 256 h)

  pub short_lengths : length lengths < 256 → too_short f index lengths bytes o ≡ true
  unfolding too_short
  short_lengths h = rw (lt-ltb (length lengths) 256 h, or-true)

  pub short_bytes : length bytes < 256 * f → too_short f index lengths bytes o ≡ true
  unfolding too_short
  short_bytes h = rw (lt-ltb (length bytes) (256 * f) h, or-true, or-true)

  -- the output is the last that is tried
  pub short_output : 256 ≤ length index → 256 ≤ length lengths → 256 * f ≤ length bytes → too_short f index lengths bytes o ≡ ltb (length o) (16 * f + 17)
  unfolding too_short
  short_output a b g = rw (le-ltb (length index) 256 a, le-ltb (length lengths) 256 b, le-ltb (length bytes) (256 * f) g)

  pub long_enough : 256 ≤ length index → 256 ≤ length lengths → 256 * f ≤ length bytes → 16 * f + 17 ≤ length o → too_short f index lengths bytes o ≡ false
  long_enough a b g h = short_output a b g ∙ le-ltb (length o) (16 * f + 17) h

  pub long_means : too_short f index lengths bytes o ≡ false → Long f index lengths bytes o
  unfolding too_short
  long_means e =
      let i = neither (ltb (length index) 256) _ e in
      let l = neither (ltb (length lengths) 256) _ i.1 in
      let q = neither (ltb (length bytes) (256 * f)) _ l.1 in
      record {
        index_room = ltb-false (length index) 256 i.0;
        lengths_room = ltb-false (length lengths) 256 l.0;
        bytes_room = ltb-false (length bytes) (256 * f) q.0;
        output_room = ltb-false (length o) (16 * f + 17) q.1;
      }

module _ (z : Sizes) (s : States) (o : List ℕ) where
  abbrev F : ℕ
  F = z.fragment_size

  pub gate_sizes : in_range z ≡ false → gate_of z s o ≡ Err BadSizes
  unfolding gate_of
  gate_sizes e = rw e

  pub gate_storage : in_range z ≡ true → too_short F s.index s.lengths s.bytes o ≡ true → gate_of z s o ≡ Err BadStorage
  unfolding gate_of
  gate_storage e g = rw (e, g)

  pub gate_state : in_range z ≡ true → too_short F s.index s.lengths s.bytes o ≡ false → sound_all F s.counters s.index s.lengths ≡ false → gate_of z s o ≡ Err BadState
  unfolding gate_of
  gate_state e g h = rw (e, g, h)

  pub gate_open : in_range z ≡ true → too_short F s.index s.lengths s.bytes o ≡ false → sound_all F s.counters s.index s.lengths ≡ true → gate_of z s o ≡ Ok tt
  unfolding gate_of
  gate_open e g h = rw (e, g, h)

pub record Opened (z : Sizes) (s : States) (o : List ℕ) : Type 0 where
  pub room : RoomForAll z.fragment_size s
  pub output : 16 * z.fragment_size + 17 ≤ length o

-- storage that is long enough, with sound streams in it
pub long_room : (f : ℕ) (s : States) (o : List ℕ) → f ≤ 1024 → Long f s.index s.lengths s.bytes o
    → sound_all f s.counters s.index s.lengths ≡ true → RoomForAll f s
long_room f s o small l e = let enough = l.bytes_room in room_for_all f s small l.index_room l.lengths_room (omega arith) e

pub opened : (z : Sizes) (s : States) (o : List ℕ) → gate_of z s o ≡ Ok tt → Opened z s o
opened z s o e =
    case (in_range z)
    (λ a.
    case (too_short z.fragment_size s.index s.lengths s.bytes o)
    (λ b. no_answer (sym (gate_storage z s o a b) ∙ e))
    (λ b.
    case (sound_all z.fragment_size s.counters s.index s.lengths)
    (λ g.
    let l = long_means z.fragment_size s.index s.lengths s.bytes o b in
    record { room = long_room z.fragment_size s o (size_high z a) l g; output = l.output_room })
    (λ g. no_answer (sym (gate_state z s o a b g) ∙ e))))
    (λ a. no_answer (sym (gate_sizes z s o a) ∙ e))

-- what is accepted is planned at its own place, one of the four
pub record Accepted (s : States) (id i : ℕ) : Type 0 where
  pub other : place_of s.counters.known id ≡ 4 → ⊥
  pub place_is : (plan_on s.counters s.index id i).at ≡ place_of s.counters.known id
  pub plan_is : (plan_on s.counters s.index id i).plan
      ≡ plan_of (stream_at s.counters (place_of s.counters.known id)) (part s.index (place_of s.counters.known id * 64) 64) i

pub accepted : (s : States) (id i : ℕ) → is_refused (plan_on s.counters s.index id i).plan ≡ false → Accepted s id i
accepted s id i e =
    case (eqb (place_of s.counters.known id) 4)
    (λ q. both (ap (λ (x : Planned). is_refused x.plan) (plan_none s.counters s.index id i (place_of s.counters.known id) refl (eqb-true _ _ q))) e)
    (λ q.
    let ne = eqb-false (place_of s.counters.known id) 4 q in
    let w = plan_on_lem s.counters s.index id i (place_of s.counters.known id) refl ne in
    record { other = ne; place_is = ap (λ (x : Planned). x.at) w; plan_is = ap (λ (x : Planned). x.plan) w })

pub refused_nothing : (a : Result Arranged Refusal) (p : List ℕ) → is_refused a ≡ true → handed_out a p ≡ None
refused_nothing (Ok plan) p e = both e refl
refused_nothing (Err why) p e = refl
