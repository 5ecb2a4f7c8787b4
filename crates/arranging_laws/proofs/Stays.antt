-- What each call leaves of streams that 13 does not refuse. Assumes nothing.
use Prim.Native.Nat.{ℕ, ◌*◌, ◌≤◌, ◌<◌}
use mathlib.Core.Path.{◌≡◌, refl, sym, ◌∙◌, subst}
use mathlib.Core.List.{List}
use mathlib.Core.Logic.{⊎_elim}
use native.Mathlib.Omega.{arith}
use lib.ListN.{length, length-set}
use Rattle.std.specs.Prelude.{Result, Ok, Err, Option, Some, None}
use Rattle.laws.proofs.Cases.{lt_or_le}
use Rattle.ordering_plan.specs.State.{State, lending, numbered}
use Rattle.ordering_plan.specs.Arrange.{plan_of, arranged}
use Rattle.ordering.specs.Take.{next_place, next_of, taken}
use Rattle.ordering_plan.specs.declared.Arranged.{Arranged}
use Rattle.ordering_plan.specs.declared.Arranged.TheVariants.{Out, Held, Old}
use Rattle.ordering_plan.proofs.Planned.{held_place}
use Rattle.ordering_laws.proofs.Put.{put_bytes}
use Rattle.ordering_laws.proofs.Removed.{left_bytes}
use Rattle.ordering_laws.proofs.Map.{found_there}
use Rattle.ordering_laws.proofs.Stays.{arranged_good, taken_good, recounted}
use Rattle.arranging_plan.specs.Ids.{place_of}
use Rattle.arranging_plan.specs.Ordered.{States, state_at, stored_at, next_on, taken_on}
use Rattle.arranging.proofs.Kept.{put_same, next_here, next_away, taken_back}
use Rattle.arranging_plan.proofs.Parts.{block_end, part_length}
use Rattle.arranging_plan.proofs.Sound.{all_ids, ids_four}
use Rattle.arranging_laws.specs.Sound.{Whole, after_arrange, after_send}
use Rattle.arranging_laws.proofs.Stored.{Fitting, stored_other, stored_whole, state_good}
use Rattle.terms.specs.declared.Refusal.{Refusal}

-- each stream of the four, made or not, is one of its own
module _ (f : ℕ) (s : States) (w : Whole f s) (j : ℕ) (h : j < 4) where
  abbrev pub S : State
  S = state_at f s j

  pub fitting : Fitting f S
  fitting =
      record {
        good = state_good f s w j h;
        indices = part_length s.index (j * 64) 64 (let q = w.indices in omega arith);
        lengths = part_length s.lengths (j * 64) 64 (let q = w.lengths in omega arith);
        bytes = part_length s.bytes (j * (64 * f)) (64 * f) (let q = w.bytes in omega (arith, block_end j (64 * f) h));
      }

  pub arranged_fits : (i : ℕ) (p : List ℕ) → length p ≤ f → (a : Result Arranged Refusal) → plan_of S.stream S.index i ≡ a → Fitting f (arranged a f i p S)
  arranged_fits i p fits (Ok Out) q =
      record { good = arranged_good f S fitting.good i p fits (Ok Out) q; indices = fitting.indices; lengths = fitting.lengths; bytes = fitting.bytes }
  arranged_fits i p fits (Ok (Held k)) q =
      let g = fitting.good in
      let r = held_place S.stream S.index i k g.room.few g.room.indices (sym q) in
      record {
        good = arranged_good f S g i p fits (Ok (Held k)) q;
        indices = length-set S.index k i ∙ fitting.indices;
        lengths = length-set S.lengths k (length p) ∙ fitting.lengths;
        bytes = rw r.0 (put_bytes f S g i p (rw (sym r.0) r.1) fits ∙ fitting.bytes);
      }
  arranged_fits i p fits (Ok Old) q = fitting
  arranged_fits i p fits (Err why) q = fitting

  pub taken_fits : (t : Result (Option ℕ) Refusal) → next_of S ≡ t → Fitting f (taken t f S)
  taken_fits (Ok (Some n)) q =
      let g = fitting.good in
      record {
        good = taken_good f S g (Ok (Some n)) q;
        indices = length-set S.index (next_place S) _ ∙ fitting.indices;
        lengths = length-set S.lengths (next_place S) _ ∙ fitting.lengths;
        bytes = left_bytes f S g n (found_there S n q).0 ∙ fitting.bytes;
      }
  taken_fits (Ok None) q = fitting
  taken_fits (Err why) q = fitting

  abbrev pub Sent : State
  Sent = lending (numbered S.stream).stream S.index S.lengths S.bytes

  pub sent_fits : Fitting f Sent
  sent_fits =
      record {
        good = recounted f S Sent fitting.good refl refl refl refl;
        indices = fitting.indices;
        lengths = fitting.lengths;
        bytes = fitting.bytes;
      }

module _ (f : ℕ) (s : States) (id : ℕ) (w : Whole f s) where
  abbrev J : ℕ
  J = place_of s.counters.known id

  few : s.counters.known.made ≤ 4
  few = ids_four s.counters.known (all_ids f s.counters s.index s.lengths w.state)

  pub after_arrange_lem : (i : ℕ) (p : List ℕ) → J < 4 → length p ≤ f → Whole f (after_arrange f s id i p)
  after_arrange_lem i p h fits = stored_whole f s w id h _ (arranged_fits f s w J h i p fits _ refl)

  pub arrange_others : (i : ℕ) (p : List ℕ) (k : ℕ) → J < 4 → length p ≤ f → (k ≡ J → ⊥) → state_at f (after_arrange f s id i p) k ≡ state_at f s k
  arrange_others i p k h fits ne = stored_other f s w id h _ (arranged_fits f s w J h i p fits _ refl) k ne

  -- a take that finds an item stores what is left of its stream
  module _ (here : J < s.counters.known.made) where
    pub taken_is : taken_on (next_on f s id) f id s ≡ stored_at f s J id (taken (next_of (state_at f s J)) f (state_at f s J))
    taken_is =
        let long : s.counters.known.made ≤ length s.counters.known.ids = let q = few in let l = w.four_ids in omega arith in
        rw (next_here f s id long here) (taken_back f s id long here (next_of (state_at f s J)))

    free : J < 4
    free = let q = few in omega arith

  taken_away : s.counters.known.made ≤ J → taken_on (next_on f s id) f id s ≡ s
  taken_away h = rw (next_away f s id h)

  pub after_take_lem : Whole f (taken_on (next_on f s id) f id s)
  after_take_lem =
      ⊎_elim (λ (h : J < s.counters.known.made). rw (taken_is h) (stored_whole f s w id (free h) _ (taken_fits f s w J (free h) _ refl)))
      (λ (h : s.counters.known.made ≤ J). rw (taken_away h) w)
      (lt_or_le J s.counters.known.made)

  pub take_others : (k : ℕ) → (k ≡ J → ⊥) → state_at f (taken_on (next_on f s id) f id s) k ≡ state_at f s k
  take_others k ne =
      ⊎_elim (λ (h : J < s.counters.known.made). rw (taken_is h) (stored_other f s w id (free h) _ (taken_fits f s w J (free h) _ refl) k ne))
      (λ (h : s.counters.known.made ≤ J). rw (taken_away h))
      (lt_or_le J s.counters.known.made)

  pub sent_is : (h : J < 4) → stored_at f s J id (Sent f s w J h) ≡ after_send s id
  sent_is h = rw (put_same s.index (J * 64) 64, put_same s.lengths (J * 64) 64, put_same s.bytes (J * (64 * f)) (64 * f))

  pub after_send_lem : J < 4 → Whole f (after_send s id)
  after_send_lem h = rw (sym (sent_is h)) (stored_whole f s w id h (Sent f s w J h) (sent_fits f s w J h))

  pub send_others : (k : ℕ) → J < 4 → (k ≡ J → ⊥) → state_at f (after_send s id) k ≡ state_at f s k
  send_others k h ne =
      subst (λ (x : States). state_at f x k ≡ state_at f s k) (sent_is h) (stored_other f s w id h (Sent f s w J h) (sent_fits f s w J h) k ne)
