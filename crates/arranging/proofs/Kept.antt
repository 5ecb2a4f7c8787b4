-- Putting back what was there changes nothing. Assumes nothing.
use Prim.Native.Nat.{ℕ, ◌+◌, ◌*◌, ◌-◌, ◌≤◌, ◌<◌}
use mathlib.Core.Path.{◌≡◌, refl, sym, ap, subst, ◌∙◌}
use mathlib.Core.List.{List, ◌++◌}
use native.Mathlib.Omega.{arith}
use native.Mathlib.Nat.{add-sub_cancel_left}
use borrow.Author.Tests.{lt-ltb, le-ltb, ne_eqb}
use lib.ListN.{length, get_or, take, drop, set, take-append-drop}
use lib.Seq.{set-get_or, get_or-take, length-take-le}
use Rattle.std.specs.Prelude.{Result, Ok, Err, Option, Some, None}
use Rattle.keys.proofs.First.{first_at}
use Rattle.ordering_plan.specs.State.{State, Leaves, lending, fresh}
use Rattle.ordering_plan.specs.declared.OrderingStream.{OrderingStream}
use Rattle.ordering.specs.Take.{next_of, taken, TakesNext}
use Rattle.ordering.specs.declared.AfterTake.{AfterTake}
use Rattle.arranging_plan.specs.Ids.{place_of, made_at}
use Rattle.arranging_plan.specs.Ordered.{part, put, stream_at, States, state_at, stored_at, LeavesAll, next_on, taken_on}
use Rattle.arranging_plan.specs.declared.ids.StreamIds.{StreamIds}
use Rattle.arranging_plan.specs.declared.ordered.OrderingStreams.{OrderingStreams}
use Rattle.arranging.specs.Steps.{TakesOn}
use Rattle.terms.specs.declared.Refusal.{Refusal}

pub put_same : (d : List ℕ) (a n : ℕ) → put d a n (part d a n) ≡ d
put_same d a n = ap (λ (r : List ℕ). take a d ++ r) (take-append-drop n (drop a d)) ∙ take-append-drop a d

-- Stream j, as a call on its parts is lent it: the length of a part `a..a + n` is written `a + n - a`.
abbrev pub lent_at : ℕ → States → ℕ → OrderingStream → State
lent_at f s j stream =
    lending stream (part s.index (j * 64) (j * 64 + 64 - j * 64)) (part s.lengths (j * 64) (j * 64 + 64 - j * 64)) (part s.bytes (j * (64 * f)) (j * (64 * f) + 64 * f - j * (64 * f)))

pub lent_is : (f : ℕ) (s : States) (j : ℕ) {stream : OrderingStream} → stream ≡ stream_at s.counters j → lent_at f s j stream ≡ state_at f s j
lent_is f s j e = rw (e, add-sub_cancel_left (j * 64) 64, add-sub_cancel_left (j * (64 * f)) (64 * f))

-- what holds of the stream holds of what it is lent
pub lent_has : (f : ℕ) (s : States) (j : ℕ) {stream : OrderingStream} (P : State → Type 0) → stream ≡ stream_at s.counters j → P (state_at f s j) → P (lent_at f s j stream)
lent_has f s j P e h = subst P (sym (lent_is f s j e)) h

module _ (f : ℕ) (s : States) (j id : ℕ) {stream after : OrderingStream} {counters : OrderingStreams} {index lengths bytes : List ℕ} where
  -- what the call leaves of them is put back
  pub leaves_back : (t : State → State) → stream ≡ stream_at s.counters j → Leaves (t (lent_at f s j stream)) after index lengths bytes
      → counters ≡ record { known = made_at s.counters.known j id; streams = set s.counters.streams j after }
      → LeavesAll (stored_at f s j id (t (state_at f s j))) counters
      (put s.index (j * 64) (j * 64 + 64 - j * 64) index) (put s.lengths (j * 64) (j * 64 + 64 - j * 64) lengths) (put s.bytes (j * (64 * f)) (j * (64 * f) + 64 * f - j * (64 * f)) bytes)
  leaves_back t e g w =
      rw (add-sub_cancel_left (j * 64) 64, add-sub_cancel_left (j * (64 * f)) (64 * f), ← lent_is f s j e)
      (record { counters_are = rw (w, g.stream_is); index_is = rw g.index_is; lengths_are = rw g.lengths_are; bytes_are = rw g.bytes_are })

module _ (n : StreamIds) (id : ℕ) (few : n.made ≤ length n.ids) (here : place_of n id < n.made) where
  own : get_or n.ids (place_of n id) 0 ≡ id
  own =
      sym (get_or-take n.made n.ids (place_of n id) 0 here)
      ∙ first_at id (take n.made n.ids) (rw (length-take-le n.made n.ids few) here)

  pub made_same : made_at n (place_of n id) id ≡ n
  made_same =
      rw (ne_eqb (place_of n id) n.made (λ e. omega arith))
      (ap (λ (l : List ℕ). stored l) (ap (λ (x : ℕ). set n.ids (place_of n id) x) (sym own) ∙ set-get_or n.ids (place_of n id) 0))
    where
      stored : List ℕ → StreamIds
      stored l = record { made = n.made; ids = l }

module _ (f : ℕ) (s : States) (id : ℕ) (few : s.counters.known.made ≤ length s.counters.known.ids)
    (here : place_of s.counters.known id < s.counters.known.made) where
  abbrev J : ℕ
  J = place_of s.counters.known id

  stream_here : stream_at s.counters J ≡ get_or s.counters.streams J fresh
  unfolding stream_at
  stream_here = rw (lt-ltb J s.counters.known.made here)

  pub stored_same : stored_at f s J id (state_at f s J) ≡ s
  stored_same =
      rw (made_same s.counters.known id few here, stream_here, set-get_or s.counters.streams J fresh, put_same s.index (J * 64) 64, put_same s.lengths (J * 64) 64, put_same s.bytes (J * (64 * f)) (64 * f))

  pub next_here : next_on f s id ≡ next_of (state_at f s J)
  unfolding next_on
  next_here = rw (lt-ltb J s.counters.known.made here)

  -- what a take leaves is put back, whatever it found
  pub taken_back : (t : Result (Option ℕ) Refusal) → taken_on t f id s ≡ stored_at f s J id (taken t f (state_at f s J))
  taken_back (Ok (Some n)) = refl
  taken_back (Ok None) = sym stored_same
  taken_back (Err why) = sym stored_same

  -- a take on what the stream is lent is one on the stream
  pub takes_here : {j : ℕ} {stream : OrderingStream} {after : AfterTake} {counters : OrderingStreams} {output index lengths bytes out : List ℕ}
      → j ≡ J → stream ≡ stream_at s.counters j → TakesNext f (lent_at f s j stream) output after index lengths bytes out
      → counters ≡ record { known = made_at s.counters.known j id; streams = set s.counters.streams j after.stream }
      → TakesOn f s id output (record { answer = after.answer; streams = counters })
      (put s.index (j * 64) (j * 64 + 64 - j * 64) index) (put s.lengths (j * 64) (j * 64 + 64 - j * 64) lengths) (put s.bytes (j * (64 * f)) (j * (64 * f) + 64 * f - j * (64 * f)) bytes) out
  takes_here {j} p e g w =
      record {
        answer_is = rw (next_here, ← p, ← lent_is f s j e) g.answer_is;
        leaves = rw (next_here, taken_back (next_of (state_at f s J)), ← p) (leaves_back f s j id (λ t. taken (next_of t) f t) e g.leaves w);
        output_is = rw (next_here, ← p, ← lent_is f s j e) g.output_is;
      }

pub next_away : (f : ℕ) (s : States) (id : ℕ) → s.counters.known.made ≤ place_of s.counters.known id → next_on f s id ≡ Ok None
unfolding next_on
next_away f s id h = rw (le-ltb (place_of s.counters.known id) s.counters.known.made h)
