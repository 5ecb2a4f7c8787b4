-- The stream with an id among the ordered streams of an end: what is stored under that id is seen there, and what is stored under
-- another leaves it. Assumes nothing.
use Prim.Native.Nat.{ℕ, ◌+◌, ◌*◌, ◌≤◌, ◌<◌}
use mathlib.Core.Path.{◌≡◌, sym, ap, ◌∙◌, subst}
use mathlib.Core.Logic.{⊎_elim}
use mathlib.Core.List.{List}
use native.Mathlib.Nat.{eq-or-lt_of_le}
use native.Mathlib.Omega.{arith}
use borrow.Author.Tests.{lt-ltb, le-ltb, eq-eqb}
use lib.ListN.{length, get_or, take, set, length-set}
use lib.Seq.{length-take-le, get_or-take, get_or-set_same, get_or-set_other}
use Rattle.std.specs.Prelude.{None}
use Rattle.laws.proofs.Cases.{lt_or_le}
use Rattle.keys.proofs.First.{first_at, first_min}
use Rattle.ordering_plan.specs.State.{State as Stream, fresh, place_of as held_place}
use Rattle.ordering_plan.specs.declared.OrderingStream.{OrderingStream}
use Rattle.ordering_laws.specs.Held.{held_at}
use Rattle.arranging_plan.specs.Ids.{place_of, made_at}
use Rattle.arranging_plan.specs.Ordered.{States, stream_at, state_at, stored_at}
use Rattle.arranging_plan.specs.declared.ids.StreamIds.{StreamIds}
use Rattle.arranging.proofs.Kept.{made_same}
use Rattle.arranging_plan.proofs.Parts.{block_end}
use Rattle.arranging_plan.proofs.Sound.{all_ids, fresh_at}
use Rattle.arranging_laws.specs.Sound.{Whole, WholeIds}
use Rattle.arranging_laws.proofs.Apart.{put_here}
use Rattle.arranging_laws.proofs.Ids.{few, place_le}
use Rattle.arranging_laws.proofs.Stored.{Fitting, made_own, stored_other}

-- ---- the ids

module _ (n : StreamIds) (w : WholeIds n) where
  abbrev M : ℕ
  M = n.made

  held_length : length (take M n.ids) ≡ M
  held_length = let l = w.four_ids in let q = few n w 0 in length-take-le M n.ids (omega arith)

  long : M ≤ length n.ids
  long = let l = w.four_ids in let q = few n w 0 in omega arith

  -- an id that is made stands at its place, and not before
  pub made_at_lem : (id : ℕ) → place_of n id < M → get_or n.ids (place_of n id) 0 ≡ id
  made_at_lem id h = sym (get_or-take M n.ids (place_of n id) 0 h) ∙ first_at id (take M n.ids) (rw held_length h)

  pub made_least : (id j : ℕ) → j < M → get_or n.ids j 0 ≡ id → place_of n id ≤ j
  made_least id j h e = first_min id (take M n.ids) j (rw held_length h) (get_or-take M n.ids j 0 h ∙ e)

module _ (n : StreamIds) (w : WholeIds n) (id : ℕ) (new : place_of n id ≡ n.made) (free : place_of n id < 4) where
  abbrev N : List ℕ
  N = set n.ids (place_of n id) id

  abbrev Made : StreamIds
  Made = record { made = n.made + 1; ids = N }

  new_length : length (take (n.made + 1) N) ≡ n.made + 1
  new_length = length-take-le (n.made + 1) N (let l = length-set n.ids (place_of n id) id in let q = w.four_ids in omega arith)

  old_at : (i : ℕ) → i < n.made → get_or (take (n.made + 1) N) i 0 ≡ get_or n.ids i 0
  old_at i h = get_or-take (n.made + 1) N i 0 (omega arith) ∙ get_or-set_other n.ids (place_of n id) i id 0 (λ e. omega arith)

  new_at : get_or (take (n.made + 1) N) n.made 0 ≡ id
  new_at =
      get_or-take (n.made + 1) N n.made 0 (omega arith) ∙ ap (λ (k : ℕ). get_or N k 0) (sym new)
      ∙ get_or-set_same n.ids (place_of n id) id 0 (let q = w.four_ids in omega arith)

  place_new : place_of Made id ≡ n.made
  place_new =
      let le : place_of Made id ≤ n.made = first_min id (take (n.made + 1) N) n.made (rw new_length (omega arith)) new_at in
      ⊎_elim (λ (e : place_of Made id ≡ n.made). e)
      (λ (h : place_of Made id < n.made).
      let at : get_or n.ids (place_of Made id) 0 ≡ id = sym (old_at (place_of Made id) h) ∙ first_at id (take (n.made + 1) N) (rw new_length (omega arith)) in
      let m = made_least n w id (place_of Made id) h at in
      absurd (omega arith))
      (eq-or-lt_of_le le)

  -- another id: where it was made, it has its place; where it was not, it is not
  place_kept : (id' : ℕ) → place_of n id' < n.made → place_of Made id' ≡ place_of n id'
  place_kept id' h =
      let le : place_of Made id' ≤ place_of n id' = first_min id' (take (n.made + 1) N) (place_of n id') (rw new_length (omega arith)) (old_at (place_of n id') h ∙ made_at_lem n w id' h) in
      ⊎_elim (λ (e : place_of Made id' ≡ place_of n id'). e)
      (λ (g : place_of Made id' < place_of n id').
      let at : get_or n.ids (place_of Made id') 0 ≡ id' = sym (old_at (place_of Made id') (omega arith)) ∙ first_at id' (take (n.made + 1) N) (rw new_length (omega arith)) in
      let m = made_least n w id' (place_of Made id') (omega arith) at in
      absurd (omega arith))
      (eq-or-lt_of_le le)

  place_out : (id' : ℕ) → (id' ≡ id → ⊥) → n.made ≤ place_of n id' → n.made + 1 ≤ place_of Made id'
  place_out id' ne h =
      ⊎_elim
      (λ (g : place_of Made id' < n.made + 1).
      let is : get_or (take (n.made + 1) N) (place_of Made id') 0 ≡ id' = first_at id' (take (n.made + 1) N) (rw new_length (omega arith)) in
      ⊎_elim
      (λ (e : place_of Made id' < n.made).
      let m = made_least n w id' (place_of Made id') e (sym (old_at (place_of Made id') e) ∙ is) in absurd (omega arith))
      (λ (e : n.made ≤ place_of Made id').
      let at : place_of Made id' ≡ n.made = omega arith in
      absurd (ne (sym is ∙ ap (λ (k : ℕ). get_or (take (n.made + 1) N) k 0) at ∙ new_at)))
      (lt_or_le (place_of Made id') n.made))
      (λ (g : n.made + 1 ≤ place_of Made id'). g)
      (lt_or_le (place_of Made id') (n.made + 1))

module _ (n : StreamIds) (w : WholeIds n) (id : ℕ) (free : place_of n id < 4) where
  abbrev J : ℕ
  J = place_of n id

  pub place_own : place_of (made_at n J id) id ≡ J
  place_own =
      ⊎_elim (λ (e : J ≡ n.made). rw (eq-eqb J n.made e) (place_new n w id e free ∙ sym e))
      (λ (h : J < n.made). ap (λ (x : StreamIds). place_of x id) (made_same n id (long n w) h))
      (eq-or-lt_of_le (place_le n w id))

  pub place_other : (id' : ℕ) → place_of n id' < n.made → place_of (made_at n J id) id' ≡ place_of n id'
  place_other id' q =
      ⊎_elim (λ (e : J ≡ n.made). rw (eq-eqb J n.made e) (place_kept n w id e free id' q))
      (λ (h : J < n.made). ap (λ (x : StreamIds). place_of x id') (made_same n id (long n w) h))
      (eq-or-lt_of_le (place_le n w id))

  pub still_out : (id' : ℕ) → (id' ≡ id → ⊥) → n.made ≤ place_of n id' → (made_at n J id).made ≤ place_of (made_at n J id) id'
  still_out id' ne q =
      ⊎_elim (λ (e : J ≡ n.made). rw (eq-eqb J n.made e) (place_out n w id e free id' ne q))
      (λ (h : J < n.made). subst (λ (x : StreamIds). x.made ≤ place_of x id') (sym (made_same n id (long n w) h)) q)
      (eq-or-lt_of_le (place_le n w id))

  pub places_differ : (id' : ℕ) → (id' ≡ id → ⊥) → place_of n id' < n.made → place_of n id' ≡ J → ⊥
  places_differ id' ne h e = ne (sym (made_at_lem n w id' h) ∙ ap (λ (k : ℕ). get_or n.ids k 0) e ∙ made_at_lem n w id (rw (sym e) h))

-- ---- the streams

-- the stream with an id; where it is not made yet, it is fresh
abbrev pub seen : ℕ → States → ℕ → Stream
seen f s id = state_at f s (place_of s.counters.known id)

-- two streams of the same counters that hold the same
pub record Equal (f : ℕ) (a b : Stream) : Type 0 where
  pub stream_is : b.stream ≡ a.stream
  pub keeps : (y : ℕ) → held_at f b y ≡ held_at f a y

pub equal_same : (f : ℕ) (a b : Stream) → b ≡ a → Equal f a b
equal_same f a b e = record { stream_is = ap (λ (x : Stream). x.stream) e; keeps = λ y. ap (λ (x : Stream). held_at f x y) e }

pub none_held : (f : ℕ) (t : Stream) → t.stream ≡ fresh → (y : ℕ) → held_at f t y ≡ None
unfolding held_at
none_held f t e y =
    let none_there : t.stream.held ≡ 0 = ap (λ (x : OrderingStream). x.held) e in
    rw (le-ltb (held_place t.stream t.index y) t.stream.held (rw none_there (omega arith)))

pub ids_of : (f : ℕ) (s : States) → Whole f s → WholeIds s.counters.known
ids_of f s w = record { four_ids = w.four_ids; state = all_ids f s.counters s.index s.lengths w.state }

module _ (f : ℕ) (s : States) (w : Whole f s) (id : ℕ) (free : place_of s.counters.known id < 4) (t : Stream) (ok : Fitting f t) where
  abbrev I : ℕ
  I = place_of s.counters.known id

  abbrev Next : States
  Next = stored_at f s I id t

  stream_own : stream_at Next.counters I ≡ t.stream
  unfolding stream_at
  stream_own =
      rw (lt-ltb I (made_at s.counters.known I id).made (made_own s.counters.known I id (place_le s.counters.known (ids_of f s w) id)))
      (get_or-set_same s.counters.streams I t.stream fresh (let q = w.four_streams in omega arith))

  state_own : state_at f Next I ≡ t
  state_own =
      rw (stream_own, put_here s.index t.index (I * 64) 64 ok.indices (let q = w.indices in omega arith), put_here s.lengths t.lengths (I * 64) 64 ok.lengths (let q = w.lengths in omega arith), put_here s.bytes t.bytes (I * (64 * f)) (64 * f) ok.bytes (let q = w.bytes in omega (arith, block_end I (64 * f) free)))

  -- what is stored under an id is seen there
  pub own_seen : seen f Next id ≡ t
  own_seen = rw (place_own s.counters.known (ids_of f s w) id free) state_own

  -- under another id all is as it was
  pub other_seen : (id' : ℕ) → (id' ≡ id → ⊥) → Equal f (seen f s id') (seen f Next id')
  other_seen id' ne =
      ⊎_elim
      (λ (h : place_of s.counters.known id' < s.counters.known.made).
      equal_same f (seen f s id') (seen f Next id')
      (rw (place_other s.counters.known (ids_of f s w) id free id' h)
      (stored_other f s w id free t ok (place_of s.counters.known id') (places_differ s.counters.known (ids_of f s w) id free id' ne h))))
      (λ (h : s.counters.known.made ≤ place_of s.counters.known id').
      let was = fresh_at s.counters (place_of s.counters.known id') h in
      let is = fresh_at Next.counters (place_of Next.counters.known id') (still_out s.counters.known (ids_of f s w) id free id' ne h) in
      record { stream_is = is ∙ sym was; keeps = λ y. none_held f (seen f Next id') is y ∙ sym (none_held f (seen f s id') was y) })
      (lt_or_le (place_of s.counters.known id') s.counters.known.made)
