-- Making a stream keeps the ids sound. Assumes nothing.
use Prim.Native.Nat.{ℕ, ◌+◌, ◌≤◌, ◌<◌}
use mathlib.Core.Path.{◌≡◌, sym, ap, ◌∙◌}
use mathlib.Core.Bool.{true, false, not}
use mathlib.Core.List.{List}
use mathlib.Core.Logic.{⊎_elim}
use native.Mathlib.Nat.{eq-or-lt_of_le}
use native.Mathlib.Omega.{arith}
use borrow.Author.Tests.{le-leb, eq-eqb}
use lib.Dec.{leb}
use lib.ListN.{length, get_or, take, set, length-set}
use lib.Seq.{length-take-le, get_or-take, get_or-set_same, get_or-set_other}
use Rattle.laws.proofs.Cases.{both, off, each}
use Rattle.keys.specs.Keys.{twice}
use Rattle.keys.proofs.First.{first_le, first_min}
use Rattle.keys.proofs.Twice.{exact, all_apart}
use Rattle.arranging_plan.specs.Ids.{place_of, sound_ids, made_at}
use Rattle.arranging_plan.specs.declared.ids.StreamIds.{StreamIds}
use Rattle.arranging.proofs.Kept.{made_same}
use Rattle.arranging_plan.proofs.Sound.{ids_four}
use Rattle.arranging_laws.specs.Sound.{WholeIds}

module _ (n : StreamIds) (w : WholeIds n) (id : ℕ) where
  abbrev M : ℕ
  M = n.made

  abbrev J : ℕ
  J = place_of n id

  pub few : M ≤ 4
  few = ids_four n w.state

  held_length : length (take M n.ids) ≡ M
  held_length = let l = w.four_ids in let q = few in length-take-le M n.ids (omega arith)

  pub place_le : J ≤ M
  place_le = rw held_length at (first_le id (take M n.ids))

  apart : twice (take M n.ids) ≡ false
  unfolding sound_ids
  apart = off (twice (take M n.ids)) (each (leb M 4) (not (twice (take M n.ids))) w.state).1

  -- a new id stands after the others, and is none of them
  module _ (new : J ≡ M) (free : J < 4) where
    abbrev New : List ℕ
    New = set n.ids J id

    new_length : length (take (M + 1) New) ≡ M + 1
    new_length = length-take-le (M + 1) New (let l = length-set n.ids J id in let q = w.four_ids in omega arith)

    old_at : (i : ℕ) → i < M → get_or (take (M + 1) New) i 0 ≡ get_or (take M n.ids) i 0
    old_at i h =
        get_or-take (M + 1) New i 0 (omega arith) ∙ get_or-set_other n.ids J i id 0 (λ e. omega arith) ∙ sym (get_or-take M n.ids i 0 h)

    new_at : (i : ℕ) → i ≡ M → get_or (take (M + 1) New) i 0 ≡ id
    new_at i h =
        get_or-take (M + 1) New i 0 (omega arith)
        ∙ ap (λ (k : ℕ). get_or New k 0) (h ∙ sym new)
        ∙ get_or-set_same n.ids J id 0 (let q = w.four_ids in omega arith)

    new_apart : twice (take (M + 1) New) ≡ false
    new_apart =
        all_apart (take (M + 1) New)
        (λ i j before within key same.
        let jl : j < M + 1 = rw new_length at within in
        let il : i < M = omega arith in
        ⊎_elim
        (λ (e : j ≡ M).
        let at : get_or (take M n.ids) i 0 ≡ id = sym (old_at i il) ∙ same ∙ new_at j e in
        let m : J ≤ i = first_min id (take M n.ids) i (rw held_length il) at in
        omega arith)
        (λ (h : j < M).
        both
        (exact.if_same (take M n.ids)
        (record {
          first = i;
          second = j;
          before = before;
          within = rw held_length h;
          key = rw (sym (old_at i il)) key;
          same = sym (old_at i il) ∙ same ∙ old_at j h;
        }))
        apart)
        (eq-or-lt_of_le {n = j} {m = M} (omega arith)))

    new-sound : sound_ids (made_at n J id) ≡ true
    unfolding sound_ids
    new-sound = rw (eq-eqb J M new, le-leb (M + 1) 4 (omega arith), new_apart)

  pub made_whole : J < 4 → WholeIds (made_at n J id)
  made_whole free =
      record {
        four_ids = length-set n.ids J id ∙ w.four_ids;
        state =
            ⊎_elim (λ (e : J ≡ M). new-sound e free)
            (λ (h : J < M). let l = w.four_ids in let q = few in rw (made_same n id (omega arith) h) w.state)
            (eq-or-lt_of_le place_le);
      }
