-- The first place of an id is the first entry that equals it; where there is none, it is as many as there are.
use Rattle.std.proofs.Common.{rules, tests, ◌≡◌, refl, ap, ℕ, suc, ◌+◌, ◌≤◌, cond, List, length, take, eqb, ltb, arith}
use Rattle.std.specs.List.{position_or_len}
use Rattle.std.specs.Option.{unwrap_or}
use Rattle.std.proofs.lemmas.List.Recursion.{is_position_or_len}
use Rattle.std.proofs.lemmas.Iterator.{YieldsList-from_slice}
use Rattle.std.proofs.lemmas.Iterator.Search.{position_from_yields_List}
use lib.Seq.{length-take-le}
use borrow.Author.Tests.{ltb-false}
use Rattle.laws.proofs.Cases.{case}
use Rattle.keys.specs.Keys.{first_place, found}
use Rattle.keys.proofs.First.{first_le}
use Rattle.arranging_plan.proofs.ids.StreamIds.place.Goals as goal

first_is : (k : ℕ) (l : List ℕ) → first_place k l ≡ position_or_len (λ x. eqb x k) l
unfolding first_place
first_is k = is_position_or_len (first_place k) (λ x. eqb x k) refl (λ x xs. let e : suc (first_place k xs) ≡ 1 + first_place k xs = omega arith in ap (cond (eqb x k) 0) e)

or_end : (at n : ℕ) → at ≤ n → unwrap_or (found at n) n ≡ at
or_end at n h = case (ltb at n) (λ e. rw e) (λ e. let l = ltb-false at n e in rw e (omega arith))

pub returns : goal.returns
returns c =
    let s = c.args.self in
    let ids = take s.made s.ids in
    let four : length s.ids ≡ 4 = search rules in
    let n : length ids ≡ s.made = length-take-le s.made s.ids (omega arith) in
    let p : c.position.result ≡ found (first_place c.args.id ids) (length ids) =
    rw (first_is c.args.id ids)
    (position_from_yields_List (λ x. eqb x c.args.id) _ _ _ c.position.ensures.ran (YieldsList-from_slice ids cc) (λ x b q k. search (rules, tests))) in
    rw (c.unwrap_or.ensures, p, n) (or_end (first_place c.args.id ids) s.made (omega (arith, first_le c.args.id ids)))
