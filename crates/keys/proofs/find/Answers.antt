-- The first place of a key is the first entry that equals it.
use Rattle.std.proofs.Common.{rules, tests, ◌≡◌, refl, ap, ℕ, suc, ◌+◌, cond, List, eqb, arith}
use Rattle.std.specs.List.{position_or_len}
use Rattle.std.proofs.lemmas.List.Recursion.{is_position_or_len}
use Rattle.std.proofs.lemmas.Iterator.{YieldsList-from_slice}
use Rattle.std.proofs.lemmas.Iterator.Search.{position_from_yields_List}
use Rattle.keys.specs.Keys.{first_place}
use Rattle.keys.proofs.find.Goals as goal

first_is : (k : ℕ) (l : List ℕ) → first_place k l ≡ position_or_len (λ x. eqb x k) l
unfolding first_place
first_is k = is_position_or_len (first_place k) (λ x. eqb x k) refl (λ x xs. let e : suc (first_place k xs) ≡ 1 + first_place k xs = omega arith in ap (cond (eqb x k) 0) e)

pub returns : goal.returns
returns c =
    let keys = c.args.keys.now in
    rw (first_is c.args.key keys)
    (position_from_yields_List (λ x. eqb x c.args.key) _ _ _ c.position.ensures.ran (YieldsList-from_slice keys cc) (λ x b q k. search (rules, tests)))
