-- A rest makes one more.
use Rattle.std.proofs.Common.{◌≡◌, ℕ, ◌%◌, min, cond, ltb, ⊎_elim, arith, rules, lt-ltb, le-ltb}
use Rattle.laws.proofs.Cases.{lt_or_le}
use Rattle.splitter.specs.Split.{needed}
use Rattle.splitter.proofs.fragments_needed.Goals as goal

rest : (r : ℕ) → cond (ltb 0 r) 1 0 ≡ min 1 r
rest r = ⊎_elim (λ h. rw (lt-ltb 0 r h) (omega arith)) (λ h. rw (le-ltb 0 r h) (omega arith)) (lt_or_le 0 r)

pub returns : goal.returns
unfolding needed
returns c = rw (rest (c.args.length % c.args.f)) (search rules)
