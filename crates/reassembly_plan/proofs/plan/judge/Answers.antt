use mathlib.Core.Path.{◌≡◌}
use native.Mathlib.Omega.{arith}
use Rattle.reassembly_plan.specs.Plan.{slot_of, known, found, plan_of}
use Rattle.reassembly_plan.proofs.Sound.{found_sound, entry_small}
use Rattle.reassembly_plan.proofs.plan.judge.Goals as goal
use Rattle.reassembly_plan.proofs.plan.judge.Goals.{After-found-held}

entry_is : (c : After-found-held) → c.found-held.result ≡ found (known c.args.slots.now c.args.fragment) c.args.entry.now (slot_of c.args.slots.now c.args.fragment) c.args.fragment.count
entry_is c = rw (← c.exists-there.ensures, ← c.slot-at.ensures.0) c.found-held.ensures

pub returns-then-passed : goal.returns-then-passed
unfolding plan_of
returns-then-passed c = rw (← c.exists-there.ensures, ← c.passed.ensures, c.if-passed.true)

pub judge_entry-requires : goal.judge_entry-requires
judge_entry-requires c =
    let a = c.args in
    rw (entry_is c) (entry_small a.f _ a.size (found_sound a.f a.slots.now a.entry.now a.fragment c.requires.0 (omega arith)) c.requires.0.f_most c.requires.1)

pub returns : goal.returns
unfolding plan_of
returns c = rw (← entry_is (goal.at.returns c).After-found-held, ← c.exists-there.ensures, ← c.passed.ensures, c.if-passed.false) c.judge_entry.ensures
