-- Each way out has the tests that led there.
use Rattle.std.proofs.Common.{◌∙◌, le-ltb, lt-ltb}
use Rattle.laws.proofs.Cases.{both}
use Rattle.flight.specs.Lost.{is_lost}
use Rattle.flight.proofs.lost.is_lost.Goals as goal
use Rattle.flight.proofs.lost.is_lost.Goals.{then-entry-lt65536, else-entry-lt65536}

pub returns-then-sequence_less_than : goal.returns-then-sequence_less_than
unfolding is_lost
returns-then-sequence_less_than c =
    elim c.if-entry-lt65536.branch [
      | then-entry-lt65536 w ↦ rw (lt-ltb _ _ w.if-entry-lt65536.true, ← w.sequence_less_than.ensures, ← w.value-is, c.if-sequence_less_than.true, c.distance.ensures)
      | else-entry-lt65536 w ↦ both c.if-sequence_less_than.true (w.value-is ∙ le-ltb _ _ w.if-entry-lt65536.false)
    ]

pub returns-else-sequence_less_than : goal.returns-else-sequence_less_than
unfolding is_lost
returns-else-sequence_less_than c =
    elim c.if-entry-lt65536.branch [
      | then-entry-lt65536 w ↦ rw (lt-ltb _ _ w.if-entry-lt65536.true, ← w.sequence_less_than.ensures, ← w.value-is, c.if-sequence_less_than.false)
      | else-entry-lt65536 w ↦ rw (le-ltb _ _ w.if-entry-lt65536.false) (w.value-is ∙ le-ltb _ _ w.if-entry-lt65536.false)
    ]
