use Rattle.std.proofs.Common.{◌≡◌, ℕ, ◌<◌, ◌≤◌, false, get_or}
use Rattle.key_parts.specs.Words.{no_packet}
use Rattle.flight.specs.Entry.{number_in}
use Rattle.flight.specs.Lost.{is_lost}
use Rattle.flight.proofs.lost.is_none_lost.Given as goal

abbrev pub invariant-loop-word : goal.invariant-loop-word
invariant-loop-word l = no_packet ≤ l.all → (j : ℕ) → j < l.word-index → is_lost l.remote.0 (number_in (get_or l.part j 0)) ≡ false
