use Rattle.std.proofs.Common.{◌≡◌, ℕ, ◌+◌, ◌%◌, ◌<◌, get_or}
use Rattle.key_parts.specs.Laps.{InLap}
use Rattle.key_parts.proofs.laps.is_lapped.Given as goal

abbrev pub invariant-loop-k : goal.invariant-loop-k
invariant-loop-k l = (j : ℕ) → j < l.k → l.odd % 32 ≡ 0 → l.odd < 1024 → InLap j ((get_or l.keys j 0 + l.shift) % 4294967296)
