-- Where the word and its fifth shift differ in no low bit and in no high one, it is 33 times the shift.
use Rattle.std.proofs.Common.{◌+◌, ◌-◌, ◌/◌, ◌%◌, arith}
use Rattle.key_parts.proofs.Lapped.{laps_of}
use Rattle.key_parts.proofs.laps.oddity.Goals as goal

pub returns : goal.returns
returns c = λ even small.
    let y = (c.args.entry + (4294967296 - c.args.place)) % 4294967296 in
    let told = laps_of y even small in
    record { laps = y / 32; few = told.0; is = omega (arith, told.1) }
