-- Where the bits left are no key, neither is what was kept of any entry passed.
use Rattle.std.proofs.Common.{◌≡◌, ℕ, ◌%◌, ◌<◌, get_or, sym, subst, below_more, leb-true, arith}
use lib.Bits.{and_le_l, and_le_r}
use Rattle.keys.proofs.Homes.{home_once}
use Rattle.keys.proofs.slots.at_home.Goals as goal

pub loop-place-preserved : goal.loop-place-preserved
loop-place-preserved c =
    let l = c.loop-place in
    let keys = c.args.keys.now in
    let u = c.unless_home-all.result in
    below_more (λ (j : ℕ). _ → get_or keys j 0 < 65536 → get_or keys j 0 % 33 ≡ j) l.place
    (λ j h z. l.invariant j h (omega (arith, and_le_l l.all u)))
    (λ z. c.unless_home-all.ensures (omega (arith, and_le_r l.all u)))

pub returns : goal.returns
returns c =
    let keys = c.args.keys.now in
    λ e.
    home_once keys
    (record {
      own = λ j h key.
          subst (λ (n : ℕ). get_or keys j 0 % n ≡ j) (sym c.requires)
          (c.loop-place.invariant j (omega arith) (leb-true 65536 c.loop-place.all e) key);
    })
