-- By `turned` the two parts of what is moved up make the field; at slot 32 the lower part is 0.
use Rattle.std.proofs.Common.{◌≡◌, ℕ, ◌+◌, ◌*◌, ◌/◌, ◌%◌, ◌^◌, ◌<◌, sym, refl, ap, ◌∙◌, le_of_eq, lt_of_le_of_lt, arith, shl_exact}
use Rattle.laws.specs.Bits.{bits_below}
use Rattle.laws.proofs.Bits.{bits_lt}
use Rattle.received.specs.Field.{heard}
use Rattle.received.proofs.Turned.{turned}
use Rattle.received.proofs.recent.field.Goals as goal
use Rattle.received.proofs.recent.field.Goals.{After-recent_slots-all}

field_is : (c : After-recent_slots-all) → bits_below (heard c.args.newest c.args.slots.now) 32 ≡ c.recent_slots-all.result * 2 ^ (c.args.newest % 33) % 4294967296 + c.recent_slots-all.result * 2 ^ (c.args.newest % 33) / 8589934592
field_is c =
    turned c.args.newest c.args.slots.now (omega arith) (λ j. omega (arith, c.shared_slice_known-1.given j)) c.requires _ _ refl c.recent_slots-all.ensures

small : (c : After-recent_slots-all) → c.recent_slots-all.result < 2 ^ 33
small c = rw c.recent_slots-all.ensures (bits_lt _ 33)

halved : (w : ℕ) → w * 4294967296 % 4294967296 + w * 4294967296 / 8589934592 ≡ w / 2
halved w = omega arith

-- at slot 32
last : (w at f : ℕ) → at ≡ 32 → f ≡ w * 2 ^ at % 4294967296 + w * 2 ^ at / 8589934592 → w / 2 ≡ f
last w at f e is = sym (is ∙ ap (λ (x : ℕ). w * 2 ^ x % 4294967296 + w * 2 ^ x / 8589934592) e ∙ halved w)

-- at any other
other : (w at f : ℕ) → w < 2 ^ 33 → at < 32 → f ≡ w * 2 ^ at % 4294967296 + w * 2 ^ at / 8589934592 → w * 2 ^ at % 2 ^ 64 % 4294967296 + w * 2 ^ at % 2 ^ 64 / 8589934592 ≡ f
other w at f s h is = ap (λ (x : ℕ). x % 4294967296 + x / 8589934592) (shl_exact 33 at 64 s (omega arith)) ∙ sym is

pub overflow_cast-result : goal.overflow_cast-result
overflow_cast-result c =
    let e = last _ (c.args.newest % 33) _ (omega arith) (field_is (goal.at.overflow_cast-result c).After-recent_slots-all) in
    record { fits = lt_of_le_of_lt (le_of_eq e) (bits_lt _ 32) }

pub returns-then-at-eq32 : goal.returns-then-at-eq32
returns-then-at-eq32 c = last _ (c.args.newest % 33) _ (omega arith) (field_is (goal.at.returns-then-at-eq32 c).After-recent_slots-all)

pub overflow_cast-result-2 : goal.overflow_cast-result-2
overflow_cast-result-2 c =
    let d = (goal.at.overflow_cast-result-2 c).After-recent_slots-all in
    let e = other _ (c.args.newest % 33) _ (small d) (omega arith) (field_is d) in
    record { fits = lt_of_le_of_lt (le_of_eq e) (bits_lt _ 32) }

pub returns : goal.returns
returns c =
    let d = (goal.at.returns c).After-recent_slots-all in
    other _ (c.args.newest % 33) _ (small d) (omega arith) (field_is d)
