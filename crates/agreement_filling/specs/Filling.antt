-- A run over whole ends, as `agreement` has them, in which the table of held items fills: that what it speaks of does happen.
use Rattle.std.specs.Prelude.{ℕ, zero, suc, ◌≡◌, List, [], ◌∷◌, ◌++◌, replicate, get_or}
use Rattle.ends.specs.State.{fresh_end}
use Rattle.receiving_plan.specs.Plan.{number_of_answer}
use Rattle.link_incoming.specs.Calls.{receive_of}
use Rattle.link_laws.specs.Never.{New}
use Rattle.agreement.specs.World.{World, start, no_copy}
use Rattle.agreement.specs.Agreement.{Mays}
use Rattle.agreement.specs.Events.{Event, arrives, takes, run}
use Rattle.agreement_setting.specs.Setting.{sizes, pair, lent, out, sending, payloads}

-- n copies come, with a take after each: the last written is at place 0; down to place 0
abbrev pub rising : ℕ → List Event
rising zero = []
rising (suc n) = arrives n out ∷ takes out ∷ rising n

-- 66 items are sent; items 1 to 64 come and are held, and item 65 is refused 6; then item 0 comes, and item 65 again
unfoldable pub filling : List Event
filling = sending 66 0 ++ rising 65

unfoldable pub filled : World
filled = run pair (start (lent fresh_end) (lent fresh_end)) filling

unfoldable pub emptying : List Event
emptying = arrives 65 out ∷ replicate 65 (takes out) ++ (arrives 0 out ∷ takes out ∷ [])

unfoldable pub emptied : World
emptied = run pair filled emptying

pub record Fills : Type 0 where
  -- the ends are fresh, and the run may happen, as `agreement` has both,
  pub fresh_ends : New sizes (lent fresh_end) out
  pub filling_may : Mays pair (start (lent fresh_end) (lent fresh_end)) filling
  pub emptying_may : Mays pair filled emptying
  -- and this is what it comes to
  pub filled_told : number_of_answer (receive_of sizes filled.receiver (get_or filled.line 0 no_copy).datagram out).answer ≡ 6
  pub emptied_handed : emptied.handed ≡ payloads 66 0
