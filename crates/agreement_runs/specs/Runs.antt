-- A run over whole ends, as `agreement` has them, with loss, repeats, a drop and a resend: that what it speaks of does happen.
use Rattle.std.specs.Prelude.{ℕ, zero, suc, ◌≡◌, List, [], ◌∷◌, ◌++◌, replicate, take}
use Rattle.packet_table.specs.declared.DeliveryGuarantee.TheVariants.{Reliable}
use Rattle.packet_table.specs.declared.OrderingGuarantee.TheVariants.{None}
use Rattle.ordering_plan.specs.State.{fresh as fresh_stream}
use Rattle.ends.specs.State.{fresh_end}
use Rattle.ends.specs.declared.End.{End}
use Rattle.link_outgoing.specs.Calls.{send_of}
use Rattle.link_laws.specs.Calls.{sends as sends_on}
use Rattle.link_laws.specs.Never.{New}
use Rattle.agreement.specs.World.{World, start}
use Rattle.agreement.specs.Agreement.{Mays}
use Rattle.agreement.specs.Events.{Event, resends, drops, hears, arrives, takes, others, run}
use Rattle.agreement_setting.specs.Setting.{sizes, pair, lent, out, sending, payloads}

-- n copies come, with a take after each: the last written is at place 0; from place j on
abbrev pub coming : ℕ → ℕ → List Event
coming zero j = []
coming (suc n) j = arrives j out ∷ takes out ∷ coming n (suc j)

-- 40 items are sent; the first datagram is lost, the others come, the last first, each twice
unfoldable pub losing : List Event
losing = sending 40 0 ++ (coming 39 0 ++ coming 39 0)

unfoldable pub lost_from : End → World
lost_from end = run pair (start (lent end) (lent end)) losing

-- the receiver sends something else, which acknowledges what it has; the sender hears it, drops the lost packet and sends it again
unfoldable pub told_by : World → List ℕ
told_by w = take 14 (send_of sizes w.receiver Reliable None 0 (5 ∷ []) out).output

unfoldable pub resending : World → List Event
resending w =
    others (sends_on Reliable None 0 (5 ∷ []) out) ∷ hears (told_by w) out ∷ drops out ∷ resends 0 out ∷ arrives 0 out ∷ replicate 40 (takes out)

unfoldable pub resent_from : End → World
resent_from end = run pair (lost_from end) (resending (lost_from end))

-- two ends that have exchanged 65,510 items, so that the 40 items cross 65,535
abbrev pub later : End
later =
    record {
      acks = fresh_end.acks;
      reassembly = fresh_end.reassembly;
      ordering = record {
        known = record { made = 1; ids = 3 ∷ replicate 3 0 };
        streams = record { expected_index = record { 0 = 65510 }; held = 0; next_item = record { 0 = 65510 } } ∷ replicate 3 fresh_stream;
      };
      sequencing = fresh_end.sequencing;
    }

pub record Runs : Type 0 where
  -- the ends are fresh, and the run may happen, as `agreement` has both,
  pub fresh_ends : New sizes (lent fresh_end) out
  pub losing_may : Mays pair (start (lent fresh_end) (lent fresh_end)) losing
  pub resending_may : Mays pair (lost_from fresh_end) (resending (lost_from fresh_end))
  -- and this is what it comes to
  pub resent_handed : (resent_from fresh_end).handed ≡ payloads 40 0
  -- across 65,535 too
  pub crossing_may : Mays pair (start (lent later) (lent later)) losing
  pub crossing_again_may : Mays pair (lost_from later) (resending (lost_from later))
  pub crossed_handed : (resent_from later).handed ≡ payloads 40 0
