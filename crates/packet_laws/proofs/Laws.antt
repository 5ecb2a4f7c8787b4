-- What proofs use of `build_of` in place of its text.
--     fit_same              what is built and what is read fit alike
--     built, told           what is built where there is room, and the way back
-- Assumes nothing.
use mathlib.Core.Path.{◌≡◌, refl}
use mathlib.Core.Bool.{Bool, true, false, cond, not, ◌&&◌, ◌||◌}
use mathlib.Core.List.{List}
use Prim.Native.Nat.{ℕ, ◌+◌, ◌-◌, ◌≤◌}
use native.Mathlib.Nat.{add-sub_cancel_left}
use lib.ListN.{length}
use lib.Dec.{ltb}
use borrow.Author.Tests.{ltb-false, le-ltb}
use Rattle.std.specs.Prelude.{Ok, Err}
use Rattle.laws.proofs.Cases.{no_answer}
use Rattle.terms.specs.declared.Refusal.TheVariants.{BadStorage, BadHeader}
use Rattle.packet_table.specs.declared.StandardHeader.{StandardHeader}
use Rattle.packet_table.specs.declared.Headers.{Headers}
use Rattle.packet_table.specs.declared.PacketType.{PacketType}
use Rattle.packet_table.specs.declared.PacketType.TheVariants.{Packet, Fragment, Heartbeat}
use Rattle.packet_table.specs.declared.DeliveryGuarantee.{DeliveryGuarantee}
use Rattle.packet_table.specs.declared.DeliveryGuarantee.TheVariants.{Unreliable, Reliable}
use Rattle.packet_table.specs.declared.OrderingGuarantee.{OrderingGuarantee}
use Rattle.packet_table.specs.declared.OrderingGuarantee.TheVariants.{None, Sequenced, Ordered}
use Rattle.packet_table.specs.Table.{rule, follows, listed, is_heartbeat, misfit}
use Rattle.packet_table.specs.Layout.{payload_at}
use Rattle.packet.specs.Build.{build_of}
use Rattle.packet_laws.specs.Inverse.{start}

-- of a listed heartbeat, what comes after the standard header is the payload
fit_rule : (t : PacketType) (d : DeliveryGuarantee) (o : OrderingGuarantee) (id n : ℕ)
    → (not (listed (rule t d o)) || (is_heartbeat t && ltb 0 (payload_at (rule t d o) id + n - 5))) ≡ (not (listed (rule t d o)) || (is_heartbeat t && ltb 0 n))
fit_rule Packet d o id n = refl
fit_rule Fragment d o id n = refl
fit_rule Heartbeat Unreliable None id n = rw (add-sub_cancel_left 5 n)
fit_rule Heartbeat Unreliable Sequenced id n = refl
fit_rule Heartbeat Unreliable Ordered id n = refl
fit_rule Heartbeat Reliable o id n = refl

pub fit_same : (s : StandardHeader) (id n : ℕ) → misfit s (follows s) (payload_at (follows s) id + n - 5) ≡ misfit s (follows s) n
unfolding misfit follows
fit_same s id n = fit_rule s.packet_type s.delivery s.ordering id n

module _ (h : Headers) (p o : List ℕ) where
  pub built : misfit h.standard (follows h.standard) (length p) ≡ false → start h + length p ≤ length o → build_of h p o ≡ Ok (start h + length p)
  unfolding build_of
  built fit room = rw (fit, le-ltb _ _ room)

  pub told : (end : ℕ) → build_of h p o ≡ Ok end
      → (misfit h.standard (follows h.standard) (length p) ≡ false) × (start h + length p ≤ length o) × (end ≡ start h + length p)
  unfolding build_of
  told end e = go _ _ refl refl e
    where
      go : (a b : Bool) → misfit h.standard (follows h.standard) (length p) ≡ a → ltb (length o) (start h + length p) ≡ b
          → cond a (Err BadHeader) (cond b (Err BadStorage) (Ok (start h + length p))) ≡ Ok end
          → (misfit h.standard (follows h.standard) (length p) ≡ false) × (start h + length p ≤ length o) × (end ≡ start h + length p)
      go true b q t e = no_answer e
      go false true q t e = no_answer e
      go false false q t e = (q, ltb-false _ _ t, cc)
