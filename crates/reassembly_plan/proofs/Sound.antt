-- A sound table: what that says of each entry, and that a fragment which joins leaves its entry sound. Assumes nothing.
--     entry_means, entry_holds     a sound entry, field by field
--     opened_sound, grown_sound    what is made, and what has grown, is sound
--     found_sound                  the entry that a fragment finds in a sound table
use mathlib.Core.Path.{◌≡◌, refl, sym, ap, ◌∙◌}
use mathlib.Core.Bool.{true, false, not, ◌||◌}
use mathlib.Core.List.{List}
use Prim.Native.Nat.{ℕ, ◌+◌, ◌*◌, ◌^◌, ◌≤◌, ◌<◌}
use native.Mathlib.Nat.{mod-lt, mul-le-mul_left, mul_comm}
use native.Mathlib.Omega.{arith}
use lib.Bits.{bit_or}
use lib.Dec.{leb, eqb}
use lib.ListN.{length, get_or}
use borrow.Author.Tests.{eqb-true, eq-eqb, leb-true, le-leb, lt-leb}
use Rattle.laws.specs.Bits.{bit}
use Rattle.laws.proofs.Bits.{bit-or}
use Rattle.laws.proofs.Cases.{case, each}
use Rattle.keys.specs.Keys.{twice}
use Rattle.reassembly_plan.specs.Words.{entry_of}
use Rattle.reassembly_plan.specs.Plan.{slot_of, known, opened, found, grown}
use Rattle.reassembly_plan.specs.Gate.{count_below, all_below, entry_sound, sound_at, sound}
use Rattle.reassembly_plan.specs.Table.{Growing}
use Rattle.reassembly_plan.specs.declared.words.Entry.{Entry}
use Rattle.reassembly_plan.specs.declared.plan.Fragment.{Fragment}
use Rattle.reassembly_plan.proofs.Below.{count_le, count_more, all_at}

pub record SoundEntry (f : ℕ) (e : Entry) : Type 0 where
  pub counted : e.received ≡ count_below (bit e.ids) 16
  pub bounded : e.joined ≤ f * e.received

module _ (f : ℕ) (e : Entry) where
  pub entry_means : entry_sound f e ≡ true → SoundEntry f e
  unfolding entry_sound
  entry_means h =
      let p = each (eqb e.received (count_below (bit e.ids) 16)) (leb e.joined (f * e.received)) h in
      record { counted = eqb-true _ _ p.0; bounded = leb-true _ _ p.1 }

  pub entry_holds : SoundEntry f e → entry_sound f e ≡ true
  unfolding entry_sound
  entry_holds s = rw (eq-eqb e.received (count_below (bit e.ids) 16) s.counted, le-leb e.joined (f * e.received) s.bounded)

pub opened_sound : (f count : ℕ) → SoundEntry f (opened count)
unfolding count_below
opened_sound f count = record { counted = refl; bounded = omega arith }

-- an id below 16 that was not received leaves at most 15 that were
pub below_most : (f : ℕ) (e : Entry) (id : ℕ) → SoundEntry f e → id < 16 → bit e.ids id ≡ false → e.received + 1 ≤ 16
below_most f e id s h b =
    let p = bit e.ids in
    let n = count_more p (λ (k : ℕ). p k || eqb id k) id (λ k. refl) 16 h b in
    let l = count_le (λ (k : ℕ). p k || eqb id k) 16 in
    omega (arith, s.counted)

pub grown_sound : (f : ℕ) (e : Entry) (id len : ℕ) → SoundEntry f e → id < 16 → bit e.ids id ≡ false → len ≤ f → SoundEntry f (grown e id len)
grown_sound f e id len s h b l = record {
  counted = ap (λ (n : ℕ). n + 1) s.counted
      ∙ sym (count_more (bit e.ids) (bit (bit_or e.ids (1 * 2 ^ id))) id (bit-or e.ids id) 16 h b);
  bounded = longer e.received e.joined s.bounded;
}
  where
    longer : (r j : ℕ) → j ≤ f * r → j + len ≤ f * (r + 1)
    longer r j k = rw (mul_comm f (r + 1)) (omega (arith, mul_comm f r))

-- what a sound entry's joined length can be
pub at_most : (f r n j : ℕ) → j ≤ f * r → r ≤ n → j ≤ f * n
at_most f r n j h l = omega (arith, mul-le-mul_left {m = r} {n = n} f l)

pub found_sound : (f : ℕ) (slots entry : List ℕ) (g : Fragment) → Growing f slots entry → g.number.0 < 65536 → SoundEntry f (found (known slots g) entry (slot_of slots g) g.count)
unfolding found sound
found_sound f slots entry g r h =
    case (known slots g)
    (λ e.
    let k = slot_of slots g in
    let at = all_at (sound_at f slots entry) (length slots) k (each (all_below (sound_at f slots entry) (length slots)) (not (twice slots)) r.is_sound_lem).0 (mod-lt g.number.0 {m = length slots} r.some) in
    let n : get_or slots k 0 ≡ g.number.0 = eqb-true _ _ e in
    rw e (entry_means f (entry_of (get_or entry k 0)) (rw (lt-leb 65536 (get_or slots k 0) (omega arith)) at at)))
    (λ e. rw e (opened_sound f g.count))

-- the numbers of a sound entry are small
pub entry_small : (f : ℕ) (e : Entry) (len : ℕ) → SoundEntry f e → f ≤ 1024 → len ≤ f → (e.received < 255) × (e.joined + len ≤ 65535)
entry_small f e len s m l =
    let r : e.received ≤ 16 = omega (arith, s.counted, count_le (bit e.ids) 16) in
    let j = at_most f e.received 16 e.joined s.bounded r in
    (omega arith, omega arith)
