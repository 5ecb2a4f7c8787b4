-- What a plan to join says of the entry and the fragment, and that the fragment then has room. Assumes nothing.
use mathlib.Core.Path.{◌≡◌}
use mathlib.Core.Bool.{Bool, false, not}
use mathlib.Core.List.{List}
use Prim.Native.Nat.{ℕ, ◌+◌, ◌*◌, ◌≤◌, ◌<◌}
use native.Mathlib.Omega.{arith}
use lib.Dec.{leb, eqb}
use borrow.Author.Tests.{eqb-true, leb-false}
use Rattle.std.specs.Prelude.{Result, Ok}
use Rattle.laws.specs.Bits.{bit}
use Rattle.laws.proofs.Cases.{case, no_answer}
use Rattle.terms.specs.declared.Refusal.{Refusal}
use Rattle.reassembly_plan.specs.Plan.{slot_of, known, found, grown, place_of, judged, passed, plan_of}
use Rattle.reassembly.specs.Effects.{length_of}
use Rattle.reassembly_plan.specs.Table.{Growing}
use Rattle.reassembly_plan.specs.declared.words.Entry.{Entry}
use Rattle.reassembly_plan.specs.declared.plan.Fragment.{Fragment}
use Rattle.reassembly_plan.specs.declared.plan.Joining.{Joining}
use Rattle.reassembly_plan.specs.declared.plan.Plan.{Plan}
use Rattle.reassembly_plan.specs.declared.plan.Plan.TheVariants.{Make, Join}
use Rattle.reassembly_plan.proofs.Sound.{found_sound, grown_sound, below_most, at_most}

-- the fragment joins an entry
pub record Joins (there : Bool) (e : Entry) (g : Fragment) (len : ℕ) (j : Joining) : Type 0 where
  pub same_count : e.total ≡ g.count
  pub small : g.id < 16
  pub fresh_id : bit e.ids g.id ≡ false
  pub is : j ≡ record { made = not there; at = place_of e; entry = grown e g.id len }

made_only : {G : Type 0} (j : Joining) → ◌≡◌ {A = Result Plan Refusal} (Ok Make) (Ok (Join j)) → G
made_only j e = absurd (let z : ◌≡◌ {A = ℕ} 0 1 = cc in omega arith)

same : (i j : Joining) → ◌≡◌ {A = Result Plan Refusal} (Ok (Join i)) (Ok (Join j)) → j ≡ i
same i j e = cc

judged_joins : (there : Bool) (e : Entry) (g : Fragment) (len : ℕ) (j : Joining) → judged there e g len ≡ Ok (Join j) → Joins there e g len j
unfolding judged
judged_joins there e g len j h =
    case (eqb e.total g.count)
    (λ a.
    case (leb 16 g.id)
    (λ b. case there (λ t. no_answer (rw (a, b, t) at h)) (λ t. made_only j (rw (a, b, t) at h)))
    (λ b.
    case (bit e.ids g.id)
    (λ d. no_answer (rw (a, b, d) at h))
    (λ d. record { same_count = eqb-true _ _ a; small = leb-false 16 g.id b; fresh_id = d; is = same _ j (rw (a, b, d) at h) })))
    (λ a. no_answer (rw a at h))

module _ (f num : ℕ) (slots entry : List ℕ) (g : Fragment) (len : ℕ) (j : Joining) (planned : plan_of num slots entry g len ≡ Ok (Join j)) where
  pub plan_joins : Joins (known slots g) (found (known slots g) entry (slot_of slots g) g.count) g len j
  unfolding plan_of
  plan_joins =
      case (passed (known slots g) num slots g.number.0)
      (λ p. no_answer (rw p at planned))
      (λ p. judged_joins (known slots g) (found (known slots g) entry (slot_of slots g) g.count) g len j (rw p at planned))

  pub plan_fits : Growing f slots entry → g.number.0 < 65536 → len ≤ f → (j.at + len ≤ 16 * f) × (length_of j.entry ≤ 16 * f)
  plan_fits r n l =
      let e = found (known slots g) entry (slot_of slots g) g.count in
      let p = plan_joins in
      let s = found_sound f slots entry g r n in
      let t = grown_sound f e g.id len s p.small p.fresh_id l in
      let b = at_most f (e.received + 1) 16 (e.joined + len) t.bounded (below_most f e g.id s p.small p.fresh_id) in
      rw p.is (omega arith, omega arith)
