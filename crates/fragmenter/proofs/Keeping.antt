-- A table of which every number stands in its own slot, and every entry beside a number is sound, stays so. Assumes nothing.
use mathlib.Core.Path.{◌≡◌, refl, sym, ap, ◌∙◌}
use mathlib.Core.Bool.{Bool, true, false, cond}
use mathlib.Core.List.{List, [], ◌∷◌}
use Prim.Native.Nat.{ℕ, ◌+◌, ◌*◌, ◌%◌, ◌^◌, ◌≤◌, ◌<◌}
use native.Mathlib.Nat.{one-mul}
use native.Mathlib.Omega.{arith}
use lib.Bits.{or_lt}
use lib.Dec.{ltb, leb, eqb}
use lib.ListN.{length, get_or, set, take, drop, length-set, get_or-replicate}
use lib.Pow.{pow-lt}
use lib.Seq.{get_or-set_same, get_or-set_other, take_at}
use borrow.Author.Tests.{eqb-true, eqb-false, ltb-false, leb-false}
use Rattle.std.specs.Prelude.{Result, Ok, Err, ⊤}
use Rattle.laws.proofs.Cases.{case, both}
use Rattle.laws.proofs.Lists.{map_at}
use Rattle.serial.specs.Order.{back}
use Rattle.terms.specs.Sizes.{in_range}
use Rattle.terms.specs.declared.Sizes.{Sizes}
use Rattle.terms.specs.declared.Refusal.TheVariants.{BadState}
use Rattle.sequence_buffer.specs.Buffer.{none, holds, too_old, moves, goes, emptied, advanced_slots, inserted_slots, removed_slots}
use Rattle.sequence_buffer.proofs.Home.{Home, home_apart, home_fresh, home_inserted, home_removed}
use Rattle.sequence_buffer.proofs.Held.{length_inserted}
use Rattle.reassembly_plan.specs.Words.{entry_of, entry_word}
use Rattle.reassembly_plan.specs.Plan.{slot_of, known, opened, found, grown, plan_of}
use Rattle.reassembly.specs.Effects.{State, complete, slots_after, entry_after, performed}
use Rattle.reassembly_plan.specs.Gate.{entry_sound, sound_at, sound, too_short, gate_of}
use Rattle.reassembly.specs.Call.{plan_at, decided, handled}
use Rattle.reassembly_plan.specs.Table.{Growing}
use Rattle.reassembly_plan.specs.declared.plan.Fragment.{Fragment}
use Rattle.reassembly_plan.specs.declared.plan.Joining.{Joining}
use Rattle.reassembly_plan.specs.declared.plan.Plan.{Plan}
use Rattle.reassembly_plan.specs.declared.plan.Plan.TheVariants.{Make, Join}
use Rattle.reassembly_plan.proofs.Below.{all_of}
use Rattle.reassembly_plan.proofs.Sound.{entry_holds, opened_sound, grown_sound, found_sound, below_most, at_most}
use Rattle.reassembly.proofs.Planned.{plan_joins}
use Rattle.reassembly_plan.proofs.Opening.{gate_opens}
use Rattle.reassembly.proofs.Passing.{open_room}
use Rattle.fragmenter.specs.Runs.{Call, after, Fresh, StaysSound}
use Rattle.fragmenter.proofs.Packed.{entry_again}
use Rattle.terms.specs.declared.Refusal.{Refusal}

-- what stands in another slot after an insert stood there before
emptied_number : (t : ℕ → Bool) (x : ℕ) → emptied t x < 65536 → emptied t x ≡ x
unfolding emptied
emptied_number t x = case (t x) (λ e. rw e (λ h. absurd (omega arith))) (λ e. rw e (λ h. refl))

advanced_at : (num : ℕ) (slots : List ℕ) (n i : ℕ) → i < length slots → get_or (advanced_slots num slots n) i 0 < 65536 → get_or (advanced_slots num slots n) i 0 ≡ get_or slots i 0
unfolding advanced_slots
advanced_at num slots n i h =
    case (moves num n)
    (λ e. rw (e, map_at (emptied (goes (leb (length slots) (back n num)) num n)) slots i h) (emptied_number (goes (leb (length slots) (back n num)) num n) (get_or slots i 0)))
    (λ e. rw e (λ l. refl))

pub inserted_at : (num : ℕ) (slots : List ℕ) (n i : ℕ) → i < length slots → (i ≡ n % length slots → ⊥) → get_or (inserted_slots num slots n) i 0 < 65536 → get_or (inserted_slots num slots n) i 0 ≡ get_or slots i 0
unfolding inserted_slots
inserted_at num slots n i h apart =
    case (too_old num slots n)
    (λ e. rw e (λ l. refl))
    (λ e. rw (e, get_or-set_other (advanced_slots num slots n) (n % length slots) i n 0 apart) (advanced_at num slots n i h))

pub removed_at : (slots : List ℕ) (n i : ℕ) → (i ≡ n % length slots → ⊥) → get_or (removed_slots slots n) i 0 ≡ get_or slots i 0
unfolding removed_slots
removed_at slots n i apart = case (holds slots n) (λ e. rw (e, get_or-set_other slots (n % length slots) i none 0 apart)) (λ e. rw e)

pub record Kept (f c : ℕ) (slots entry : List ℕ) : Type 0 where
  pub home : Home c slots
  pub beside : c ≤ length entry
  pub each_sound_lem : (i : ℕ) → i < c → get_or slots i 0 < 65536 → entry_sound f (entry_of (get_or entry i 0)) ≡ true

-- a sound entry is written beside slot k, and the other slots hold no number that they did not hold
kept_set : (f c : ℕ) (slots entry new : List ℕ) (k w : ℕ)
    → Kept f c slots entry
    → Home c new
    → ((i : ℕ) → i < c → (i ≡ k → ⊥) → get_or new i 0 < 65536 → get_or new i 0 ≡ get_or slots i 0)
    → entry_sound f (entry_of w) ≡ true
    → Kept f c new (set entry k w)
kept_set f c slots entry new k w was home others good = record {
  home = home;
  beside = rw (length-set entry k w) was.beside;
  each_sound_lem = λ i h v.
      case (eqb i k)
      (λ e. let z : i ≡ k = eqb-true i k e in rw (z, get_or-set_same entry k w 0 (omega (arith, was.beside))) good)
      (λ e.
      let apart = eqb-false i k e in
      rw (get_or-set_other entry k i w 0 apart) (was.each_sound_lem i h (omega (arith, others i h apart v))));
}

-- a plan that changes the table was made at an open gate
acts : Result Plan Refusal → Bool
acts (Err why) = false
acts (Ok Make) = true
acts (Ok (Join j)) = true

module _ (z : Sizes) (s : State) (output : List ℕ) (g : Fragment) (len : ℕ) (plan : Result Plan Refusal) (active : acts plan ≡ true) where
  open_gate : (t : Result ⊤ Refusal) → plan_at t z s g len ≡ plan
      → (t ≡ Ok tt) × (len ≤ z.fragment_size) × (plan_of s.num (take z.reassembly_slots s.slots) s.entry g len ≡ plan)
  unfolding acts
  open_gate (Err why) e = both active (sym (ap acts e))
  open_gate (Ok tt) e =
      case (ltb z.fragment_size len)
      (λ h. both active (sym (ap acts (rw h at e))))
      (λ h. (refl, ltb-false z.fragment_size len h, rw h at e))

  planned : decided z s output g len ≡ plan
      → (gate_of z s.slots s.entry s.header s.bytes output ≡ Ok tt) × (len ≤ z.fragment_size)
      × (plan_of s.num (take z.reassembly_slots s.slots) s.entry g len ≡ plan)
  unfolding decided
  planned e = open_gate (gate_of z s.slots s.entry s.header s.bytes output) e

found_ids : (there : Bool) (entry : List ℕ) (k count : ℕ) → (found there entry k count).ids < 65536
unfolding found
found_ids true entry k count = omega arith
found_ids false entry k count = omega arith

-- the entry that a fragment makes of the one it found is sound, also as it is read again
joined_sound : (f : ℕ) (slots entry : List ℕ) (g : Fragment) (num len : ℕ) (j : Joining)
    → Growing f slots entry
    → g.number.0 < 65536
    → g.count < 256
    → len ≤ f
    → plan_of num slots entry g len ≡ Ok (Join j)
    → entry_sound f (entry_of (entry_word j.entry)) ≡ true
joined_sound f slots entry g num len j room n c l e =
    let was = found (known slots g) entry (slot_of slots g) g.count in
    let p = plan_joins f num slots entry g len j e in
    let fine = found_sound f slots entry g room n in
    let more = grown_sound f was g.id len fine p.small p.fresh_id l in
    let few = below_most f was g.id fine p.small p.fresh_id in
    let short = at_most f (was.received + 1) 16 (was.joined + len) more.bounded few in
    let ids = or_lt 16 was.ids (1 * 2 ^ g.id) (found_ids (known slots g) entry (slot_of slots g) g.count) (rw (one-mul (2 ^ g.id)) (pow-lt {i = g.id} {j = 16} p.small)) in
    rw (p.is, entry_again (grown was g.id len) (omega (arith, p.same_count)) (omega arith) ids (omega (arith, room.f_most)))
    (entry_holds f (grown was g.id len) more)

opened_again : (f count : ℕ) → count < 256 → entry_sound f (entry_of (entry_word (opened count))) ≡ true
opened_again f count h =
    rw (entry_again (opened count) h (omega arith) (omega arith) (omega arith)) (entry_holds f (opened count) (opened_sound f count))

-- the slots once a fragment has joined: an entry may have been made, and may be gone
abbrev pub made_slots : Bool → ℕ → List ℕ → ℕ → List ℕ
made_slots made num slots n = cond made (inserted_slots num slots n) slots

home_joined : (made whole : Bool) (c num : ℕ) (slots : List ℕ) (n : ℕ) → Home c slots
    → Home c (cond whole (removed_slots (made_slots made num slots n) n) (made_slots made num slots n))
home_joined true true c num slots n h = home_removed c (inserted_slots num slots n) n (home_inserted c num slots n h)
home_joined true false c num slots n h = home_inserted c num slots n h
home_joined false true c num slots n h = home_removed c slots n h
home_joined false false c num slots n h = h

joined_at : (made whole : Bool) (c num : ℕ) (slots : List ℕ) (n i : ℕ) → length slots ≡ c → i < c → (i ≡ n % length slots → ⊥)
    → get_or (cond whole (removed_slots (made_slots made num slots n) n) (made_slots made num slots n)) i 0 < 65536
    → get_or (cond whole (removed_slots (made_slots made num slots n) n) (made_slots made num slots n)) i 0 ≡ get_or slots i 0
joined_at true true c num slots n i l h apart =
    let long = length_inserted num slots n in
    rw (removed_at (inserted_slots num slots n) n i (λ e. apart (e ∙ ap (λ (m : ℕ). n % m) long))) (inserted_at num slots n i (omega arith) apart)
joined_at true false c num slots n i l h apart = inserted_at num slots n i (omega arith) apart
joined_at false true c num slots n i l h apart = λ v. removed_at slots n i apart
joined_at false false c num slots n i l h apart = λ v. refl

-- a call keeps the table
module _ (z : Sizes) (s : State) (output : List ℕ) (g : Fragment) (len : ℕ) (number_fits : g.number.0 < 65536) (count_fits : g.count < 256) where
  pub kept_plan : (plan : Result Plan Refusal)
      → decided z s output g len ≡ plan
      → Kept z.fragment_size z.reassembly_slots (take z.reassembly_slots s.slots) s.entry
      → Kept z.fragment_size z.reassembly_slots
      (slots_after plan s.num (take z.reassembly_slots s.slots) g.number.0)
      (entry_after plan g.count (slot_of (take z.reassembly_slots s.slots) g) s.entry)
  unfolding slots_after entry_after acts
  kept_plan (Err why) e was = was
  kept_plan (Ok Make) e was =
      let f = z.fragment_size in
      let c = z.reassembly_slots in
      let slots = take c s.slots in
      let n = g.number.0 in
      let long = was.home.long in
      kept_set f c slots s.entry (inserted_slots s.num slots n) (slot_of slots g) _ was
      (home_inserted c s.num slots n was.home)
      (λ i h apart v. inserted_at s.num slots n i (omega arith) apart v)
      (opened_again f g.count count_fits)
  kept_plan (Ok (Join j)) e was =
      let f = z.fragment_size in
      let c = z.reassembly_slots in
      let slots = take c s.slots in
      let n = g.number.0 in
      let p = planned z s output g len (Ok (Join j)) refl e in
      let o = gate_opens z s.slots s.entry s.header s.bytes output p.0 in
      let room = (open_room z s.slots s.entry s.header s.bytes output s.num o).table in
      kept_set f c slots s.entry _ (slot_of slots g) _ was
      (home_joined j.made (complete j.entry) c s.num slots n was.home)
      (λ i h apart v. joined_at j.made (complete j.entry) c s.num slots n i was.home.long h apart v)
      (joined_sound f slots s.entry g s.num len j room number_fits count_fits p.1 p.2)

unfoldable pub Keeps : Sizes → State → Type 0
Keeps z s = Kept z.fragment_size z.reassembly_slots (take z.reassembly_slots s.slots) s.entry

pub kept_call : (z : Sizes) (s : State) (c : Call) → Keeps z s → Keeps z (handled z s c.output c.fragment c.payload)
unfolding Keeps handled performed
kept_call z s c was =
    let g = c.fragment in
    let new = kept_plan z s c.output g (length c.payload) c.number_fits c.count_fits (decided z s c.output g (length c.payload)) refl was in
    rw (take_at _ (drop z.reassembly_slots s.slots) z.reassembly_slots new.home.long) new

kept_calls : (z : Sizes) (s : State) (calls : List Call) → Keeps z s → Keeps z (after z s calls)
unfolding after
kept_calls z s [] was = was
kept_calls z s (c ∷ calls) was = kept_calls z (handled z s c.output c.fragment c.payload) calls (kept_call z s c was)

pub kept_fresh : (z : Sizes) (s : State) → Fresh z s → Keeps z s
unfolding Keeps
kept_fresh z s new =
    let c = z.reassembly_slots in
    record {
      home = rw new.slots_none (home_fresh c);
      beside = new.entries;
      each_sound_lem = λ i h. rw (new.slots_none, get_or-replicate c i none 0 h) (λ v. absurd (omega arith));
    }

pub kept_sound : (f c : ℕ) (slots entry : List ℕ) → Kept f c slots entry → sound f slots entry ≡ true
unfolding sound
kept_sound f c slots entry k =
    let long = k.home.long in
    rw (
      home_apart c slots k.home,
      all_of (sound_at f slots entry) (length slots)
          (λ i h.
          case (leb 65536 (get_or slots i 0))
          (λ e. rw e)
          (λ e. rw e (k.each_sound_lem i (omega arith) (leb-false 65536 (get_or slots i 0) e)))),
    )

-- a sound table is not refused 13

never : (z : Sizes) (slots entry header bytes output : List ℕ) → sound z.fragment_size (take z.reassembly_slots slots) entry ≡ true
    → gate_of z slots entry header bytes output ≡ Err BadState → ⊥
unfolding gate_of
never z slots entry header bytes output good e =
    case (in_range z)
    (λ a.
    case (too_short z.fragment_size z.reassembly_slots slots entry header bytes output)
    (λ b. let h = rw (a, b) at e in let q : ◌≡◌ {A = ℕ} 0 1 = cc in omega arith)
    (λ b. let h = rw (a, b, good) at e in let q : ◌≡◌ {A = ℕ} 0 1 = cc in omega arith))
    (λ a. let h = rw a at e in let q : ◌≡◌ {A = ℕ} 0 1 = cc in omega arith)

pub stays : StaysSound
unfolding Keeps
stays = record {
  never = λ z s new calls output.
      never z (after z s calls).slots (after z s calls).entry (after z s calls).header (after z s calls).bytes output
      (kept_sound z.fragment_size z.reassembly_slots (take z.reassembly_slots (after z s calls).slots) (after z s calls).entry (kept_calls z s calls (kept_fresh z s new)));
}
