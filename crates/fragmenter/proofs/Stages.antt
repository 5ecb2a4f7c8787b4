-- The table while a payload's fragments are presented in order: what its entry, slots, header and bytes are after k of them.
-- Assumes nothing.
use mathlib.Core.Path.{◌≡◌, refl, sym, ap, ◌∙◌}
use mathlib.Core.Bool.{Bool, true, false}
use mathlib.Core.List.{List, map}
use Prim.Native.Nat.{ℕ, zero, suc, ◌+◌, ◌*◌, ◌%◌, ◌^◌, ◌≤◌, ◌<◌}
use native.Mathlib.Nat.{zero-mul, div-eq_of_lt, mod-lt}
use native.Mathlib.Omega.{arith}
use lib.Bits.{bit_or}
use lib.Dec.{leb, eqb}
use lib.ListN.{length, set, length-set, length-replicate, get_or-replicate}
use lib.Pow.{shl_exact}
use lib.Seq.{get_or-set_same, set-set, set-get_or}
use borrow.Author.Tests.{eq-eqb, ne_eqb}
use Rattle.laws.specs.Bits.{bit, bits_below}
use Rattle.laws.proofs.Bits.{bits_zero, bits_lt, bits_taken}
use Rattle.laws.proofs.Cases.{case}
use Rattle.serial.specs.Order.{back}
use Rattle.sequence_buffer.specs.Buffer.{none, fresh, holds, too_old, moves, goes, emptied, advanced_slots, inserted_slots, removed_slots}
use Rattle.reassembly_plan.specs.Plan.{opened}
use Rattle.reassembly_plan.specs.declared.words.Entry.{Entry}

-- the ids below k
abbrev pub all_ids : ℕ → ℕ
all_ids k = bits_below (λ (i : ℕ). true) k

-- the entry after the first k fragments of f bytes
abbrev pub stage : ℕ → ℕ → ℕ → Entry
stage f count k = record { total = count; received = k; ids = all_ids k; joined = k * f }

pub id_fresh : (k : ℕ) → bit (all_ids k) k ≡ false
id_fresh k = ap (λ (x : ℕ). eqb (x % 2) 1) (div-eq_of_lt (bits_lt (λ (i : ℕ). true) k))

pub ids_more : (k : ℕ) → k < 16 → bit_or (all_ids k) (1 * 2 ^ k) ≡ all_ids (k + 1)
ids_more k h =
    ap (bit_or (all_ids k)) (sym (shl_exact {a = 1} 1 k 32 (omega arith) (omega arith)))
    ∙ bits_taken (λ (i : ℕ). true) k (all_ids k) refl (omega arith) refl

pub stage_none : (f count : ℕ) → opened count ≡ stage f count 0
stage_none f count =
    let ids-is : 0 ≡ all_ids 0 = sym (bits_zero (λ (i : ℕ). true)) in
    let joined_is : 0 ≡ 0 * f = sym (zero-mul f) in
    λ i. record { total = count; received = 0; ids = ids-is i; joined = joined_is i }

-- the slots that hold one number
abbrev pub one_slot : ℕ → ℕ → List ℕ
one_slot c n = set (fresh c) (n % c) n

emptied_none : (t : ℕ → Bool) (c : ℕ) → map (emptied t) (fresh c) ≡ fresh c
unfolding emptied
emptied_none t zero = refl
emptied_none t (suc c) = case (t none) (λ e. rw (e, emptied_none t c)) (λ e. rw (e, emptied_none t c))

pub inserted_first : (c n : ℕ) → too_old 0 (fresh c) n ≡ false → inserted_slots 0 (fresh c) n ≡ one_slot c n
unfolding inserted_slots advanced_slots
inserted_first c n young =
    rw young
    (case (moves 0 n)
    (λ e. rw (e, emptied_none (goes (leb (length (fresh c)) (back n 0)) 0 n) c, length-replicate c none))
    (λ e. rw (e, length-replicate c none)))

pub holds_none : (c n : ℕ) → 1 ≤ c → n < 65536 → holds (fresh c) n ≡ false
holds_none c n some h =
    rw (length-replicate c none, get_or-replicate c (n % c) none 0 (mod-lt n {m = c} some)) (ne_eqb none n (λ e. omega arith))

pub length_one : (c n : ℕ) → length (one_slot c n) ≡ c
length_one c n = length-set (fresh c) (n % c) n ∙ length-replicate c none

pub holds_one : (c n : ℕ) → 1 ≤ c → holds (one_slot c n) n ≡ true
holds_one c n some =
    rw (length_one c n, get_or-set_same (fresh c) (n % c) n 0 (rw (length-replicate c none) (mod-lt n {m = c} some))) (eq-eqb n n refl)

pub removed_one : (c n : ℕ) → 1 ≤ c → removed_slots (one_slot c n) n ≡ fresh c
unfolding removed_slots
removed_one c n some =
    rw (holds_one c n some, length_one c n)
    (set-set (fresh c) (n % c) n none
    ∙ ap (λ (x : ℕ). set (fresh c) (n % c) x) (sym (get_or-replicate c (n % c) none none (mod-lt n {m = c} some)))
    ∙ set-get_or (fresh c) (n % c) none)
