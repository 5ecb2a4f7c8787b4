-- A payload's fragments, presented in order to a fresh table, give it back. Assumes nothing.
use mathlib.Core.Path.{◌≡◌, refl, sym, ap, ◌∙◌}
use mathlib.Core.Bool.{Bool, true, false, cond, not}
use mathlib.Core.List.{List, ◌++◌}
use mathlib.Core.Logic.{inl, ⊎_elim}
use Prim.Native.Nat.{ℕ, zero, suc, ◌+◌, ◌*◌, ◌/◌, ◌%◌, ◌≤◌, ◌<◌}
use native.Mathlib.Nat.{suc-mul, zero-mul, add-zero, div-add-mod', mod-lt, mul-le-mul_right}
use native.Mathlib.Numerals.{add-one}
use native.Mathlib.Omega.{arith}
use lib.Dec.{ltb, eqb}
use lib.Pow.{pow_mono}
use lib.ListN.{length, get_or, set, take, drop, length-set, length-take, length-drop, length-replicate}
use lib.Seq.{get_or-set_same, take_at, take-add, take_all, take-length, length-take-le, drop-drop, paste, length-paste}
use borrow.Author.Tests.{eq-eqb, ne_eqb, le-ltb, lt-leb, ltb-false, eqb-false}
use Rattle.std.specs.Prelude.{Ok, Some, None}
use Rattle.laws.proofs.Cases.{case, lt_or_le}
use Rattle.laws.proofs.Bits.{bits_lt, bits_at}
use Rattle.laws.proofs.Paste.{part_other, part_same}
use Rattle.laws.proofs.Slots.{slot_end}
use Rattle.terms.specs.Sizes.{in_range}
use Rattle.terms.specs.declared.Sizes.{Sizes}
use Rattle.terms.proofs.Ranges.{in_range_means}
use Rattle.sequence_buffer.specs.Buffer.{none, fresh, holds, removed_slots}
use Rattle.splitter.specs.Split.{needed, split_of}
use Rattle.splitter.proofs.Pieces.{begins, piece_at, piece_count, piece_full, splits}
use Rattle.reassembly_plan.specs.Words.{entry_word, header_word}
use Rattle.reassembly_plan.specs.Plan.{found, grown, judged, passed, plan_of}
use Rattle.reassembly.specs.Effects.{State, slots_after, entry_after, header_after, bytes_after, output_after, performed, joined_answer, answer_of, written}
use Rattle.reassembly_plan.specs.Gate.{sound, too_short, gate_of}
use Rattle.reassembly.specs.Call.{decided, handled, told, output_of}
use Rattle.reassembly_plan.specs.declared.words.Entry.{Entry}
use Rattle.reassembly_plan.specs.declared.words.AckHeader.{AckHeader}
use Rattle.reassembly_plan.specs.declared.plan.Joining.{Joining}
use Rattle.reassembly_plan.specs.declared.plan.Plan.TheVariants.{Join}
use Rattle.fragmenter.specs.Present.{part, count_of, piece_of, presented, Ready, GivesBack}
use Rattle.fragmenter.proofs.Packed.{entry_again, header_again}
use Rattle.fragmenter.proofs.Keeping.{Kept, Keeps, made_slots, kept_call, kept_fresh, kept_sound}
use Rattle.fragmenter.proofs.Stages.{all_ids, stage, id_fresh, ids_more, stage_none, one_slot, inserted_first, holds_none, holds_one, length_one, removed_one}

-- an open gate
gate_open : (z : Sizes) (slots entry header bytes output : List ℕ)
    → in_range z ≡ true
    → too_short z.fragment_size z.reassembly_slots slots entry header bytes output ≡ false
    → sound z.fragment_size (take z.reassembly_slots slots) entry ≡ true
    → gate_of z slots entry header bytes output ≡ Ok tt
unfolding gate_of
gate_open z slots entry header bytes output a b d = rw (a, b, d)

not_short : (f c : ℕ) (slots entry header bytes output : List ℕ)
    → c ≤ length slots → c ≤ length entry → c ≤ length header → c * (16 * f) ≤ length bytes → 16 * f + 17 ≤ length output
    → too_short f c slots entry header bytes output ≡ false
unfolding too_short
not_short f c slots entry header bytes output p q r s t =
    rw (le-ltb (length slots) c p, le-ltb (length entry) c q, le-ltb (length header) c r, le-ltb (length bytes) (c * (16 * f)) s, le-ltb (length output) (16 * f + 17) t)

-- a payload that is split has at most M pieces
few_pieces : (z : Sizes) (n k : ℕ) → split_of z n ≡ Ok k → needed n z.fragment_size ≤ z.max_fragments
unfolding split_of
few_pieces z n k e =
    case (in_range z)
    (λ a.
    case (ltb 65535 n)
    (λ b. absurd (let h = rw (a, b) at e in let q : ◌≡◌ {A = ℕ} 0 1 = cc in omega arith))
    (λ b.
    case (ltb z.max_fragments (needed n z.fragment_size))
    (λ d. absurd (let h = rw (a, b, d) at e in let q : ◌≡◌ {A = ℕ} 0 1 = cc in omega arith))
    (λ d. ltb-false _ _ d)))
    (λ a. absurd (let h = rw a at e in let q : ◌≡◌ {A = ℕ} 0 1 = cc in omega arith))

-- the entry after k fragments of which so many bytes were joined
abbrev at_stage : ℕ → ℕ → ℕ → Entry
at_stage count k joined = record { total = count; received = k; ids = all_ids k; joined = joined }

grown_is : (f count k len : ℕ) → k < 16 → grown (stage f count k) k len ≡ at_stage count (suc k) (k * f + len)
grown_is f count k len h =
    let received_is : k + 1 ≡ suc k = add-one k in
    let ids-is = ids_more k h ∙ ap all_ids (add-one k) in
    λ i. record { total = count; received = received_is i; ids = ids-is i; joined = k * f + len }

-- as many bytes of a list as a part of it has
take_part : (f : ℕ) (x : List ℕ) → take (length (take f x)) x ≡ take f x
take_part f x =
    ⊎_elim
    (λ l. rw (take_all f x (omega arith)) (take-length x))
    (λ l. rw (length-take-le f x l))
    (lt_or_le (length x) f)

length_cond : (b : Bool) (l : List ℕ) (i v : ℕ) → length (cond b (set l i v) l) ≡ length l
length_cond true l i v = length-set l i v
length_cond false l i v = refl

ids_fit : (k : ℕ) → k ≤ 16 → all_ids k < 65536
ids_fit k h = omega (arith, bits_lt (λ (i : ℕ). true) k, pow_mono {i = k} {j = 16} h)

-- the pieces cover the payload
covers : (n f : ℕ) → 1 ≤ f → n ≤ needed n f * f
unfolding needed
covers n f some =
    let q = div-add-mod' n f in
    let m = mod-lt n {m = f} some in
    case (ltb 0 (n % f))
    (λ e. rw (e, add-one (n / f), suc-mul (n / f) f) (omega arith))
    (λ e. rw (e, add-zero (n / f)) (omega (arith, ltb-false 0 (n % f) e)))

module _ (z : Sizes) (s : State) (outputs : ℕ → List ℕ) (n : ℕ) (h : AckHeader) (payload : List ℕ) (r : Ready z s outputs n h payload) where
  -- the table t after the first k fragments
  pub record At (k : ℕ) (t : State) : Type 0 where
    pub keeps : Kept z.fragment_size z.reassembly_slots (take z.reassembly_slots t.slots) t.entry
    pub headers : z.reassembly_slots ≤ length t.header
    pub room : z.reassembly_slots * (16 * z.fragment_size) ≤ length t.bytes
    pub passes : passed (holds (take z.reassembly_slots t.slots) n) t.num (take z.reassembly_slots t.slots) n ≡ false
    pub entry_is : found (holds (take z.reassembly_slots t.slots) n) t.entry (n % length (take z.reassembly_slots t.slots)) (count_of z payload) ≡ stage z.fragment_size (count_of z payload) k
    pub slots_are : made_slots (not (holds (take z.reassembly_slots t.slots) n)) t.num (take z.reassembly_slots t.slots) n ≡ one_slot z.reassembly_slots n
    pub header_is : (k ≡ 0 → ⊥) → get_or t.header (n % z.reassembly_slots) 0 ≡ header_word h
    pub bytes_are : take (k * z.fragment_size) (drop (n % z.reassembly_slots * (16 * z.fragment_size)) t.bytes) ≡ take (k * z.fragment_size) payload

  few : count_of z payload ≤ 16
  few =
      let range = in_range_means z r.within_range in
      omega (arith, few_pieces z (length payload) (count_of z payload) r.can_split, piece_count z.fragment_size payload range.f.0, range.m.1)

  size_f : (k : ℕ) → k < count_of z payload → length (piece_of z payload k) ≤ z.fragment_size
  size_f k l = (splits.some z.fragment_size payload (in_range_means z r.within_range).f.0 k l).1

  -- what fragment k is to do
  joining : (k : ℕ) → State → Joining
  joining k t = record {
    made = not (holds (take z.reassembly_slots t.slots) n);
    at = k * z.fragment_size;
    entry = at_stage (count_of z payload) (suc k) (k * z.fragment_size + length (piece_of z payload k));
  }

  decided_is : (k : ℕ) (t : State) → At k t → k < count_of z payload
      → decided z t (outputs k) (part n h (count_of z payload) k) (length (piece_of z payload k)) ≡ Ok (Join (joining k t))
  unfolding decided plan_of judged joining
  decided_is k t at l =
      let f = z.fragment_size in
      let c = z.reassembly_slots in
      let long = at.keeps.home.long in
      let wide : c ≤ length t.slots = omega (arith, length-take c t.slots) in
      let short = not_short f c t.slots t.entry t.header t.bytes (outputs k) wide at.keeps.beside at.headers at.room (r.outputs_long k) in
      rw (
        gate_open z t.slots t.entry t.header t.bytes (outputs k) r.within_range short (kept_sound f c (take c t.slots) t.entry at.keeps),
        le-ltb f (length (piece_of z payload k)) (size_f k l),
        at.passes,
        at.entry_is,
        eq-eqb (count_of z payload) (count_of z payload) refl,
        lt-leb 16 k (omega (arith, few)),
        id_fresh k,
        grown_is f (count_of z payload) k (length (piece_of z payload k)) (omega (arith, few)),
      )

  -- how many bytes have joined, fragment k included
  end : ℕ → ℕ
  end k = k * z.fragment_size + length (piece_of z payload k)

  end_room : (k : ℕ) → k < count_of z payload → end k ≤ 16 * z.fragment_size
  unfolding end
  end_room k l =
      let f = z.fragment_size in
      omega (arith, size_f k l, suc-mul k f, mul-le-mul_right {m = suc k} {n = 16} f (omega (arith, few)))

  end_more : (k : ℕ) → suc k < count_of z payload → end k ≡ suc k * z.fragment_size
  unfolding end
  end_more k l =
      let f = z.fragment_size in
      omega (arith, suc-mul k f, piece_full f payload (in_range_means z r.within_range).f.0 k l)

  -- the bytes of the payload up to there
  end_bytes : (k : ℕ) → take (end k) payload ≡ take (k * z.fragment_size) payload ++ piece_of z payload k
  unfolding end
  end_bytes k =
      let f = z.fragment_size in
      let p = piece_at f payload (in_range_means z r.within_range).f.0 k in
      take-add (k * f) (length (piece_of z payload k)) payload
      ∙ ap (λ (l : List ℕ). take (k * f) payload ++ l) (rw p (take_part f (drop (k * f) payload)))

  abbrev room_at : ℕ
  room_at = n % z.reassembly_slots * (16 * z.fragment_size)

  fits : (k : ℕ) (t : State) → At k t → k < count_of z payload → room_at + k * z.fragment_size + length (piece_of z payload k) ≤ length t.bytes
  unfolding end
  fits k t at l =
      let c = z.reassembly_slots in
      omega (arith, slot_end (n % c) c (16 * z.fragment_size) (mod-lt n {m = c} (in_range_means z r.within_range).c.0), at.room, end_room k l)

  -- and of the room once fragment k has joined
  joined_bytes : (k : ℕ) (t : State) → At k t → k < count_of z payload
      → take (end k) (drop room_at (paste t.bytes (room_at + k * z.fragment_size) (piece_of z payload k) (length (piece_of z payload k)))) ≡ take (end k) payload
  unfolding end
  joined_bytes k t at l =
      let f = z.fragment_size in
      let c = z.reassembly_slots in
      let p = piece_of z payload k in
      let d = t.bytes in
      let new = paste d (room_at + k * f) p (length p) in
      let fits = fits k t at l in
      take-add (k * f) (length p) (drop room_at new)
      ∙ rw (part_other d (room_at + k * f) p (length p) room_at (k * f) fits (omega arith) (inl (omega arith)), drop-drop (k * f) room_at new, part_same d (room_at + k * f) p (length p) fits (omega arith), take-length p, at.bytes_are)
      (sym (end_bytes k))

  at_first : At 0 s
  unfolding Keeps passed found
  at_first =
      let c = z.reassembly_slots in
      let new = r.new in
      let absent = holds_none c n (in_range_means z r.within_range).c.0 r.number_fits in
      record {
        keeps = kept_fresh z s new;
        headers = r.headers_long;
        room = r.bytes_long;
        passes = rw (new.slots_none, new.num_zero, absent) r.young;
        entry_is = rw (new.slots_none, absent) (stage_none z.fragment_size (count_of z payload));
        slots_are = rw (new.slots_none, new.num_zero, absent) (inserted_first c n r.young);
        header_is = λ some. absurd (some refl);
        bytes_are = rw (zero-mul z.fragment_size);
      }

  -- what a call with fragment k leaves
  abbrev next : ℕ → State → State
  next k t = handled z t (outputs k) (part n h (count_of z payload) k) (piece_of z payload k)

  module _ (k : ℕ) (t : State) (at : At k t) (l : k < count_of z payload) where
    slot_is : n % length (take z.reassembly_slots t.slots) ≡ n % z.reassembly_slots
    slot_is = ap (λ (m : ℕ). n % m) at.keeps.home.long

    next-slots : (next k t).slots
        ≡ cond (eqb (suc k) (count_of z payload)) (removed_slots (one_slot z.reassembly_slots n) n) (one_slot z.reassembly_slots n) ++ drop z.reassembly_slots t.slots
    unfolding handled performed slots_after joining
    next-slots = rw (decided_is k t at l, at.slots_are)

    next-entry : (next k t).entry ≡ set t.entry (n % z.reassembly_slots) (entry_word (at_stage (count_of z payload) (suc k) (end k)))
    unfolding handled performed entry_after joining end
    next-entry = rw (decided_is k t at l, slot_is)

    next-header : (next k t).header ≡ cond (eqb k 0) (set t.header (n % z.reassembly_slots) (header_word h)) t.header
    unfolding handled performed header_after
    next-header = rw (decided_is k t at l, slot_is)

    next-bytes : (next k t).bytes ≡ paste t.bytes (room_at + k * z.fragment_size) (piece_of z payload k) (length (piece_of z payload k))
    unfolding handled performed bytes_after joining
    next-bytes = rw (decided_is k t at l, slot_is)

    -- fragment 0's header is there
    header-there : get_or (next k t).header (n % z.reassembly_slots) 0 ≡ header_word h
    header-there =
        let c = z.reassembly_slots in
        rw next-header
        (case (eqb k 0)
        (λ e. rw (e, get_or-set_same t.header (n % c) (header_word h) 0 (omega (arith, mod-lt n {m = c} (in_range_means z r.within_range).c.0, at.headers))))
        (λ e. rw e (at.header_is (eqb-false k 0 e))))

    bytes-there : take (end k) (drop room_at (next k t).bytes) ≡ take (end k) payload
    bytes-there = rw next-bytes (joined_bytes k t at l)

    called : Keeps z (next k t)
    unfolding Keeps
    called =
        kept_call z t
        (record { fragment = part n h (count_of z payload) k; payload = piece_of z payload k; output = outputs k; number_fits = r.number_fits; count_fits = omega (arith, few) })
        at.keeps

  -- with the last one all bytes have joined
  all_joined : (j : ℕ) → suc j ≡ count_of z payload → end j ≡ length payload
  unfolding end
  all_joined j e =
      let f = z.fragment_size in
      let some = (in_range_means z r.within_range).f.0 in
      let count = piece_count f payload some in
      let b = begins f j (length payload) some (omega arith) in
      let m = covers (length payload) f some in
      let u : length payload ≤ suc j * f = rw (e, count) m in
      rw (piece_at f payload some j) (simp (length-take, length-drop) (omega (arith, suc-mul j f)))

  whole_bytes : (k : ℕ) (t : State) → At k t → k < count_of z payload → suc k ≡ count_of z payload
      → take (length payload) (drop room_at (next k t).bytes) ≡ payload
  whole_bytes k t at l e =
      let long = all_joined k e in
      ap (λ (m : ℕ). take m (drop room_at (next k t).bytes)) (sym long) ∙ bytes-there k t at l ∙ ap (λ (m : ℕ). take m payload) long ∙ take-length payload

  at_next : (k : ℕ) (t : State) → At k t → suc k < count_of z payload → At (suc k) (next k t)
  unfolding Keeps passed found
  at_next k t at more =
      let f = z.fragment_size in
      let c = z.reassembly_slots in
      let count = count_of z payload in
      let some = (in_range_means z r.within_range).c.0 in
      let here = mod-lt n {m = c} some in
      let l : k < count = omega arith in
      let held : take c (next k t).slots ≡ one_slot c n =
      rw (next-slots k t at l, ne_eqb (suc k) count (λ e. omega arith)) (take_at (one_slot c n) (drop c t.slots) c (length_one c n)) in
      let again = entry_again (at_stage count (suc k) (end k)) (omega (arith, few)) (omega (arith, few)) (ids_fit (suc k) (omega (arith, few)))
      (omega (arith, end_room k l, (in_range_means z r.within_range).f.1)) in
      record {
        keeps = called k t at l;
        headers = rw (next-header k t at l, length_cond (eqb k 0) t.header (n % c) (header_word h)) at.headers;
        room = rw (next-bytes k t at l, length-paste t.bytes (room_at + k * f) (piece_of z payload k) (length (piece_of z payload k)) (fits k t at l) (omega arith)) at.room;
        passes = rw (held, holds_one c n some);
        entry_is =
            rw (held, holds_one c n some, length_one c n, next-entry k t at l, get_or-set_same t.entry (n % c) (entry_word (at_stage count (suc k) (end k))) 0 (omega (arith, at.keeps.beside)))
            (again ∙ ap (at_stage count (suc k)) (end_more k more));
        slots_are = rw (held, holds_one c n some);
        header_is = λ some. header-there k t at l;
        bytes_are =
            ap (λ (m : ℕ). take m (drop room_at (next k t).bytes)) (sym (end_more k more))
            ∙ bytes-there k t at l
            ∙ ap (λ (m : ℕ). take m payload) (end_more k more);
      }

  at_each : (k : ℕ) → k < count_of z payload → At k (presented z s outputs n h payload k)
  unfolding presented
  at_each zero l = at_first
  at_each (suc k) l = at_next k (presented z s outputs n h payload k) (at_each k (omega arith)) l

  -- before the last fragment
  pub waiting : (j : ℕ) → suc j < count_of z payload
      → (told z (presented z s outputs n h payload j) (outputs j) (part n h (count_of z payload) j) (piece_of z payload j) ≡ Ok None)
      × (output_of z (presented z s outputs n h payload j) (outputs j) (part n h (count_of z payload) j) (piece_of z payload j) ≡ outputs j)
  unfolding answer_of joined_answer output_after joining
  waiting j l =
      let t = presented z s outputs n h payload j in
      let d = decided_is j t (at_each j (omega arith)) (omega arith) in
      let less = ne_eqb (suc j) (count_of z payload) (λ e. omega arith) in
      (rw (d, less), rw (d, less))

  pub complete_one : (j : ℕ) → suc j ≡ count_of z payload
      → (told z (presented z s outputs n h payload j) (outputs j) (part n h (count_of z payload) j) (piece_of z payload j) ≡ Ok (Some (record { length = length payload; header = h })))
      × (output_of z (presented z s outputs n h payload j) (outputs j) (part n h (count_of z payload) j) (piece_of z payload j) ≡ written payload (outputs j))
      × (take z.reassembly_slots (presented z s outputs n h payload (suc j)).slots ≡ fresh z.reassembly_slots)
  unfolding answer_of joined_answer output_after joining presented end
  complete_one j e =
      let c = z.reassembly_slots in
      let t = presented z s outputs n h payload j in
      let l : j < count_of z payload = omega arith in
      let at = at_each j l in
      let d = decided_is j t at l in
      let full = eq-eqb (suc j) (count_of z payload) e in
      let first = bits_at (λ (i : ℕ). true) (suc j) 0 (omega arith) in
      let long : j * z.fragment_size + length (piece_of z payload j) ≡ length payload = all_joined j e in (
        rw (d, full, first, slot_is j t at l, header-there j t at l, header_again h r.header_fits.0 r.header_fits.1, long),
        rw (d, full, first, slot_is j t at l, long) (ap (λ (m : List ℕ). written m (outputs j)) (whole_bytes j t at l e)),
        rw (next-slots j t at l, full, removed_one c n (in_range_means z r.within_range).c.0) (take_at (fresh c) (drop c t.slots) c (length-replicate c none)),
      )

pub gives_back : GivesBack
gives_back = record { waits = waiting; whole = complete_one }
