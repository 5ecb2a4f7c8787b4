-- A sound table stays sound, place by place. Assumes nothing.
--     fits_all                    no length is over its slot, from each place
--     twice_emptied, twice_set    no number stands twice
--     stays-..                    both, for each call
use Rattle.std.proofs.Common.{◌≡◌, ℕ, suc, ◌+◌, ◌*◌, ◌<◌, ◌≤◌, Bool, true, false, not, ◌&&◌, eqb, ltb, List, [], ◌∷◌, map, length, get_or, set, sym, refl, ap, ◌∙◌, ⊎_elim, suc-le-suc, zero-le, arith, length-set, get_or-set_other, get_or-set_same, ltb-false, ltb-true, le-ltb, lt-ltb, eqb-true}
use lib.ListN.{length-map}
use lib.Seq.{set_out, length-paste}
use borrow.Author.Tests.{eqb-false}
use Rattle.laws.proofs.Cases.{case, both, off, lt_or_le}
use Rattle.laws.proofs.Lists.{map_at}
use Rattle.laws.proofs.Slots.{slot_end}
use Rattle.keys.specs.Keys.{first_place, twice}
use Rattle.keys.proofs.Twice.{exact, all_apart}
use Rattle.sequence_buffer.specs.Buffer.{none, emptied}
use Rattle.key_parts.specs.Words.{no_packet}
use Rattle.flight.specs.Entry.{word_of, numbers_in, packed, length_of}
use Rattle.flight.specs.Places.{over_long, sound, place_of, full}
use Rattle.flight.specs.Acked.{is_acked, is_told}
use Rattle.flight.specs.View.{Flight, stored, acknowledged, without, Sound, Fits}
use Rattle.flight.specs.declared.SentPacket.{SentPacket}
use Rattle.flight.specs.declared.lost.Dropped.{Dropped}
use Rattle.flight.proofs.Found.{fits_at, first_at}
use Rattle.flight.proofs.Firsts.{first_min}
use Rattle.flight.proofs.Room.{place_le, full_place}
use Rattle.flight.proofs.Words.{length_word, number_word, numbers_length, numbers_set, numbers_out, numbers_emptied}

-- what `sound` says, and how it is shown
module _ (room : ℕ) (words : List ℕ) where
  pub sound_fits : sound room words ≡ true → over_long room words ≡ false
  unfolding sound
  sound_fits = go (over_long room words)
    where
      go : (b : Bool) → (not b && not (twice (numbers_in words))) ≡ true → b ≡ false
      go true e = sym e
      go false e = refl

  pub sound_once : sound room words ≡ true → twice (numbers_in words) ≡ false
  unfolding sound
  sound_once = go (over_long room words)
    where
      go : (b : Bool) → (not b && not (twice (numbers_in words))) ≡ true → twice (numbers_in words) ≡ false
      go true e = both {b = false} (sym (sym e)) refl
      go false e = off (twice (numbers_in words)) e

  pub sound_of : over_long room words ≡ false → twice (numbers_in words) ≡ false → sound room words ≡ true
  unfolding sound
  sound_of e q = rw (e, q)

pub fits_all : (room : ℕ) (words : List ℕ)
    → ((at : ℕ) → at < length words → get_or words at 0 < no_packet → length_of (get_or words at 0) ≤ room)
    → over_long room words ≡ false
unfolding over_long
fits_all room [] f = refl
fits_all room (w ∷ ws) f =
    ⊎_elim
    (λ v. rw (lt-ltb w no_packet v, le-ltb room (length_of w) (f 0 (suc-le-suc zero-le) v)) (fits_all room ws (λ at h. f (suc at) (suc-le-suc h))))
    (λ v. rw (le-ltb w no_packet v) (fits_all room ws (λ at h. f (suc at) (suc-le-suc h))))
    (lt_or_le w no_packet)

-- no two places of a column in which no number stands twice hold the same one
pub apart : (l : List ℕ) → twice l ≡ false → (i j : ℕ) → i < j → j < length l → get_or l i 0 < 65536 → get_or l i 0 ≡ get_or l j 0 → ⊥
apart l t i j before within key same =
    both (exact.if_same l (record { first = i; second = j; before = before; within = within; key = key; same = same })) t

-- an entry that is still something was not emptied
still : (t : ℕ → Bool) (x : ℕ) → emptied t x < none → emptied t x ≡ x
unfolding emptied
still t x = case (t x) (λ e. rw e (λ h. absurd (omega arith))) (λ e. rw e (λ h. refl))

pub twice_emptied : (t : ℕ → Bool) (l : List ℕ) → twice l ≡ false → twice (map (emptied t) l) ≡ false
twice_emptied t l e =
    all_apart (map (emptied t) l)
    (λ i j before within key same.
    let long = length-map l (emptied t) in
    let a = map_at (emptied t) l i (omega arith) in
    let b = map_at (emptied t) l j (omega arith) in
    let p = still t (get_or l i 0) (omega arith) in
    let q = still t (get_or l j 0) (omega arith) in
    apart l e i j before (omega arith) (omega arith) (omega arith))

pub twice_set : (l : List ℕ) (k v : ℕ) → k < length l → twice l ≡ false
    → (v < 65536 → (j : ℕ) → j < length l → (j ≡ k → ⊥) → get_or l j 0 ≡ v → ⊥)
    → twice (set l k v) ≡ false
twice_set l k v h t alone =
    all_apart (set l k v)
    (λ i j before within key same.
    let long = length-set l k v in
    let here = get_or-set_same l k v 0 h in
    case (eqb i k)
    (λ p.
    let z : i ≡ k = eqb-true i k p in
    let at_i : get_or (set l k v) i 0 ≡ v = ap (λ (x : ℕ). get_or (set l k v) x 0) z ∙ here in
    let at_j = get_or-set_other l k j v 0 (λ q. omega arith) in
    alone (omega arith) j (omega arith) (λ q. omega arith) (omega arith))
    (λ p.
    let at_i = get_or-set_other l k i v 0 (eqb-false i k p) in
    case (eqb j k)
    (λ q.
    let z : j ≡ k = eqb-true j k q in
    let at_j : get_or (set l k v) j 0 ≡ v = ap (λ (x : ℕ). get_or (set l k v) x 0) z ∙ here in
    alone (omega arith) i (omega arith) (eqb-false i k p) (omega arith))
    (λ q.
    let at_j = get_or-set_other l k j v 0 (eqb-false j k q) in
    apart l t i j before (omega arith) (omega arith) (omega arith))))

-- a number stands nowhere but at its place
pub lone : (n : ℕ) (l : List ℕ) → 1 ≤ length l → n < 65536 → twice l ≡ false → place_of n l < length l → (j : ℕ) → j < length l → (j ≡ place_of n l → ⊥) → get_or l j 0 ≡ n → ⊥
unfolding place_of
lone n l some v t =
    case (ltb (first_place n l) (length l))
    (λ e.
    rw e
    (λ h j within off-place at_j.
    let at = first_at n l (ltb-true (first_place n l) (length l) e) in
    ⊎_elim
    (λ less. apart l t j (first_place n l) less h (omega arith) (omega arith))
    (λ least. apart l t (first_place n l) j (⊎_elim (λ less. less) (λ more. absurd (off-place (omega arith))) (lt_or_le (first_place n l) j)) within (omega arith) (omega arith))
    (lt_or_le j (first_place n l))))
    (λ e.
    rw e
    (λ h j within off-place at_j. omega (arith, first_min n l j within at_j, ltb-false (first_place n l) (length l) e)))

module _ (room : ℕ) (f : Flight) (s : Sound room f) where
  fits : over_long room f.number ≡ false
  fits = sound_fits room f.number s.not_13

  once : twice (numbers_in f.number) ≡ false
  once = sound_once room f.number s.not_13

  pub stays_acked : (acked field : ℕ) → Sound room (acknowledged f acked field)
  stays_acked acked field =
      let t = is_told acked field in
      let long = length-map f.number (emptied t) in
      record {
        some_place = rw long s.some_place;
        recorded = rw long s.recorded;
        slots = rw long s.slots;
        not_13 = sound_of room (map (emptied t) f.number)
            (fits_all room (map (emptied t) f.number)
            (λ at h key.
            let a = map_at (emptied t) f.number at (omega arith) in
            let p = still t (get_or f.number at 0) (omega arith) in
            rw (a, p) (fits_at room f.number at fits (omega arith) (omega arith))))
            (rw (numbers_emptied (is_acked acked field) f.number) (twice_emptied (is_acked acked field) (numbers_in f.number) once));
      }

  pub stays_dropped : (d : Dropped) → Sound room (without f d)
  stays_dropped d =
      let k = first_place d.number.0 (numbers_in f.number) in
      let long = length-set f.number k none in
      let keys = numbers_length f.number in
      record {
        some_place = rw long s.some_place;
        recorded = rw long s.recorded;
        slots = rw long s.slots;
        not_13 = sound_of room (set f.number k none)
            (fits_all room (set f.number k none)
            (λ at h key.
            case (eqb at k)
            (λ p.
            let z : at ≡ k = eqb-true at k p in
            absurd (omega (arith, get_or-set_same f.number k none 0 (omega arith), ap (λ (x : ℕ). get_or (set f.number k none) x 0) z)))
            (λ p.
            let same = get_or-set_other f.number k at none 0 (eqb-false at k p) in
            rw same (fits_at room f.number at fits (omega arith) (omega (arith, same, key))))))
            (rw (numbers_out f.number k)
            (⊎_elim
            (λ h. twice_set (numbers_in f.number) k none h once (λ key. absurd (omega arith)))
            (λ h. rw (set_out (numbers_in f.number) k none h) once)
            (lt_or_le k (length (numbers_in f.number)))));
      }

  module _ (n : ℕ) (sent : SentPacket) (payload : List ℕ) (number : n < 65536) (small : Fits room sent payload) (roomy : full n (numbers_in f.number) ≡ false) where
    some_number : 1 ≤ length (numbers_in f.number)
    some_number = rw (numbers_length f.number) s.some_place

    pub place-within : place_of n (numbers_in f.number) < length f.number
    place-within =
        let le = place_le n (numbers_in f.number) some_number in
        let apart = eqb-false (place_of n (numbers_in f.number)) (length (numbers_in f.number)) (sym (full_place n (numbers_in f.number) some_number) ∙ roomy) in
        let keys = numbers_length f.number in
        ⊎_elim (λ h. h) (λ h. absurd (apart (omega arith))) (lt_or_le (place_of n (numbers_in f.number)) (length f.number))

    pub slot-within : place_of n (numbers_in f.number) * room + room ≤ length f.bytes
    slot-within = omega (arith, slot_end (place_of n (numbers_in f.number)) (length f.number) room place-within, s.slots)

    pub stays-stored : Sound room (stored room f n sent payload)
    stays-stored =
        let k = place_of n (numbers_in f.number) in
        let w = word_of n (length payload) in
        let long = length-set f.number k w in
        let wide = length-set f.records k (packed sent) in
        let keys = numbers_length f.number in
        let h = place-within in
        let h' : place_of n (numbers_in f.number) < length (numbers_in f.number) = omega arith in
        record {
          some_place = rw long s.some_place;
          recorded = rw (long, wide) s.recorded;
          slots = rw (long, length-paste f.bytes (k * room) payload (length payload) (omega (arith, slot-within, small.slot)) (omega arith)) s.slots;
          not_13 = sound_of room (set f.number k w)
              (fits_all room (set f.number k w)
              (λ at q key.
              case (eqb at k)
              (λ p.
              rw (eqb-true at k p, get_or-set_same f.number k w 0 h, length_word n (length payload) small.word) small.slot)
              (λ p.
              let same = get_or-set_other f.number k at w 0 (eqb-false at k p) in
              rw same (fits_at room f.number at fits (omega arith) (omega (arith, same, key))))))
              (rw (numbers_set f.number k w, number_word n (length payload) number small.word)
              (twice_set (numbers_in f.number) k n h' once (λ key. lone n (numbers_in f.number) some_number number once h')));
        }
