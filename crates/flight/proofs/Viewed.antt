-- What each call makes of what is in flight, number by number. Assumes nothing.
use Rattle.std.proofs.Common.{◌≡◌, ℕ, ◌*◌, ◌<◌, ◌≤◌, false, cond, eqb, ltb, List, map, length, get_or, set, sym, refl, ap, ◌∙◌, ⊎_elim, arith, length-set, get_or-set_other, get_or-set_same, ltb-false, le-ltb, lt-ltb, eqb-true, Some, None}
use lib.ListN.{length-map}
use lib.Seq.{paste}
use borrow.Author.Tests.{eqb-false}
use Rattle.laws.proofs.Cases.{case, lt_or_le}
use Rattle.laws.proofs.Lists.{map_at}
use Rattle.laws.proofs.Slots.{paste_read, slot_end, slot_other}
use Rattle.keys.specs.Keys.{first_place}
use Rattle.sequence_buffer.specs.Buffer.{emptied}
use Rattle.flight.specs.Entry.{word_of, number_in, numbers_in, packed, packet_of, length_of, bytes_at}
use Rattle.flight.specs.Places.{place_of, full}
use Rattle.flight.specs.Acked.{is_acked, is_told}
use Rattle.flight.specs.View.{Flight, in_flight, entry_at, view, stored, acknowledged, Sound, Fits}
use Rattle.flight.specs.declared.SentPacket.{SentPacket}
use Rattle.flight.proofs.Found.{first_at, fits_at}
use Rattle.flight.proofs.Firsts.{first_put, first_put_other, first_kept, first_gone}
use Rattle.flight.proofs.Room.{place_means}
use Rattle.flight.proofs.Packing.{packet_packed}
use Rattle.flight.proofs.Words.{is_number, length_word, number_word, numbers_length, numbers_at, numbers_set, numbers_emptied, stays_word}
use Rattle.flight.proofs.Stays.{sound_fits, place-within, slot-within}

-- a number that is in flight, and one that is not
pub seen : (room : ℕ) (f : Flight) (m at : ℕ) → first_place m (numbers_in f.number) ≡ at → at < length f.number → view room f m ≡ Some (entry_at room f at)
unfolding view in_flight
seen room f m at e h = rw (e, lt-ltb at (length f.number) h)

pub unseen : (room : ℕ) (f : Flight) (m : ℕ) → length f.number ≤ first_place m (numbers_in f.number) → view room f m ≡ None
unfolding view in_flight
unseen room f m h = rw (le-ltb (first_place m (numbers_in f.number)) (length f.number) h)

-- two tables that agree on a number's place, and on what stands there
pub alike : (room : ℕ) (f g : Flight) (m : ℕ)
    → length g.number ≡ length f.number
    → first_place m (numbers_in g.number) ≡ first_place m (numbers_in f.number)
    → (first_place m (numbers_in f.number) < length f.number → entry_at room g (first_place m (numbers_in f.number)) ≡ entry_at room f (first_place m (numbers_in f.number)))
    → view room g m ≡ view room f m
alike room f g m long place entry =
    ⊎_elim
    (λ h. seen room g m (first_place m (numbers_in f.number)) place (omega arith) ∙ ap Some (entry h) ∙ sym (seen room f m (first_place m (numbers_in f.number)) refl h))
    (λ h. unseen room g m (omega arith) ∙ sym (unseen room f m h))
    (lt_or_le (first_place m (numbers_in f.number)) (length f.number))

-- the word where a number stands has that number
pub word_at : (m : ℕ) (words : List ℕ) → first_place m (numbers_in words) < length words → number_in (get_or words (first_place m (numbers_in words)) 0) ≡ m
word_at m words h =
    sym (numbers_at words (first_place m (numbers_in words)) h) ∙ first_at m (numbers_in words) (rw (numbers_length words) h)

-- a word that stays keeps its entry
pub same_word : (room : ℕ) (f : Flight) (words : List ℕ) (at : ℕ) → get_or words at 0 ≡ get_or f.number at 0
    → entry_at room (record { number = words; records = f.records; bytes = f.bytes }) at ≡ entry_at room f at
same_word room f words at e = λ i. record { packet = packet_of (get_or f.records at 0); payload = bytes_at room f.bytes at (length_of (e i)) }

pub acked_seen : (room : ℕ) (f : Flight) (acked field m : ℕ) → m < 65536
    → view room (acknowledged f acked field) m ≡ cond (is_acked acked field m) None (view room f m)
acked_seen room f acked field m h =
    let t = is_acked acked field in
    let u = is_told acked field in
    let long = length-map f.number (emptied u) in
    let keys = numbers_length f.number in
    let told = numbers_emptied t f.number in
    case (t m)
    (λ e. rw e (unseen room (acknowledged f acked field) m (omega (arith, long, keys, ap (first_place m) told ∙ first_gone t m h (numbers_in f.number) e))))
    (λ e.
    rw e
    (alike room f (acknowledged f acked field) m long (ap (first_place m) told ∙ first_kept t m h (numbers_in f.number) e)
    (λ z.
    let at = first_place m (numbers_in f.number) in
    same_word room f (map (emptied u) f.number) at
    (map_at (emptied u) f.number at z ∙ stays_word t (get_or f.number at 0) (ap t (word_at m f.number z) ∙ e)))))

module _ (room : ℕ) (f : Flight) (n : ℕ) (sent : SentPacket) (payload : List ℕ) (s : Sound room f) (number : n < 65536) (small : Fits room sent payload) (roomy : full n (numbers_in f.number) ≡ false) where
  k : ℕ
  k = place_of n (numbers_in f.number)

  w : ℕ
  w = word_of n (length payload)

  some_number : 1 ≤ length (numbers_in f.number)
  some_number = rw (numbers_length f.number) s.some_place

  -- the numbers of the table that is left
  after : numbers_in (set f.number (place_of n (numbers_in f.number)) (word_of n (length payload))) ≡ set (numbers_in f.number) (place_of n (numbers_in f.number)) n
  after = numbers_set f.number (place_of n (numbers_in f.number)) (word_of n (length payload)) ∙ ap (set (numbers_in f.number) (place_of n (numbers_in f.number))) (number_word n (length payload) number small.word)

  -- the place comes no later than where the number stands
  early : k ≤ first_place n (numbers_in f.number)
  unfolding k place_of
  early =
      let h = place-within room f s n sent payload number small roomy in
      let keys = numbers_length f.number in
      case (ltb (first_place n (numbers_in f.number)) (length (numbers_in f.number)))
      (λ e. rw e (omega arith))
      (λ e. omega (arith, h, ltb-false (first_place n (numbers_in f.number)) (length (numbers_in f.number)) e))

  here : view room (stored room f n sent payload) n ≡ Some (record { packet = sent; payload = payload })
  unfolding k w
  here =
      let h = place-within room f s n sent payload number small roomy in
      let keys = numbers_length f.number in
      let p : packet_of (get_or (set f.records k (packed sent)) k 0) ≡ sent =
      ap packet_of (get_or-set_same f.records k (packed sent) 0 (omega (arith, h, s.recorded)))
      ∙ packet_packed sent small.ordering_byte small.stream_byte small.item_word in
      let q : length_of (get_or (set f.number k w) k 0) ≡ length payload =
      ap length_of (get_or-set_same f.number k w 0 h) ∙ length_word n (length payload) small.word in
      let b : bytes_at room (paste f.bytes (k * room) payload (length payload)) k (length_of (get_or (set f.number k w) k 0)) ≡ payload =
      ap (bytes_at room (paste f.bytes (k * room) payload (length payload)) k) q
      ∙ paste_read f.bytes payload (k * room) (omega (arith, slot-within room f s n sent payload number small roomy, small.slot)) in
      seen room (stored room f n sent payload) n k (ap (first_place n) after ∙ first_put n (numbers_in f.number) k (omega arith) early) (omega (arith, h, length-set f.number k w))
      ∙ (λ i. Some (record { packet = p i; payload = b i }))

  elsewhere : (m : ℕ) → m < 65536 → (m ≡ n → ⊥) → view room (stored room f n sent payload) m ≡ view room f m
  unfolding k w
  elsewhere m v apart =
      let h = place-within room f s n sent payload number small roomy in
      let keys = numbers_length f.number in
      let means = place_means n (numbers_in f.number) some_number (omega arith) in
      let not-here : get_or (numbers_in f.number) k 0 ≡ m → ⊥ = λ e. ⊎_elim (λ z. apart (omega arith)) (λ z. omega arith) means in
      alike room f (stored room f n sent payload) m (length-set f.number k w)
      (ap (first_place m) after ∙ first_put_other m n (numbers_in f.number) k (omega arith) not-here (λ e. apart (sym e)))
      (λ j.
      let at = first_place m (numbers_in f.number) in
      let found = first_at m (numbers_in f.number) (omega arith) in
      let other : at ≡ k → ⊥ = λ e. not-here (ap (λ (x : ℕ). get_or (numbers_in f.number) x 0) (sym e) ∙ found) in
      let record_is = get_or-set_other f.records k at (packed sent) 0 other in
      let word = get_or-set_other f.number k at w 0 other in
      let in-flight = is_number (get_or f.number at 0) (omega (arith, word_at m f.number j, v)) in
      let fitting = fits_at room f.number at (sound_fits room f.number s.not_13) j in-flight in
      let b : bytes_at room (paste f.bytes (k * room) payload (length payload)) at (length_of (get_or (set f.number k w) at 0)) ≡ bytes_at room f.bytes at (length_of (get_or f.number at 0)) =
      ap (λ (x : ℕ). bytes_at room (paste f.bytes (k * room) payload (length payload)) at (length_of x)) word
      ∙ slot_other f.bytes payload room k at (length payload) (length_of (get_or f.number at 0)) (slot-within room f s n sent payload number small roomy) small.slot
      (omega (arith, slot_end at (length f.number) room j, s.slots)) fitting other in
      λ i. record { packet = packet_of (record_is i); payload = b i })

  pub stored_seen : (m : ℕ) → m < 65536
      → view room (stored room f n sent payload) m ≡ cond (eqb m n) (Some (record { packet = sent; payload = payload })) (view room f m)
  stored_seen m v =
      case (eqb m n)
      (λ e. rw (e, eqb-true m n e) here)
      (λ e. rw e (elsewhere m v (eqb-false m n e)))
