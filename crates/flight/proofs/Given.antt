-- Which packet a drop gives back, and what it leaves. Assumes nothing.
use Rattle.std.proofs.Common.{◌≡◌, ℕ, zero, suc, ◌<◌, ◌≤◌, Bool, true, false, cond, ◌&&◌, eqb, ltb, List, [], ◌∷◌, length, get_or, set, sym, refl, ap, ◌∙◌, le_of_suc-le-suc, not-suc-le-zero, arith, length-set, get_or-set_other, ltb-false, ltb-true, eqb-true, Some, None}
use borrow.Author.Tests.{eqb-false}
use Rattle.laws.proofs.Cases.{case, both}
use Rattle.keys.specs.Keys.{first_place, twice}
use Rattle.sequence_buffer.specs.Buffer.{none as no_number}
use Rattle.flight.specs.Entry.{numbers_in, packet_of, length_of, bytes_at}
use Rattle.flight.specs.Places.{count_of}
use Rattle.flight.specs.Lost.{is_lost, least_lost, drop_of}
use Rattle.flight.specs.View.{Flight, in_flight, view, without, Sound, distinct_of, FlightFacts}
use Rattle.flight.specs.declared.lost.Dropped.{Dropped}
use Rattle.flight.proofs.Found.{first_at, least_found}
use Rattle.flight.proofs.Firsts.{first_put_other, first_out, once, rest_once}
use Rattle.flight.proofs.Stays.{sound_once, stays_acked, stays_dropped, stays-stored}
use Rattle.flight.proofs.Viewed.{seen, unseen, alike, same_word, acked_seen, stored_seen}
use Rattle.flight.proofs.Words.{numbers_length, numbers_out}

least_cons : (remote x : ℕ) (l : List ℕ) → least_lost remote (x ∷ l) ≡ cond (ltb x (least_lost remote l) && is_lost remote x) x (least_lost remote l)
unfolding least_lost
least_cons remote x l = refl

-- the least is lost, if it is a number
least_lost_lem : (remote : ℕ) (l : List ℕ) → least_lost remote l < 65536 → is_lost remote (least_lost remote l) ≡ true
unfolding least_lost
least_lost_lem remote [] = λ h. absurd (omega arith)
least_lost_lem remote (x ∷ l) =
    case (ltb x (least_lost remote l))
    (λ e. case (is_lost remote x) (λ q. rw (e, q) (λ h. q)) (λ q. rw (e, q) (least_lost_lem remote l)))
    (λ e. rw e (least_lost_lem remote l))

-- and no lost number of the table is less
least_le : (remote m : ℕ) (l : List ℕ) (j : ℕ) → j < length l → get_or l j 0 ≡ m → is_lost remote m ≡ true → least_lost remote l ≤ m
least_le remote m [] j h e lost = absurd (not-suc-le-zero h)
least_le remote m (x ∷ l) zero h e lost =
    case (ltb x (least_lost remote l))
    (λ q. rw (least_cons remote x l, q, e, lost) (omega arith))
    (λ q. rw (least_cons remote x l, q) (omega (arith, ltb-false x (least_lost remote l) q)))
least_le remote m (x ∷ l) (suc j) h e lost =
    let rest = least_le remote m l j (le_of_suc-le-suc h) e lost in
    case (ltb x (least_lost remote l) && is_lost remote x)
    (λ q. rw (least_cons remote x l, q) (omega (arith, rest, below x (least_lost remote l) (is_lost remote x) q)))
    (λ q. rw (least_cons remote x l, q) rest)
  where
    below : (x y : ℕ) (b : Bool) → (ltb x y && b) ≡ true → x < y
    below x y b = case (ltb x y) (λ q. rw q (λ z. ltb-true x y q)) (λ q. rw q (λ z. both {b = false} z refl))

-- what an answer says of the least
module _ (remote : ℕ) (words records : List ℕ) where
  abbrev least : ℕ
  least = least_lost remote (numbers_in words)

  abbrev place : ℕ
  place = first_place least (numbers_in words)

  abbrev answer : Dropped
  answer = record { number = record { 0 = least }; sent = packet_of (get_or records place 0); count = length_of (get_or words place 0) }

  pub drop_means : (d : Dropped) → drop_of remote words records ≡ Some d → (least_lost remote (numbers_in words) < 65536) × (◌≡◌ {A = Dropped} (record { number = record { 0 = least_lost remote (numbers_in words) }; sent = packet_of (get_or records (first_place (least_lost remote (numbers_in words)) (numbers_in words)) 0); count = length_of (get_or words (first_place (least_lost remote (numbers_in words)) (numbers_in words)) 0) }) d)
  unfolding drop_of
  drop_means d =
      case (ltb least 65536)
      (λ q. rw q (λ e. (ltb-true least 65536 q, cc)))
      (λ q. rw q (λ e. absurd (let z : ◌≡◌ {A = ℕ} 0 1 = cc in omega arith)))

  nothing_means : drop_of remote words records ≡ None → 65536 ≤ least_lost remote (numbers_in words)
  unfolding drop_of
  nothing_means =
      case (ltb least 65536)
      (λ q. rw q (λ e. absurd (let z : ◌≡◌ {A = ℕ} 0 1 = cc in omega arith)))
      (λ q e. ltb-false least 65536 q)

-- a number that is in flight stands at its first place
stands : (f : Flight) (m : ℕ) → in_flight f m ≡ true → first_place m (numbers_in f.number) < length (numbers_in f.number)
unfolding in_flight
stands f m e = rw (numbers_length f.number) (ltb-true (first_place m (numbers_in f.number)) (length f.number) e)

module _ (f : Flight) (remote : ℕ) where
  abbrev keys : List ℕ
  keys = numbers_in f.number

  nothing_lost : drop_of remote f.number f.records ≡ None → (m : ℕ) → m < 65536 → in_flight f m ≡ true → is_lost remote m ≡ false
  nothing_lost e m v i =
      case (is_lost remote m)
      (λ q.
      let h = stands f m i in
      absurd (omega (arith, least_le remote m keys (first_place m keys) h (first_at m keys h) q, nothing_means remote f.number f.records e)))
      (λ q. q)

  module _ (d : Dropped) (e : drop_of remote f.number f.records ≡ Some d) where
    is-least : d.number.0 ≡ least_lost remote keys
    is-least = sym (ap (λ (x : Dropped). x.number.0) (drop_means remote f.number f.records d e).1)

    is_number : d.number.0 < 65536
    is_number = rw is-least (drop_means remote f.number f.records d e).0

    within : first_place d.number.0 (numbers_in f.number) < length (numbers_in f.number)
    within = rw is-least (least_found remote keys (drop_means remote f.number f.records d e).0)

    pub lost-one : is_lost remote d.number.0 ≡ true
    lost-one = rw is-least (least_lost_lem remote keys (drop_means remote f.number f.records d e).0)

    pub least-one : (m : ℕ) → in_flight f m ≡ true → is_lost remote m ≡ true → d.number.0 ≤ m
    least-one m i lost =
        let h = stands f m i in
        rw is-least (least_le remote m keys (first_place m keys) h (first_at m keys h) lost)

    pub gave-back : (room : ℕ) → view room f d.number.0 ≡ Some (record { packet = d.sent; payload = bytes_at room f.bytes (first_place d.number.0 (numbers_in f.number)) d.count })
    gave-back room =
        let same = (drop_means remote f.number f.records d e).1 in
        let at = first_place d.number.0 keys in
        let there : first_place (least_lost remote keys) keys ≡ at = ap (λ (x : ℕ). first_place x keys) (sym is-least) in
        let p : packet_of (get_or f.records at 0) ≡ d.sent = ap (λ (x : ℕ). packet_of (get_or f.records x 0)) (sym there) ∙ ap (λ (x : Dropped). x.sent) same in
        let q : length_of (get_or f.number at 0) ≡ d.count = ap (λ (x : ℕ). length_of (get_or f.number x 0)) (sym there) ∙ ap (λ (x : Dropped). x.count) same in
        seen room f d.number.0 at refl (rw (sym (numbers_length f.number)) within) ∙ (λ i. Some (record { packet = p i; payload = bytes_at room f.bytes at (q i) }))

    pub dropped-seen : (room : ℕ) → Sound room f → (m : ℕ) → m < 65536
        → view room (without f d) m ≡ cond (eqb m d.number.0) None (view room f m)
    dropped-seen room s m v =
        let n = d.number.0 in
        let k = first_place n keys in
        let long = length-set f.number k no_number in
        let left = numbers_out f.number k in
        case (eqb m n)
        (λ q.
        let z : m ≡ n = eqb-true m n q in
        rw (q, z) (unseen room (without f d) n (omega (arith, long, numbers_length f.number, ap (first_place n) left ∙ first_out n keys is_number (sound_once room f.number s.not_13) within))))
        (λ q.
        rw q
        (alike room f (without f d) m long
        (ap (first_place m) left ∙ first_put_other m no_number keys k within (λ z. eqb-false m n q (sym z ∙ first_at n keys within)) (λ z. omega arith))
        (λ h.
        let apart : first_place m keys ≡ k → ⊥ = λ z. eqb-false m n q (sym (first_at m keys (rw (numbers_length f.number) h)) ∙ ap (λ (x : ℕ). get_or keys x 0) z ∙ first_at n keys within) in
        same_word room f (set f.number k no_number) (first_place m keys) (get_or-set_other f.number k (first_place m keys) no_number 0 apart))))

count_same : (l : List ℕ) → twice l ≡ false → count_of l ≡ distinct_of l
unfolding count_of distinct_of
count_same [] e = refl
count_same (x ∷ l) e =
    case (ltb x 65536)
    (λ q. rw (q, once x x l (ltb-true x 65536 q) refl e, count_same l (rest_once x l e)))
    (λ q. rw (q, count_same l (rest_once x l e)))

pub facts : FlightFacts
facts = record {
  counted = λ room f s. count_same (numbers_in f.number) (sound_once room f.number s.not_13);
  stored_view = λ room f n sent payload s v small roomy. stored_seen room f n sent payload s v small roomy;
  acked_view = acked_seen;
  given_back = λ room f remote d e. gave-back f remote d e room;
  dropped_view = λ room f remote d s e. dropped-seen f remote d e room s;
  lost = λ f remote d e. lost-one f remote d e;
  least = λ f remote d e. least-one f remote d e;
  none_lost = nothing_lost;
  stored_sound = λ room f n sent payload s v small roomy. stays-stored room f s n sent payload v small roomy;
  acked_sound = λ room f acked field s. stays_acked room f s acked field;
  dropped_sound = λ room f d s. stays_dropped room f s d;
}
