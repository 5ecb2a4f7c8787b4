-- A number taken from its own place, and the numbers of an acknowledgment one after another. Assumes nothing.
--     own_here, own_away      taking one number is a map, whether it was there or not
--     home_kept               what is emptied stays at home
--     first_turn, turn, no-turn, last_turn     the numbers told of so far
use mathlib.Core.Path.{◌≡◌, refl, sym, ap, ◌∙◌}
use mathlib.Core.Bool.{Bool, true, false, ◌&&◌, ◌||◌}
use mathlib.Core.List.{List, [], ◌∷◌, map}
use mathlib.Core.Logic.{⊎_elim}
use Prim.Native.Nat.{ℕ, ◌+◌, ◌-◌, ◌/◌, ◌%◌, ◌≤◌, ◌<◌}
use native.Mathlib.Nat.{mod-lt}
use native.Mathlib.Omega.{arith}
use lib.ListN.{length, get_or, set, length-set, length-map}
use lib.Seq.{ext_get_or, get_or-set_same, get_or-set_other}
use lib.Dec.{ltb, leb, eqb}
use borrow.Author.Tests.{lt-ltb, le-ltb, eq-eqb, ne_eqb, eqb-true, eqb-false, le-leb, leb-true, leb-false}
use Rattle.laws.specs.Bits.{bit}
use Rattle.laws.proofs.Cases.{case, both, lt_or_le}
use Rattle.laws.proofs.Lists.{map_at}
use Rattle.serial.specs.Order.{back}
use Rattle.keys.specs.Home.{Home}
use Rattle.sequence_buffer.specs.Buffer.{none, emptied}
use Rattle.flight.specs.Entry.{number_in, numbers_in}
use Rattle.flight.specs.Acked.{is_acked, is_told}
use Rattle.flight.proofs.Words.{has_number, no_number, is_number, numbers_length, numbers_at, numbers_emptied}

emptied_true : (t : ℕ → Bool) (e : ℕ) → t e ≡ true → emptied t e ≡ none
unfolding emptied
emptied_true t e q = rw q

emptied_false : (t : ℕ → Bool) (e : ℕ) → t e ≡ false → emptied t e ≡ e
unfolding emptied
emptied_false t e q = rw q

-- taking the number m, by the words of a column
abbrev pub taking : ℕ → ℕ → Bool
taking m word = eqb m (number_in word)

module _ (l : List ℕ) (h : Home (numbers_in l)) (m : ℕ) (small : m < 65536) (some : 0 < length l) where
  abbrev own : ℕ
  own = m % length l

  -- elsewhere the number does not stand
  elsewhere : (j : ℕ) → j < length l → (j ≡ own → ⊥) → eqb m (number_in (get_or l j 0)) ≡ false
  elsewhere j q apart =
      let long = numbers_length l in
      let at = numbers_at l j q in
      ne_eqb m (number_in (get_or l j 0))
      (λ e.
      apart
      (sym (h.own j (omega arith) (omega arith))
      ∙ ap (λ (x : ℕ). x % length (numbers_in l)) (at ∙ sym e)
      ∙ ap (λ (x : ℕ). m % x) long))

  pub own_here : get_or l own 0 / 32768 ≡ m → set l own none ≡ map (emptied (taking m)) l
  own_here e =
      ext_get_or 0 (set l own none) (map (emptied (taking m)) l) (length-set l own none ∙ sym (length-map l (emptied (taking m))))
      (λ j q.
      let w : j < length l = omega (arith, length-set l own none) in
      case (eqb j own)
      (λ z.
      let y : j ≡ own = eqb-true j own z in
      let there : number_in (get_or l j 0) ≡ m = ap (λ (x : ℕ). number_in (get_or l x 0)) y ∙ has_number (get_or l own 0) (omega arith) ∙ e in
      ap (λ (x : ℕ). get_or (set l own none) x 0) y ∙ get_or-set_same l own none 0 (mod-lt m {m = length l} some)
      ∙ sym (map_at (emptied (taking m)) l j w ∙ emptied_true (taking m) (get_or l j 0) (eq-eqb m (number_in (get_or l j 0)) (sym there))))
      (λ z.
      get_or-set_other l own j none 0 (eqb-false j own z)
      ∙ sym (map_at (emptied (taking m)) l j w ∙ emptied_false (taking m) (get_or l j 0) (elsewhere j w (eqb-false j own z)))))

  pub own_away : (get_or l own 0 / 32768 ≡ m → ⊥) → l ≡ map (emptied (taking m)) l
  own_away apart =
      ext_get_or 0 l (map (emptied (taking m)) l) (sym (length-map l (emptied (taking m))))
      (λ j w.
      sym
      (map_at (emptied (taking m)) l j w
      ∙ emptied_false (taking m) (get_or l j 0)
      (case (eqb j own)
      (λ z.
      ne_eqb m (number_in (get_or l j 0))
      (λ e.
      let there : number_in (get_or l own 0) ≡ m = ap (λ (x : ℕ). number_in (get_or l x 0)) (sym (eqb-true j own z)) ∙ sym e in
      apart (sym (has_number (get_or l own 0) (is_number (get_or l own 0) (omega arith))) ∙ there)))
      (λ z. elsewhere j w (eqb-false j own z)))))

home_key : (t : ℕ → Bool) (l : List ℕ) → Home l → Home (map (emptied t) l)
home_key t l h = record {
  own = λ j q key.
      let w : j < length l = omega (arith, length-map l (emptied t)) in
      let e = map_at (emptied t) l j w in
      case (t (get_or l j 0))
      (λ z. absurd (omega (arith, e, emptied_true t (get_or l j 0) z)))
      (λ z.
      let same : get_or (map (emptied t) l) j 0 ≡ get_or l j 0 = e ∙ emptied_false t (get_or l j 0) z in
      ap (λ (x : ℕ). x % length (map (emptied t) l)) same ∙ ap (λ (x : ℕ). get_or l j 0 % x) (length-map l (emptied t)) ∙ h.own j w (omega arith));
}

pub home_kept : (t : ℕ → Bool) (l : List ℕ) → Home (numbers_in l) → Home (numbers_in (map (emptied (λ w. t (number_in w))) l))
home_kept t l h = rw (numbers_emptied t l) (home_key t (numbers_in l) h)

-- told of, and less than k before the acknowledged number
unfoldable pub up_to : ℕ → ℕ → ℕ → ℕ → Bool
up_to acked field k e = is_acked acked field e && ltb (back acked e) k

-- the same of a word's number
abbrev pub told_to : ℕ → ℕ → ℕ → ℕ → Bool
told_to acked field k word = up_to acked field k (number_in word)

emptied_same : (t u : ℕ → Bool) (e : ℕ) → t e ≡ u e → emptied t e ≡ emptied u e
unfolding emptied
emptied_same t u e q = rw q

-- one map after another
pub fused : (f g h : ℕ → ℕ) → ((e : ℕ) → f (g e) ≡ h e) → (l : List ℕ) → map f (map g l) ≡ map h l
fused f g h p [] = refl
fused f g h p (x ∷ l) = rw (p x, fused f g h p l)

pub alike : (f g : ℕ → ℕ) → ((e : ℕ) → f e ≡ g e) → (l : List ℕ) → map f l ≡ map g l
alike f g p [] = refl
alike f g p (x ∷ l) = rw (p x, alike f g p l)

and_no : (b : Bool) → (b && false) ≡ false
and_no true = refl
and_no false = refl

next_same : (x k : ℕ) → (x ≡ k → ⊥) → ltb x (k + 1) ≡ ltb x k
next_same x k apart =
    ⊎_elim
    (λ h. rw (lt-ltb x k h, lt-ltb x (k + 1) (omega arith)))
    (λ h. rw (le-ltb x k h, le-ltb x (k + 1) (let z : k < x = ⊎_elim (λ w. w) (λ w. absurd (apart (omega arith))) (lt_or_le k x) in omega arith)))
    (lt_or_le x k)

module _ (acked field : ℕ) (small : acked < 65536) where
  none_told : (e : ℕ) → 65536 ≤ e → is_acked acked field e ≡ false
  unfolding is_acked
  none_told e h = rw (le-ltb e 65536 h)

  acked_itself : (e : ℕ) → e < 65536 → back acked e ≡ 0 → is_acked acked field e ≡ true
  unfolding is_acked
  acked_itself e h z = rw (lt-ltb e 65536 h, eq-eqb (back acked e) 0 z)

  acked_bit : (e k : ℕ) → e < 65536 → 1 ≤ k → k ≤ 32 → back acked e ≡ k → is_acked acked field e ≡ bit field (k - 1)
  unfolding is_acked
  acked_bit e k h some most z =
      rw (lt-ltb e 65536 h, z, ne_eqb k 0 (λ q. omega arith), le-leb k 32 most)

  acked_near : (e : ℕ) → is_acked acked field e ≡ true → back acked e < 33
  unfolding is_acked
  acked_near e =
      case (ltb e 65536)
      (λ q.
      case (leb (back acked e) 32)
      (λ r z. omega (arith, leb-true (back acked e) 32 r))
      (λ r. rw (q, r, ne_eqb (back acked e) 0 (λ w. omega (arith, leb-false (back acked e) 32 r))) (λ z. both {b = false} z refl)))
      (λ q. rw q (λ z. both {b = false} z refl))

  -- a number that is not k before the acknowledged one is told of below k + 1 as it is below k
  more_same : (k e : ℕ) → (e < 65536 → back acked e ≡ k → ⊥) → up_to acked field (k + 1) e ≡ up_to acked field k e
  unfolding up_to
  more_same k e apart =
      ⊎_elim
      (λ h. rw (next_same (back acked e) k (apart h)))
      (λ h. rw (none_told e h))
      (lt_or_le e 65536)

  not_yet : (k e : ℕ) → back acked e ≡ k → up_to acked field k e ≡ false
  unfolding up_to
  not_yet k e z = rw (le-ltb (back acked e) k (omega arith)) (and_no (is_acked acked field e))

  now_told : (k e : ℕ) → back acked e ≡ k → up_to acked field (k + 1) e ≡ is_acked acked field e
  unfolding up_to
  now_told k e z = rw (lt-ltb (back acked e) (k + 1) (omega arith)) (case (is_acked acked field e) (λ q. rw q) (λ q. rw q))

  taken_here : (k w : ℕ) → k ≤ 32 → number_in w ≡ back acked k → is_acked acked field (number_in w) ≡ true
      → emptied (taking (back acked k)) (emptied (told_to acked field k) w) ≡ emptied (told_to acked field (k + 1)) w
  taken_here k w most same told =
      let z : back acked (number_in w) ≡ k = omega arith in
      ap (emptied (taking (back acked k))) (emptied_false (told_to acked field k) w (not_yet k (number_in w) z))
      ∙ emptied_true (taking (back acked k)) w (eq-eqb (back acked k) (number_in w) (sym same))
      ∙ sym (emptied_true (told_to acked field (k + 1)) w (now_told k (number_in w) z ∙ told))

  taken_other : (k w : ℕ) → k ≤ 32 → (number_in w ≡ back acked k → ⊥)
      → emptied (taking (back acked k)) (emptied (told_to acked field k) w) ≡ emptied (told_to acked field (k + 1)) w
  taken_other k w most apart =
      let same = more_same k (number_in w) (λ h z. apart (omega arith)) in
      case (told_to acked field k w)
      (λ q.
      ap (emptied (taking (back acked k))) (emptied_true (told_to acked field k) w q)
      ∙ emptied_false (taking (back acked k)) none (ne_eqb (back acked k) (number_in none) (λ z. omega (arith, no_number none (omega arith))))
      ∙ sym (emptied_true (told_to acked field (k + 1)) w (same ∙ q)))
      (λ q.
      ap (emptied (taking (back acked k))) (emptied_false (told_to acked field k) w q)
      ∙ emptied_false (taking (back acked k)) w (ne_eqb (back acked k) (number_in w) (λ z. apart (sym z)))
      ∙ sym (emptied_false (told_to acked field (k + 1)) w (same ∙ q)))

  never : (e : ℕ) → up_to acked field 0 e ≡ false
  unfolding up_to
  never e = rw (le-ltb (back acked e) 0 (omega arith)) (and_no (is_acked acked field e))

  pub first_turn : (l : List ℕ) → l ≡ map (emptied (told_to acked field 0)) l
  first_turn [] = refl
  first_turn (x ∷ l) = rw (emptied_false (told_to acked field 0) x (never (number_in x)), ← first_turn l)

  -- the number k before is told of by its bit, and the acknowledged number always
  told_of : (k e : ℕ) → k ≤ 32 → e < 65536 → back acked e ≡ k → is_acked acked field e ≡ (eqb k 0 || bit field (k - 1))
  told_of k e most h z =
      case (eqb k 0)
      (λ q. rw q (acked_itself e h (z ∙ eqb-true k 0 q)))
      (λ q. rw q (acked_bit e k h (⊎_elim (λ w. absurd (eqb-false k 0 q (omega arith))) (λ w. w) (lt_or_le k 1)) most z))

  module _ (k : ℕ) (most : k ≤ 32) where
    pub turn : (eqb k 0 || bit field (k - 1)) ≡ true → (l : List ℕ)
        → map (emptied (taking (back acked k))) (map (emptied (told_to acked field k)) l) ≡ map (emptied (told_to acked field (k + 1))) l
    turn told =
        fused (emptied (taking (back acked k))) (emptied (told_to acked field k)) (emptied (told_to acked field (k + 1)))
        (λ w.
        case (eqb (number_in w) (back acked k))
        (λ q.
        let same = eqb-true (number_in w) (back acked k) q in
        taken_here k w most same (told_of k (number_in w) most (omega arith) (omega arith) ∙ told))
        (λ q. taken_other k w most (eqb-false (number_in w) (back acked k) q)))

    pub no-turn : (eqb k 0 || bit field (k - 1)) ≡ false → (l : List ℕ)
        → map (emptied (told_to acked field k)) l ≡ map (emptied (told_to acked field (k + 1))) l
    no-turn left =
        alike (emptied (told_to acked field k)) (emptied (told_to acked field (k + 1)))
        (λ w.
        emptied_same (told_to acked field k) (told_to acked field (k + 1)) w
        (case (eqb (number_in w) (back acked k))
        (λ q.
        let same = eqb-true (number_in w) (back acked k) q in
        let z : back acked (number_in w) ≡ k = omega arith in
        not_yet k (number_in w) z ∙ sym (now_told k (number_in w) z ∙ told_of k (number_in w) most (omega arith) z ∙ left))
        (λ q. sym (more_same k (number_in w) (λ h z. eqb-false (number_in w) (back acked k) q (omega arith))))))

  pub last_turn : (l : List ℕ) → map (emptied (told_to acked field 33)) l ≡ map (emptied (is_told acked field)) l
  unfolding up_to
  last_turn =
      alike (emptied (told_to acked field 33)) (emptied (is_told acked field))
      (λ w.
      emptied_same (told_to acked field 33) (is_told acked field) w
      (case (is_acked acked field (number_in w))
      (λ q. rw (q, lt-ltb (back acked (number_in w)) 33 (acked_near (number_in w) q)))
      (λ q. rw q)))
