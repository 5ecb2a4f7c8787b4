-- What each walk over the table finds, in the library's words for a walk. Assumes nothing.
--     count_is, over_is, first_is, free_is    of the words, from the front
--     least_is                                the least lost number as a fold; a part of which none is lost leaves it
--     no_lost, near_kept, after_kept          which entries are not lost
use Rattle.std.proofs.Common.{◌≡◌, ℕ, suc, ◌+◌, ◌-◌, ◌<◌, ◌≤◌, Bool, true, false, cond, ◌&&◌, ◌||◌, ltb, leb, eqb, List, [], ◌∷◌, ◌++◌, fold, count_by, refl, sym, ap, ◌∙◌, ⊎_elim, suc-le-suc, zero-le, arith, le-ltb, lt-ltb, ltb-true}
use Rattle.std.specs.List.{position_or_len}
use Rattle.std.proofs.lemmas.List.Recursion.{is_position_or_len, is_count_by}
use borrow.Author.Tests.{lt-leb, le-leb}
use Rattle.std.proofs.lemmas.Bool.Decides.{nat_tests}
use Rattle.std.proofs.Math.Bool.{and-false}
use Rattle.laws.proofs.Cases.{case, each, lt_or_le}
use Rattle.key_parts.specs.Words.{no_packet}
use Rattle.keys.specs.Keys.{first_place}
use Rattle.serial.specs.Order.{greater, back}
use Rattle.sequence_buffer.specs.Buffer.{none}
use Rattle.flight.specs.Entry.{length_of, number_in, numbers_in}
use Rattle.flight.specs.Places.{count_of, over_long, first_free}
use Rattle.flight.specs.Lost.{is_lost, NoneLost, least_lost, lesser}
use Rattle.flight.proofs.Words.{has_number, no_number}

-- a word has a number where it has a packet
is_key : (w : ℕ) → ltb (number_in w) 65536 ≡ ltb w no_packet
is_key w =
    ⊎_elim
    (λ v. rw (lt-ltb w no_packet v, lt-ltb (number_in w) 65536 (omega (arith, has_number w v))))
    (λ v. rw (le-ltb w no_packet v, le-ltb (number_in w) 65536 (omega (arith, no_number w v))))
    (lt_or_le w no_packet)

one : (n : ℕ) → suc n ≡ 1 + n
one n = omega arith

pub count_is : (words : List ℕ) → count_of (numbers_in words) ≡ count_by (λ w. ltb w no_packet) words
unfolding count_of
count_is =
    is_count_by (λ l. count_of (numbers_in l)) (λ w. ltb w no_packet) refl
    (λ w ws. rw (is_key w) (ap (λ (n : ℕ). cond (ltb w no_packet) n (count_of (numbers_in ws))) (one (count_of (numbers_in ws)))))

-- a word whose length is over its slot
abbrev pub over : ℕ → ℕ → Bool
over room w = ltb w no_packet && ltb room (length_of w)

over_from : (room : ℕ) (seen : Bool) (words : List ℕ) → fold (λ b w. b || over room w) seen words ≡ (seen || over_long room words)
unfolding over_long
over_from room true [] = refl
over_from room false [] = refl
over_from room true (w ∷ ws) = over_from room true ws
over_from room false (w ∷ ws) = over_from room (over room w) ws

pub over_is : (room : ℕ) (words : List ℕ) → over_long room words ≡ fold (λ b w. b || over room w) false words
over_is room words = sym (over_from room false words)

pub first_is : (n : ℕ) (words : List ℕ) → first_place n (numbers_in words) ≡ position_or_len (λ w. eqb (number_in w) n) words
unfolding first_place
first_is n =
    is_position_or_len (λ l. first_place n (numbers_in l)) (λ w. eqb (number_in w) n) refl
    (λ w ws. ap (cond (eqb (number_in w) n) 0) (one (first_place n (numbers_in ws))))

free_turn : (w f : ℕ) → cond (ltb (number_in w) 65536) (suc f) 0 ≡ cond (leb no_packet w) 0 (1 + f)
free_turn w f =
    rw (is_key w, ← one f)
    (⊎_elim
    (λ v. rw (lt-ltb w no_packet v, lt-leb no_packet w v))
    (λ v. rw (le-ltb w no_packet v, le-leb no_packet w v))
    (lt_or_le w no_packet))

pub free_is : (words : List ℕ) → first_free (numbers_in words) ≡ position_or_len (λ w. leb no_packet w) words
unfolding first_free
free_is = is_position_or_len (λ l. first_free (numbers_in l)) (λ w. leb no_packet w) refl (λ w ws. free_turn w (first_free (numbers_in ws)))

-- the lesser of two
abbrev min_of : ℕ → ℕ → ℕ
min_of a b = cond (ltb b a) b a

turned : (lost : Bool) (a x l : ℕ) → min_of (cond (ltb x a && lost) x a) l ≡ min_of a (cond (ltb x l && lost) x l)
turned true a x l = grind (arith, nat_tests)
turned false a x l = rw (and-false (ltb x a), and-false (ltb x l))

least_at_most : (remote : ℕ) (l : List ℕ) → least_lost remote l ≤ none
unfolding least_lost
least_at_most remote [] = omega arith
least_at_most remote (x ∷ l) =
    let h = least_at_most remote l in
    case (ltb x (least_lost remote l) && is_lost remote x)
    (λ e. rw e (omega (arith, ltb-true x (least_lost remote l) (each (ltb x (least_lost remote l)) (is_lost remote x) e).0)))
    (λ e. rw e h)

lesser_most : (remote a x : ℕ) → a ≤ none → lesser remote a x ≤ none
lesser_most remote a x h =
    case (ltb x a && is_lost remote x)
    (λ e. rw e (omega (arith, ltb-true x a (each (ltb x a) (is_lost remote x) e).0)))
    (λ e. rw e h)

min_none : (a b : ℕ) → a ≤ b → min_of a b ≡ a
min_none a b h = rw (le-ltb b a h)

fold_is : (remote a : ℕ) (l : List ℕ) → a ≤ none → fold (lesser remote) a l ≡ min_of a (least_lost remote l)
unfolding least_lost
fold_is remote a [] h = sym (min_none a none h)
fold_is remote a (x ∷ l) h =
    fold_is remote (lesser remote a x) l (lesser_most remote a x h) ∙ turned (is_lost remote x) a x (least_lost remote l)

pub least_is : (remote : ℕ) (l : List ℕ) → least_lost remote l ≡ fold (lesser remote) none l
least_is remote l =
    sym
    (fold_is remote none l (omega arith)
    ∙ ⊎_elim
    (λ h. rw (lt-ltb (least_lost remote l) none h))
    (λ h. rw (le-ltb (least_lost remote l) none h) (omega (arith, least_at_most remote l)))
    (lt_or_le (least_lost remote l) none))

-- a part of which none is lost changes nothing
pub kept : (remote a : ℕ) (l : List ℕ) → NoneLost remote l → fold (lesser remote) a l ≡ a
kept remote a [] h = refl
kept remote a (x ∷ l) h =
    rw (h 0 (suc-le-suc zero-le), and-false (ltb x a)) (kept remote a l (λ j q. h (suc j) (suc-le-suc q)))

-- a part, and then the rest
pub parted : (remote a : ℕ) (part rest : List ℕ)
    → fold (lesser remote) a (numbers_in (part ++ rest)) ≡ fold (lesser remote) (fold (lesser remote) a (numbers_in part)) (numbers_in rest)
parted remote a [] rest = refl
parted remote a (w ∷ part) rest = parted remote (lesser remote a (number_in w)) part rest

-- an entry that is no number, or is near the remote acknowledged number or after it, is not lost
pub no_lost : (remote e : ℕ) → 65536 ≤ e → is_lost remote e ≡ false
unfolding is_lost
no_lost remote e h = rw (le-ltb e 65536 h)

pub near_kept : (remote e : ℕ) → back remote e < 33 → is_lost remote e ≡ false
unfolding is_lost
near_kept remote e h = rw (le-ltb 32 (back remote e) (omega arith), and-false (greater remote e), and-false (ltb e 65536))

not_before : (remote e : ℕ) → remote < 65536 → e < 65536 → 32768 < back remote e → greater remote e ≡ false
unfolding greater
not_before remote e r v h =
    ⊎_elim
    (λ w. rw (le-ltb e remote (omega arith), le-ltb 32768 (e - remote) (omega arith), and-false (ltb remote e)))
    (λ w. rw (lt-leb (remote - e) 32768 (omega arith), le-ltb remote e w, and-false (ltb e remote)))
    (lt_or_le remote e)

pub after_kept : (remote e : ℕ) → remote < 65536 → e < 65536 → 32768 < back remote e → is_lost remote e ≡ false
unfolding is_lost
after_kept remote e r v h = rw (not_before remote e r v h, and-false (ltb e 65536))
