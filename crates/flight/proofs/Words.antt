-- What the words of a column say of its numbers. Assumes nothing.
--     has_number, no_number, is_number    of one word
--     number_word, length_word            of a word that was made
--     numbers-..                          of the column, read and changed
use Rattle.std.proofs.Common.{◌≡◌, ℕ, zero, suc, ◌+◌, ◌*◌, ◌/◌, ◌<◌, ◌≤◌, Bool, false, List, [], ◌∷◌, map, length, get_or, set, refl, ap, ◌∙◌, ⊎_elim, arith, le-ltb, lt-ltb}
use lib.ListN.{length-map}
use Rattle.laws.proofs.Cases.{case, lt_or_le}
use Rattle.laws.proofs.Lists.{map_at}
use Rattle.key_parts.specs.Words.{no_packet}
use Rattle.sequence_buffer.specs.Buffer.{none, emptied}
use Rattle.flight.specs.Entry.{word_of, number_in, numbers_in, length_of}

pub has_number : (word : ℕ) → word < no_packet → number_in word ≡ word / 32768
unfolding number_in
has_number word h = rw (lt-ltb word no_packet h)

pub no_number : (word : ℕ) → no_packet ≤ word → number_in word ≡ none
unfolding number_in
no_number word h = rw (le-ltb word no_packet h)

pub is_number : (word : ℕ) → number_in word < 65536 → word < no_packet
is_number word h = ⊎_elim (λ v. v) (λ v. absurd (omega (arith, no_number word v))) (lt_or_le word no_packet)

pub number_word : (n count : ℕ) → n < 65536 → count < 32768 → number_in (word_of n count) ≡ n
number_word n count v h = has_number (word_of n count) (omega arith) ∙ (let e : (n * 32768 + count) / 32768 ≡ n = omega arith in e)

pub length_word : (n count : ℕ) → count < 32768 → length_of (word_of n count) ≡ count
length_word n count h = omega arith

module _ (words : List ℕ) where
  pub numbers_length : length (numbers_in words) ≡ length words
  numbers_length = length-map words number_in

  pub numbers_at : (j : ℕ) → j < length words → get_or (numbers_in words) j 0 ≡ number_in (get_or words j 0)
  numbers_at j h = map_at number_in words j h

pub numbers_set : (words : List ℕ) (k word : ℕ) → numbers_in (set words k word) ≡ set (numbers_in words) k (number_in word)
numbers_set [] k word = refl
numbers_set (x ∷ words) zero word = refl
numbers_set (x ∷ words) (suc k) word = ap (λ (l : List ℕ). number_in x ∷ l) (numbers_set words k word)

pub numbers_out : (words : List ℕ) (k : ℕ) → numbers_in (set words k none) ≡ set (numbers_in words) k none
numbers_out words k = numbers_set words k none ∙ ap (set (numbers_in words) k) (no_number none (omega arith))

-- a word that goes by its number
emptied_number : (t : ℕ → Bool) (word : ℕ) → number_in (emptied (λ w. t (number_in w)) word) ≡ emptied t (number_in word)
unfolding emptied
emptied_number t word = case (t (number_in word)) (λ e. rw e (no_number none (omega arith))) (λ e. rw e)

pub numbers_emptied : (t : ℕ → Bool) (words : List ℕ) → numbers_in (map (emptied (λ w. t (number_in w))) words) ≡ map (emptied t) (numbers_in words)
numbers_emptied t [] = refl
numbers_emptied t (x ∷ words) = rw (emptied_number t x, numbers_emptied t words)

-- a word that stays
pub stays_word : (t : ℕ → Bool) (word : ℕ) → t (number_in word) ≡ false → emptied (λ w. t (number_in w)) word ≡ word
unfolding emptied
stays_word t word e = rw e

-- what the number at a place is, by its word
module _ (words : List ℕ) (j : ℕ) (h : j < length words) where
  pub number_here : get_or words j 0 < no_packet → get_or (numbers_in words) j 0 < 65536
  number_here v = omega (arith, numbers_at words j h, has_number (get_or words j 0) v)

  pub none_here : no_packet ≤ get_or words j 0 → 65536 ≤ get_or (numbers_in words) j 0
  none_here v = omega (arith, numbers_at words j h, no_number (get_or words j 0) v)
