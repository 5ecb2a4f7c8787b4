-- Numbers in bytes, once over the width.
--     bytes_length    a width of bytes is as long
--     there, back     what is written reads back as the number; what was read, written again, is the bytes
--     reads, again    the same at a place of a datagram, with what lies after it
-- Assumes nothing.
use mathlib.Core.Path.{◌≡◌, refl, sym, ap, ◌∙◌}
use mathlib.Core.List.{List, [], ◌∷◌, ◌++◌, append_assoc, append-nil}
use Prim.Native.Nat.{ℕ, zero, suc, ◌+◌, ◌*◌, ◌/◌, ◌%◌, ◌^◌, ◌≤◌, ◌<◌}
use native.Mathlib.Omega.{arith}
use native.Mathlib.Nat.{mod-eq_of_lt, div-lt_iff_lt-mul, pow-zero, pow-suc, pow-succ', add-mul, mul_assoc, mul-one, add-zero, zero-add, add-suc, suc-add}
use lib.ListN.{length, get_or, take, drop, length-append, length-drop, take-append-drop}
use lib.Seq.{length-take-le, drop-cons, take-add, take_at, drop_at, drop-drop, get_or-drop, get_or-take}
use Rattle.std.specs.Int.{w16, w32, to_be_bytes}
use Rattle.packet_table.specs.Numbers.{bytes, onward, number_at, Bytes}

pub bytes_length : (w n : ℕ) → length (bytes w n) ≡ w
unfolding bytes
bytes_length zero n = refl
bytes_length (suc w) n = rw (length-append, bytes_length w (n / 256)) (omega arith)

-- one byte more
onward_more : (n : ℕ) (bs : List ℕ) (b : ℕ) → onward n (bs ++ (b ∷ [])) ≡ onward n bs * 256 + b
unfolding onward
onward_more n [] b = refl
onward_more n (c ∷ bs) b = onward_more (n * 256 + c) bs b

onward_append : (n : ℕ) (cs bs : List ℕ) → onward n (cs ++ bs) ≡ onward (onward n cs) bs
unfolding onward
onward_append n [] bs = refl
onward_append n (c ∷ cs) bs = onward_append (n * 256 + c) cs bs

-- what stands before the bytes counts as often as they have values
onward_after : (n : ℕ) (bs : List ℕ) → onward n bs ≡ n * 256 ^ length bs + onward 0 bs
unfolding onward
onward_after n [] = rw (pow-zero, mul-one) (omega arith)
onward_after n (b ∷ bs) =
    let p : ℕ = 256 ^ length bs in
    let shift : (n * 256 + b) * p ≡ n * 256 ^ suc (length bs) + b * p = rw (add-mul, mul_assoc, pow-succ') in
    let first : onward (0 * 256 + b) bs ≡ b * p + onward 0 bs = rw (zero-add b) (onward_after b bs) in
    onward_after (n * 256 + b) bs ∙ rw shift (omega (arith, first))

pub there : (w n : ℕ) → n < 256 ^ w → onward 0 (bytes w n) ≡ n
unfolding bytes onward
there zero n h = omega arith
there (suc w) n h =
    let below : n / 256 < 256 ^ w = (div-lt_iff_lt-mul {k = 256} {x = n} {y = 256 ^ w} (omega arith)).1 (rw pow-suc at h) in
    rw (onward_more 0 (bytes w (n / 256)) (n % 256), there w (n / 256) below) (omega arith)

-- after k bytes of n
back_from : (bs : List ℕ) → Bytes bs → (k n : ℕ) → bytes (k + length bs) (onward n bs) ≡ bytes k n ++ bs
unfolding bytes onward
back_from [] h k n = rw (add-zero, append-nil)
back_from (b ∷ bs) h k n =
    let byte : b < 256 = h 0 (omega arith) in
    let high : (n * 256 + b) / 256 ≡ n = omega arith in
    let low : (n * 256 + b) % 256 ≡ b = omega arith in
    let rest : bytes (suc k + length bs) (onward (n * 256 + b) bs) ≡ bytes (suc k) (n * 256 + b) ++ bs = back_from bs (λ i l. h (suc i) (omega arith)) (suc k) (n * 256 + b) in
    ap (λ (m : ℕ). bytes m (onward n (b ∷ bs))) (add-suc k (length bs) ∙ sym (suc-add k (length bs))) ∙ rest ∙ rw (high, low) (append_assoc (bytes k n) (b ∷ []) bs)

pub back : (bs : List ℕ) → Bytes bs → bytes (length bs) (onward 0 bs) ≡ bs
unfolding bytes
back bs h = rw zero-add at (back_from bs h 0 0)

-- a number of bytes fits their width
pub fits : (bs : List ℕ) → Bytes bs → (k n : ℕ) → n < 256 ^ k → onward n bs < 256 ^ (k + length bs)
unfolding onward
fits [] h k n below = rw add-zero below
fits (b ∷ bs) h k n below =
    let byte : b < 256 = h 0 (omega arith) in
    let up : n * 256 + b < 256 ^ suc k = rw pow-suc (omega arith) in
    rw (add-suc, ← suc-add) (fits bs (λ i l. h (suc i) (omega arith)) (suc k) (n * 256 + b) up)

-- two fields, one after the other, are one
pub joined : (w k : ℕ) (d : List ℕ) (at : ℕ) → at + w + k ≤ length d → number_at (w + k) d at ≡ number_at w d at * 256 ^ k + number_at k d (at + w)
unfolding number_at
joined w k d at h =
    let after : length (take k (drop (at + w) d)) ≡ k = length-take-le k (drop (at + w) d) (rw length-drop (omega arith)) in
    rw (take-add w k (drop at d), drop-drop w at d, onward_append 0 (take w (drop at d)) (take k (drop (at + w) d)), onward_after (onward 0 (take w (drop at d))) (take k (drop (at + w) d)), after)

pub one : (d : List ℕ) (at : ℕ) → at < length d → number_at 1 d at ≡ get_or d at 0
unfolding number_at onward
one d at h = rw (drop-cons d at 0 h) (zero-add (get_or d at 0))

-- the field at a place
module _ (w : ℕ) (d : List ℕ) (at : ℕ) where
  pub reads : (n : ℕ) (rest : List ℕ) → n < 256 ^ w → drop at d ≡ bytes w n ++ rest → (q : ℕ) → q ≡ at + w → (number_at w d at ≡ n) × (drop q d ≡ rest)
  unfolding number_at
  reads n rest h e q here = (
    rw (e, take_at (bytes w n) rest w (bytes_length w n)) (there w n h),
    rw (here, ← drop-drop w at d, e) (drop_at (bytes w n) rest w (bytes_length w n)),
  )

  module _ (there-are : at + w ≤ length d) (all : Bytes d) where
    field-length : length (take w (drop at d)) ≡ w
    field-length = length-take-le w (drop at d) (rw length-drop (omega arith))

    field-bytes : Bytes (take w (drop at d))
    field-bytes i l = rw (get_or-take w (drop at d) i 0 (rw field-length at l), get_or-drop) (all (at + i) (omega (arith, rw field-length at l)))

    pub again : bytes w (number_at w d at) ++ drop (at + w) d ≡ drop at d
    unfolding number_at
    again =
        let same : bytes w (onward 0 (take w (drop at d))) ≡ take w (drop at d) = rw field-length at (back (take w (drop at d)) field-bytes) in
        rw (same, ← drop-drop w at d) (take-append-drop w (drop at d))

    pub fits_width : number_at w d at < 256 ^ w
    unfolding number_at
    fits_width = rw (zero-add, field-length) at (fits (take w (drop at d)) field-bytes 0 0 (omega arith))

-- a byte, and the library's bytes of a number, high byte first
pub one_byte : (n : ℕ) → n < 256 → bytes 1 n ≡ n ∷ []
unfolding bytes
one_byte n h = rw (mod-eq_of_lt {n = n} {m = 256} h)

pub two_bytes : (n : ℕ) → to_be_bytes w16 n ≡ bytes 2 n
unfolding bytes
two_bytes n = refl

pub four_bytes : (n : ℕ) → to_be_bytes w32 n ≡ bytes 4 n
unfolding bytes
four_bytes n =
    let a : n / 256 / 256 / 256 % 256 ≡ n / 16777216 % 256 = omega arith in
    let b : n / 256 / 256 % 256 ≡ n / 65536 % 256 = omega arith in
    rw (a, b)
