-- Places of f bytes, of 64, and what copies leave there. Assumes nothing.
--     place_end, place_room     the 64 places lie within 64 * f bytes
--     copied_in                 a copy into the rest of a buffer
--     copied_out                a copy of a part of a buffer
--     paste_own                 a copy of what is there already
use Prim.Native.Nat.{ℕ, ◌+◌, ◌-◌, ◌*◌, ◌≤◌, ◌<◌}
use mathlib.Core.Path.{◌≡◌, refl, sym}
use mathlib.Core.List.{List, [], ◌++◌, append_assoc, append-nil}
use native.Mathlib.Nat.{mul-le-mul_right, suc-mul, add-sub_cancel_left}
use native.Mathlib.Omega.{arith}
use lib.ListN.{length, take, drop, length-drop, drop_of_length-le, take-append-drop}
use lib.Seq.{length-take-le, take-length, drop-drop, paste}

pub place_end : (k f : ℕ) → k < 64 → k * f + f ≤ 64 * f
place_end k f h = rw suc-mul at (mul-le-mul_right f h)

pub place_room : (k f l n : ℕ) → k < 64 → l ≤ f → 64 * f ≤ n → k * f + l ≤ n
place_room k f l n h q p = omega (arith, place_end k f h)

pub paste_own : (d : List ℕ) (at n : ℕ) → d ≡ paste d at (drop at d) n
paste_own d at n =
    rw (append_assoc (take at d) (take n (drop at d)) (drop (at + n) d), ← (drop-drop n at d), take-append-drop n (drop at d), take-append-drop at d) refl

-- a whole source copied over a part that is as long
pub copied_in : (d p q : List ℕ) (at : ℕ) → at + length p ≤ length d
    → q ≡ take (length p) p ++ drop (length p) (take (at + length p - at) (drop at d))
    → take at d ++ (q ++ drop (at + length p - at) (drop at d)) ≡ paste d at p (length p)
copied_in d p q at h e =
    let n : ℕ = length p in
    let z : length (take n (drop at d)) ≡ n = length-take-le n (drop at d) (rw (length-drop at d) (omega arith)) in
    let none : drop n (take n (drop at d)) ≡ [] = drop_of_length-le (take n (drop at d)) {i = n} (omega arith) in
    rw (e, add-sub_cancel_left, none, append-nil, drop-drop) (sym (append_assoc (take at d) (take n p) (drop (at + n) d)))

-- a part copied to the start of the output
pub copied_out : (d out : List ℕ) (at n : ℕ)
    → take (length (take (at + n - at) (drop at d))) (take (at + n - at) (drop at d)) ++ drop (length (take (at + n - at) (drop at d))) out
    ≡ take n (drop at d) ++ drop (length (take n (drop at d))) out
copied_out d out at n = rw (add-sub_cancel_left, take-length)
