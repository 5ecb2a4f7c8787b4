-- Bytes written into an output, one run after the other.
-- Assumes nothing.
use mathlib.Core.Path.{◌≡◌, sym, ap, ◌∙◌}
use mathlib.Core.List.{List, [], ◌∷◌, ◌++◌, append_assoc, append-nil}
use Prim.Native.Nat.{ℕ, ◌+◌, ◌-◌, ◌≤◌, ◌<◌}
use native.Mathlib.Numerals.{add-one}
use native.Mathlib.Nat.{add-zero, zero-add, add_assoc}
use native.Mathlib.Omega.{arith}
use lib.ListN.{length, take, drop, set, length-append, length-drop, take-append-drop, drop_of_length-le}
use lib.Seq.{length-take-le, take-length, take_all, take_at, drop-append-add, drop-drop, set_split}
use Rattle.packet_table.specs.Numbers.{written}

pub stored : (o : List ℕ) (at n : ℕ) → at < length o → set o at n ≡ written at (n ∷ []) o
unfolding written
stored o at n h = rw add-one (set_split o at n h)

module _ (o : List ℕ) (at : ℕ) where
  pub none : written at [] o ≡ o
  unfolding written
  none = rw add-zero (take-append-drop at o)

  -- a is k bytes long
  module _ (a : List ℕ) (k : ℕ) (long : length a ≡ k) (room : at + k ≤ length o) where
    head : length (take at o ++ a) ≡ at + k
    head = rw (length-append, length-take-le at o (omega arith), long)

    pub same_length : length (written at a o) ≡ length o
    unfolding written
    same_length = rw (length-append, length-append, length-take-le at o (omega arith), length-drop) (omega arith)

    -- what is written next stands after it
    pub onto : (q : ℕ) → q ≡ at + k → (b : List ℕ) → written q b (written at a o) ≡ written at (a ++ b) o
    unfolding written
    onto q here b =
        let p : List ℕ = take at o ++ a in
        let r : List ℕ = drop (at + k) o in
        let seam : take at o ++ (a ++ r) ≡ p ++ r = sym (append_assoc (take at o) a r) in
        let before : take (at + k) (p ++ r) ≡ p = take_at p r (at + k) head in
        let after : drop (at + k + length b) (p ++ r) ≡ drop (at + (k + length b)) o =
        ap (λ (n : ℕ). drop (n + length b) (p ++ r)) (sym head) ∙ drop-append-add p r (length b) ∙ drop-drop (length b) (at + k) o ∙ ap (λ (n : ℕ). drop n o) (add_assoc at k (length b)) in
        rw (here, long, seam, before, after, length-append, long, append_assoc (take at o) a, append_assoc a b)

-- three runs, of i bytes, of j bytes and the last
pub three : (o : List ℕ) (at : ℕ) (a b e : List ℕ) (i j p q : ℕ) → length a ≡ i → length b ≡ j → p ≡ at + i → q ≡ p + j → q ≤ length o
    → written q e (written p b (written at a o)) ≡ written at (a ++ (b ++ e)) o
three o at a b e i j p q la lb hp hq room =
    onto (written at a o) p b j lb (rw (same_length o at a i la (omega arith)) (omega arith)) q hq e
    ∙ onto o at a i la (omega arith) p hp (b ++ e)

-- a payload that is copied into the part from a place on
pub put : (o p : List ℕ) (at : ℕ) → at + length p ≤ length o
    → take at o ++ (take (length p) p ++ drop (length p) (take (length o - at) (drop at o)) ++ drop (length o - at) (drop at o)) ≡ written at p o
unfolding written
put o p at room =
    let rest : length (drop at o) ≡ length o - at = length-drop at o in
    rw (
      take-length p,
      take_all (length o - at) (drop at o) (omega arith),
      drop_of_length-le (drop at o) {i = length o - at} (omega arith),
      append-nil,
      drop-drop,
    )

pub at_start : (o b : List ℕ) → written 0 b o ≡ b ++ drop (length b) o
unfolding written
at_start o b = rw zero-add
