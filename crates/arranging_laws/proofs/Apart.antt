-- A table in which one stream's part was put. Assumes nothing.
--     put_here, put_there     that part is what was put, every other is as it was
use Prim.Native.Nat.{ℕ, ◌+◌, ◌≤◌}
use mathlib.Core.Path.{◌≡◌, sym, ap, ◌∙◌}
use mathlib.Core.List.{List, append_assoc}
use mathlib.Core.Logic.{◌⊎◌}
use native.Mathlib.Omega.{arith}
use lib.ListN.{length, take, drop}
use lib.Seq.{take-length, drop-drop, paste, length-paste}
use Rattle.laws.proofs.Paste.{part_same, part_other}
use Rattle.arranging_plan.specs.Ordered.{part, put}

module _ (d p : List ℕ) (a n : ℕ) (whole : length p ≡ n) (room : a + n ≤ length d) where
  take_all : take n p ≡ p
  take_all = ap (λ (k : ℕ). take k p) (sym whole) ∙ take-length p

  as_paste : put d a n p ≡ paste d a p n
  as_paste = rw (take_all, drop-drop) (sym (append_assoc (take a d) p (drop (a + n) d)))

  pub put_length : length (put d a n p) ≡ length d
  put_length = rw as_paste (length-paste d a p n room (omega arith))

  pub put_here : part (put d a n p) a n ≡ p
  put_here = rw as_paste (part_same d a p n room (omega arith) ∙ take_all)

  pub put_there : (b m : ℕ) → (b + m ≤ a) ⊎ (a + n ≤ b) → part (put d a n p) b m ≡ part d b m
  put_there b m o = rw as_paste (part_other d a p n b m room (omega arith) o)
