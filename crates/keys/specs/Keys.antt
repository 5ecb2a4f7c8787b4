-- A column of keys: an entry below 65,536 is a key, any other is none.
use Rattle.std.specs.Prelude.{ℕ, suc, Bool, false, cond, ◌&&◌, ◌||◌, List, [], ◌∷◌, Option, Some, None, ltb, eqb}

-- the first place of a key: the column's length where it is not there
unfoldable pub first_place : ℕ → List ℕ → ℕ
first_place k [] = 0
first_place k (x ∷ xs) = cond (eqb x k) 0 (suc (first_place k xs))

-- a place that was found below n, where there is one
abbrev pub found : ℕ → ℕ → Option ℕ
found at n = cond (ltb at n) (Some at) None

-- an entry stands in the column
unfoldable pub occurs : ℕ → List ℕ → Bool
occurs v [] = false
occurs v (x ∷ xs) = eqb x v || occurs v xs

-- 01, at 13: "one table has its key twice": a key stands in the column, and again after that
unfoldable pub twice : List ℕ → Bool
twice [] = false
twice (x ∷ xs) = (ltb x 65536 && occurs x xs) || twice xs
