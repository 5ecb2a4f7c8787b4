-- Document 01, module 3: "Pieces of F, the last shorter; an empty payload has none."
use Rattle.std.specs.Prelude.{ℕ, zero, suc, ◌+◌, ◌*◌, ◌/◌, ◌%◌, ◌≤◌, ◌<◌, cond, not, ◌≡◌, length, get_or, take, drop, ltb, Result, Ok, Err}
use mathlib.Core.List.{List, [], ◌∷◌, flatten}
use Rattle.terms.specs.Refusals.{number_of}
use Rattle.terms.specs.Sizes.{in_range}
use Rattle.terms.specs.declared.Sizes.{Sizes}
use Rattle.terms.specs.declared.Refusal.TheVariants.{BadSizes, TooLong, ExceededMaxFragments}
use Rattle.terms.specs.declared.Refusal.{Refusal}

-- the first `most` pieces of f bytes
unfoldable pub cut : ℕ → ℕ → List ℕ → List (List ℕ)
cut zero f l = []
cut (suc most) f [] = []
cut (suc most) f (x ∷ l) = take f (x ∷ l) ∷ cut most f (drop f (x ∷ l))

-- all of them: there are at most as many as bytes
abbrev pub pieces : ℕ → List ℕ → List (List ℕ)
pieces f l = cut (length l) f l

-- how many they are, as the code counts them
unfoldable pub needed : ℕ → ℕ → ℕ
needed n f = n / f + cond (ltb 0 (n % f)) 1 0

-- 1; 5: "a payload to send over 65,535"; 8: "sending: more than M needed"
unfoldable pub split_of : Sizes → ℕ → Result ℕ Refusal
split_of s n =
    cond (not (in_range s)) (Err BadSizes)
    (cond (ltb 65535 n) (Err TooLong)
    (cond (ltb s.max_fragments (needed n s.fragment_size)) (Err ExceededMaxFragments)
    (Ok (needed n s.fragment_size))))

-- 01's number for each answer, 0 where nothing is refused
abbrev pub number_of_split : Result ℕ Refusal → ℕ
number_of_split (Ok count) = 0
number_of_split (Err why) = number_of why

-- what the pieces of a payload are
pub record Splits : Type 0 where
  -- in order they are the payload,
  pub whole : (f : ℕ) (payload : List ℕ) → 1 ≤ f → flatten (pieces f payload) ≡ payload
  -- they are as many as are counted,
  pub count : (f : ℕ) (payload : List ℕ) → 1 ≤ f → length (pieces f payload) ≡ needed (length payload) f
  -- none is empty, and none has more than f bytes,
  pub some : (f : ℕ) (payload : List ℕ)
      → 1 ≤ f
      → (j : ℕ)
      → j < length (pieces f payload)
      → (1 ≤ length (get_or (pieces f payload) j [])) × (length (get_or (pieces f payload) j []) ≤ f)
  -- all but the last have f bytes,
  pub full : (f : ℕ) (payload : List ℕ)
      → 1 ≤ f
      → (j : ℕ)
      → suc j < length (pieces f payload)
      → length (get_or (pieces f payload) j []) ≡ f
  -- and piece j has the bytes from j f on
  pub place : (f : ℕ) (payload : List ℕ) → 1 ≤ f → (j : ℕ) → get_or (pieces f payload) j [] ≡ take f (drop (j * f) payload)
