-- What a builder answers, and what it leaves in the output.
use Rattle.std.specs.Prelude.{ℕ, ◌+◌, ◌≡◌, cond, List, ◌++◌, length, drop, ltb, Result, Ok, Err}
use Rattle.terms.specs.declared.Refusal.TheVariants.{BadStorage, BadHeader}
use Rattle.terms.specs.Refusals.{number_of}
use Rattle.packet_table.specs.declared.Headers.{Headers}
use Rattle.packet_table.specs.declared.table.Following.{Following}
use Rattle.packet_table.specs.Table.{follows, misfit}
use Rattle.packet_table.specs.Layout.{payload_at, datagram}
use Rattle.terms.specs.declared.Refusal.{Refusal}

-- 4 first: a combination that is not listed has no length that 2 could be judged by
unfoldable pub build_of : Headers → List ℕ → List ℕ → Result ℕ Refusal
build_of h payload output =
    let f : Following = follows h.standard in
    let end : ℕ = payload_at f h.fragment.id + length payload in
    cond (misfit h.standard f (length payload)) (Err BadHeader)
    (cond (ltb (length output) end) (Err BadStorage)
    (Ok end))

-- a datagram is at the start of the output, whose other bytes stay; a refusal leaves all unchanged
abbrev pub leaves : Result ℕ Refusal → List ℕ → List ℕ → List ℕ
leaves (Ok end) d output = d ++ drop end output
leaves (Err why) d output = output

-- document 01's number for each answer, 0 where nothing is refused
abbrev pub number_of_built : Result ℕ Refusal → ℕ
number_of_built (Ok end) = 0
number_of_built (Err why) = number_of why

-- what the builder answers and leaves
pub record Builds (v : ℕ) (h : Headers) (payload output : List ℕ) (answer : Result ℕ Refusal) (after : List ℕ) : Type 0 where
  pub answers : answer ≡ build_of h payload output
  pub leaves_output : after ≡ leaves (build_of h payload output) (datagram v h payload) output

-- "bytes after an item stay"
abbrev pub over : List ℕ → List ℕ → List ℕ
over d output = d ++ drop (length d) output

-- a datagram is at the start of the output, and is so long
pub record Writes (d output : List ℕ) (count : ℕ) (after : List ℕ) : Type 0 where
  pub length_is : count ≡ length d
  pub output_is : after ≡ over d output
