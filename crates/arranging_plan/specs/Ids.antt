-- "At most 4 ordering and 4 sequencing streams, any ids 0..255": which streams of a kind there are.
use Rattle.std.specs.Prelude.{ℕ, ◌+◌, Bool, cond, not, ◌&&◌, leb, eqb, take, set, replicate}
use Rattle.keys.specs.Keys.{first_place, twice}
use Rattle.arranging_plan.specs.declared.ids.StreamIds.{StreamIds}

abbrev pub no_ids : StreamIds
no_ids = record { made = 0; ids = replicate 4 0 }

-- the place of a stream: where it is not made yet, the place that it would have
abbrev pub place_of : StreamIds → ℕ → ℕ
place_of n id = first_place id (take n.made n.ids)

-- not 13: "a number of things held, is over what its .. table holds .. or one table has its key twice (.. the id among the
-- streams of a kind)"
unfoldable pub sound_ids : StreamIds → Bool
sound_ids n = leb n.made 4 && not (twice (take n.made n.ids))

-- "a stream is made by its first accepted item"
abbrev pub made_at : StreamIds → ℕ → ℕ → StreamIds
made_at n j id = record { made = cond (eqb j n.made) (n.made + 1) n.made; ids = set n.ids j id }
