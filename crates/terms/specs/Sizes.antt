-- Document 01, "Sizes of a link".
use Rattle.std.specs.Prelude.{ℕ, Bool, ◌&&◌, leb}
use Rattle.terms.specs.declared.Sizes.{Sizes}

-- 1 to `most`
unfoldable pub between : ℕ → ℕ → Bool
between size most = leb 1 size && leb size most

-- "fragment size F 1..1,024; reassembly slots C 1..64; most fragments M 1..16; in-flight packets N 1..256; version word V 0..65,535"
unfoldable pub in_range : Sizes → Bool
in_range s =
    between s.fragment_size 1024 && (between s.reassembly_slots 64 && (between s.max_fragments 16 && between s.packets_in_flight 256))
