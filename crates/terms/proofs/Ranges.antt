-- What sizes in range say, size by size. Assumes nothing.
use mathlib.Core.Path.{◌≡◌}
use mathlib.Core.Bool.{true}
use Prim.Native.Nat.{ℕ, ◌≤◌}
use lib.Dec.{leb}
use borrow.Author.Tests.{leb-true}
use Rattle.laws.proofs.Cases.{each}
use Rattle.terms.specs.Sizes.{between, in_range}
use Rattle.terms.specs.declared.Sizes.{Sizes}

within : (size most : ℕ) → between size most ≡ true → (1 ≤ size) × (size ≤ most)
unfolding between
within size most e =
    let h = each (leb 1 size) (leb size most) e in
    (leb-true 1 size h.0, leb-true size most h.1)

pub record InRange (s : Sizes) : Type 0 where
  pub f : (1 ≤ s.fragment_size) × (s.fragment_size ≤ 1024)
  pub c : (1 ≤ s.reassembly_slots) × (s.reassembly_slots ≤ 64)
  pub m : (1 ≤ s.max_fragments) × (s.max_fragments ≤ 16)
  pub n : (1 ≤ s.packets_in_flight) × (s.packets_in_flight ≤ 256)

pub in_range_means : (s : Sizes) → in_range s ≡ true → InRange s
unfolding in_range
in_range_means s e =
    let p = each (between s.fragment_size 1024) _ e in
    let q = each (between s.reassembly_slots 64) _ p.1 in
    let r = each (between s.max_fragments 16) (between s.packets_in_flight 256) q.1 in
    record {
      f = within s.fragment_size 1024 p.0;
      c = within s.reassembly_slots 64 q.0;
      m = within s.max_fragments 16 r.0;
      n = within s.packets_in_flight 256 r.1;
    }
