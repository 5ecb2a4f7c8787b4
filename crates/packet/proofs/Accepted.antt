-- What proofs use of `read_of` in place of its text.
--     accepted, reads_as    what a datagram that reads as headers is, and the way back
--     within                where its payload starts
--     known_means, known_is what is known of its first five bytes, and the way back
-- Assumes nothing.
use mathlib.Core.Path.{◌≡◌, refl, sym, ap}
use mathlib.Core.Bool.{Bool, true, false, cond, not, ◌||◌}
use mathlib.Core.List.{List}
use Prim.Native.Nat.{ℕ, ◌-◌, ◌≤◌, ◌<◌}
use lib.ListN.{length}
use lib.Dec.{ltb, leb, eqb}
use borrow.Author.Tests.{ltb-false, le-ltb, leb-false, lt-leb, eqb-true, eq-eqb}
use Rattle.std.specs.Prelude.{Err}
use Rattle.laws.proofs.Cases.{both, no_answer, same_answer}
use Rattle.terms.specs.declared.Refusal.TheVariants.{CouldNotReadHeader, BadHeader}
use Rattle.packet_table.specs.declared.Headers.{Headers}
use Rattle.packet_table.specs.Numbers.{number_at}
use Rattle.packet_table.specs.Table.{follows, misfit}
use Rattle.packet_table.specs.Layout.{payload_at}
use Rattle.packet.specs.declared.Found.{Found}
use Rattle.packet.specs.Read.{standard_of, headers_of, following_read, unknown, read_of, found}

-- the headers that a datagram would read as
abbrev pub found_in : List ℕ → Headers
found_in d = headers_of (standard_of d) (follows (standard_of d)) d

pub record Accepted (v : ℕ) (d : List ℕ) : Type 0 where
  pub long : 5 ≤ length d
  pub known : unknown v d ≡ false
  pub fit : misfit (standard_of d) (follows (standard_of d)) (length d - 5) ≡ false
  pub room : payload_at (follows (standard_of d)) (found_in d).fragment.id ≤ length d

module _ (v : ℕ) (d : List ℕ) where
  pub accepted : (h : Headers) (at : ℕ) → read_of v d ≡ found h at
      → Accepted v d × (h ≡ found_in d) × (at ≡ payload_at (follows (standard_of d)) (found_in d).fragment.id)
  unfolding read_of following_read
  accepted h at e = go _ _ _ _ refl refl refl refl e
    where
      go : (a b c g : Bool) → ltb (length d) 5 ≡ a → unknown v d ≡ b → misfit (standard_of d) (follows (standard_of d)) (length d - 5) ≡ c
          → ltb (length d) (payload_at (follows (standard_of d)) (found_in d).fragment.id) ≡ g
          → cond a (Err CouldNotReadHeader) (cond (b || c) (Err BadHeader) (cond g (Err CouldNotReadHeader) (found (found_in d) (payload_at (follows (standard_of d)) (found_in d).fragment.id)))) ≡ found h at
          → Accepted v d × (h ≡ found_in d) × (at ≡ payload_at (follows (standard_of d)) (found_in d).fragment.id)
      go true b c g p q r t e = no_answer e
      go false true c g p q r t e = no_answer e
      go false false true g p q r t e = no_answer e
      go false false false true p q r t e = no_answer e
      go false false false false p q r t e =
          let same = same_answer e in
          (record { long = ltb-false _ _ p; known = q; fit = r; room = ltb-false _ _ t }, sym (ap (λ (x : Found). x.headers) same), sym (ap (λ (x : Found). x.at) same))

  -- the payload starts inside the datagram, or at its end
  pub within : (h : Headers) (at : ℕ) → read_of v d ≡ found h at → at ≤ length d
  within h at e =
      let means = accepted h at e in
      rw means.2 means.0.room

  pub reads_as : Accepted v d → read_of v d ≡ found (found_in d) (payload_at (follows (standard_of d)) (found_in d).fragment.id)
  unfolding read_of following_read
  reads_as a = rw (le-ltb _ _ a.long, a.known, a.fit, le-ltb _ _ a.room)

  -- V and the three bytes are known
  pub record Known : Type 0 where
    pub version : number_at 2 d 0 ≡ v
    pub type-known : number_at 1 d 2 < 3
    pub delivery-known : number_at 1 d 3 < 2
    pub ordering-known : number_at 1 d 4 < 3

  pub known_means : unknown v d ≡ false → Known
  unfolding unknown
  known_means e = go _ _ _ _ refl refl refl refl e
    where
      go : (a b c g : Bool) → eqb (number_at 2 d 0) v ≡ a → leb 3 (number_at 1 d 2) ≡ b → leb 2 (number_at 1 d 3) ≡ c → leb 3 (number_at 1 d 4) ≡ g
          → (not a || (b || (c || g))) ≡ false → Known
      go false b c g p q r t e = both refl e
      go true true c g p q r t e = both refl e
      go true false true g p q r t e = both refl e
      go true false false true p q r t e = both refl e
      go true false false false p q r t e = record {
        version = eqb-true _ _ p;
        type-known = leb-false _ _ q;
        delivery-known = leb-false _ _ r;
        ordering-known = leb-false _ _ t;
      }

  pub known_is : Known → unknown v d ≡ false
  unfolding unknown
  known_is k = rw (eq-eqb _ _ k.version, lt-leb _ _ k.type-known, lt-leb _ _ k.delivery-known, lt-leb _ _ k.ordering-known)
