-- A listed layout reads as its headers; what reads as headers is a listed layout; so reader and builder are inverse.
-- Assumes nothing.
use mathlib.Core.Path.{◌≡◌, refl, sym, ◌∙◌}
use mathlib.Core.Bool.{Bool, true, false, cond}
use mathlib.Core.List.{List, ◌++◌, append_assoc}
use Prim.Native.Nat.{ℕ, ◌+◌, ◌-◌, ◌≤◌}
use native.Mathlib.Omega.{arith}
use lib.ListN.{length, drop, length-drop}
use lib.Seq.{take_at}
use Rattle.std.specs.Prelude.{Ok}
use Rattle.packet_table.specs.declared.StandardHeader.{StandardHeader}
use Rattle.packet_table.specs.declared.FragmentHeader.{FragmentHeader}
use Rattle.packet_table.specs.declared.Headers.{Headers}
use Rattle.packet_table.specs.declared.table.Following.{Following}
use Rattle.packet_table.specs.declared.table.Following.TheVariants.{Unlisted, Nothing, Arranging, Acknowledgment, AcknowledgmentArranging, Fragment}
use Rattle.packet_table.specs.Numbers.{Bytes}
use Rattle.packet_table.specs.Table.{follows, has_fragment, has_acked, has_arranging, misfit}
use Rattle.packet_table.specs.Layout.{part, fragment_bytes, acked_bytes, arranging_bytes, following_bytes, acked_at, arranging_at, payload_at, datagram}
use Rattle.packet.specs.Read.{standard_of, no_fragment, no_acked, no_arranging, fragment_of, acked_of, arranging_of, headers_of, read_of, found}
use Rattle.packet.specs.Build.{build_of}
use Rattle.packet_laws.specs.Inverse.{Fits, carried, start, sent, Inverse, Layout, AcceptsLayouts}
use Rattle.packet_table.proofs.Rule.{type_below, delivery_below, ordering_below}
use Rattle.packet_table.proofs.Lengths.{datagram_length}
use Rattle.packet_laws.proofs.Parsed.{StandardParsed, standard_parsed, fragment_parsed, acked_parsed, arranging_parsed}
use Rattle.packet_laws.proofs.Reprinted.{standard_again, fragment-again, acked-again, arranging-again, fragment-fits, acked-fits, arranging-fits}
use Rattle.packet_table.proofs.Width.{fits_width}
use Rattle.packet.proofs.Accepted.{Accepted, Known, known_means, found_in, accepted, within, reads_as, known_is}
use Rattle.packet_laws.proofs.Laws.{fit_same, built, told}

-- the id is consulted of a fragment alone
acked_same : (f : Following) (x : FragmentHeader) → has_acked f (cond (has_fragment f) x no_fragment).id ≡ has_acked f x.id
acked_same Unlisted x = refl
acked_same Nothing x = refl
acked_same Arranging x = refl
acked_same Acknowledgment x = refl
acked_same AcknowledgmentArranging x = refl
acked_same Fragment x = refl

module _ (v : ℕ) (h : Headers) (p : List ℕ) (fits : Fits v h) where
  parsed : StandardParsed v h.standard (datagram v h p) (following_bytes (follows h.standard) h ++ p)
  unfolding datagram
  parsed = standard_parsed v h.standard (datagram v h p) (following_bytes (follows h.standard) h ++ p) fits.version refl

  record Parts (f : Following) (d : List ℕ) : Type 0 where
    fragment-is : fragment_of (has_fragment f) d 5 ≡ cond (has_fragment f) h.fragment no_fragment
    same_id : has_acked f (fragment_of (has_fragment f) d 5).id ≡ has_acked f h.fragment.id
    acked-is : acked_of (has_acked f h.fragment.id) d (acked_at f) ≡ (carried h).acked
    arranging-is : arranging_of (has_arranging f) d (arranging_at f h.fragment.id) ≡ (carried h).arranging
    rest : drop (payload_at f h.fragment.id) d ≡ p

  parts : Parts (follows h.standard) (datagram v h p)
  unfolding following_bytes carried
  parts =
      let f : Following = follows h.standard in
      let d : List ℕ = datagram v h p in
      let id : ℕ = h.fragment.id in
      let third : List ℕ = part (has_arranging f) (arranging_bytes h.arranging) ++ p in
      let second : List ℕ = part (has_acked f id) (acked_bytes h.acked) ++ third in
      let flat : drop 5 d ≡ part (has_fragment f) (fragment_bytes h.fragment) ++ second = parsed.after ∙ simp append_assoc in
      let a = fragment_parsed d 5 second (has_fragment f) h.fragment fits.fragment_number fits.id fits.count flat in
      let b = acked_parsed d (acked_at f) third (has_acked f id) h.acked fits.number fits.acked fits.field a.1 in
      let c = arranging_parsed d (arranging_at f id) p (has_arranging f) h.arranging fits.index fits.stream b.1 in
      record {
        fragment-is = a.0;
        same_id = rw a.0 (acked_same f h.fragment);
        acked-is = b.0;
        arranging-is = c.0;
        rest = c.1;
      }

  found_is : found_in (datagram v h p) ≡ carried h
  unfolding headers_of carried
  found_is = rw (parsed.standard, parts.same_id, parts.acked-is, parts.arranging-is, parts.fragment-is)

  place_is : payload_at (follows (standard_of (datagram v h p))) (found_in (datagram v h p)).fragment.id ≡ start h
  unfolding headers_of
  place_is = rw (parsed.standard, parts.same_id)

  layout_accepted : misfit h.standard (follows h.standard) (length p) ≡ false → Accepted v (datagram v h p)
  layout_accepted fit =
      let long : length (datagram v h p) ≡ start h + length p = datagram_length v h p in
      record {
        long = omega arith;
        known = known_is v (datagram v h p) (record {
          version = parsed.version;
          type-known = rw parsed.type_is (type_below h.standard.packet_type);
          delivery-known = rw parsed.delivery_is (delivery_below h.standard.delivery);
          ordering-known = rw parsed.ordering_is (ordering_below h.standard.ordering);
        });
        fit = rw (parsed.standard, long) (fit_same h.standard h.fragment.id (length p) ∙ fit);
        room = rw place_is (omega arith);
      }

  pub layout_reads : misfit h.standard (follows h.standard) (length p) ≡ false
      → (read_of v (datagram v h p) ≡ found (carried h) (start h)) × (drop (start h) (datagram v h p) ≡ p)
  layout_reads fit = (rw (reads_as v (datagram v h p) (layout_accepted fit), place_is, found_is), parts.rest)

-- a header that is left out once is left out
once : {A : Type 0} (b : Bool) (x y : A) → cond b (cond b x y) y ≡ cond b x y
once true x y = refl
once false x y = refl

module _ (v : ℕ) (d : List ℕ) (all : Bytes d) (a : Accepted v d) where
  known : Known v d
  known = known_means v d a.known

  -- the headers that follow are those bytes
  following_again : (s : StandardHeader) (f : Following) → payload_at f (headers_of s f d).fragment.id ≤ length d
      → following_bytes f (headers_of s f d) ++ drop (payload_at f (headers_of s f d).fragment.id) d ≡ drop 5 d
  unfolding following_bytes headers_of
  following_again s f room =
      let i : ℕ = (fragment_of (has_fragment f) d 5).id in
      simp append_assoc
      (rw (
        arranging-again d all (arranging_at f i) (has_arranging f) room,
        acked-again d all (acked_at f) (has_acked f i) (omega arith),
        fragment-again d all 5 (has_fragment f) (omega arith),
      ))

  layout_is : d ≡ datagram v (found_in d) (drop (start (found_in d)) d)
  unfolding datagram headers_of
  layout_is =
      sym (rw (following_again (standard_of d) (follows (standard_of d)) a.room) (standard_again d all v a.long known.version known.type-known known.delivery-known known.ordering-known))

  layout_fits : Fits v (found_in d)
  unfolding headers_of
  layout_fits =
      let f : Following = follows (standard_of d) in
      let i : ℕ = (fragment_of (has_fragment f) d 5).id in
      let room : payload_at f i ≤ length d = a.room in
      let x = fragment-fits d all 5 (has_fragment f) (omega arith) in
      let y = acked-fits d all (acked_at f) (has_acked f i) (omega arith) in
      let z = arranging-fits d all (arranging_at f i) (has_arranging f) room in
      record {
        version = rw known.version at (fits_width 2 d 0 (omega (arith, a.long)) all);
        fragment_number = x.0;
        id = x.1;
        count = x.2;
        number = y.0;
        acked = y.1;
        field = y.2;
        index = z.0;
        stream = z.1;
      }

  layout_once : carried (found_in d) ≡ found_in d
  unfolding carried headers_of
  layout_once =
      let f : Following = follows (standard_of d) in
      let i : ℕ = (fragment_of (has_fragment f) d 5).id in
      rw (
        once (has_fragment f) _ no_fragment,
        once (has_acked f i) _ no_acked,
        once (has_arranging f) _ no_arranging,
      )

  layout_listed : misfit (standard_of d) (follows (standard_of d)) (length (drop (start (found_in d)) d)) ≡ false
  unfolding headers_of
  layout_listed =
      let s : StandardHeader = standard_of d in
      let f : Following = follows s in
      let i : ℕ = (fragment_of (has_fragment f) d 5).id in
      let room : payload_at f i ≤ length d = a.room in
      let n : ℕ = length d - payload_at f i in
      let sum : payload_at f i + n - 5 ≡ length d - 5 = omega arith in
      rw length-drop (sym (fit_same s i n) ∙ rw sum a.fit)

  pub layout_of : Layout v (found_in d) (start (found_in d)) (drop (start (found_in d)) d) d
  unfolding headers_of
  layout_of = record { fits = layout_fits; listed = layout_listed; no_other = layout_once; starts = refl; is = layout_is }

only : (v : ℕ) (d : List ℕ) (h : Headers) (at : ℕ) → Bytes d → read_of v d ≡ found h at → Layout v h at (drop at d) d
unfolding headers_of
only v d h at all e =
    let means = accepted v d h at e in
    rw (means.2, means.1) (layout_of v d all means.0)

pub accepts : AcceptsLayouts
accepts = record {
  only = only;
  all = λ v h at p d l.
      let back = layout_reads v h p l.fits l.listed in
      rw (l.is, l.starts) (rw l.no_other at back.0, back.1);
}

-- what a builder leaves begins with the datagram
sent_is : (v : ℕ) (h : Headers) (p o : List ℕ) (end : ℕ) → build_of h p o ≡ Ok end → end ≡ start h + length p → sent v h p o end ≡ datagram v h p
sent_is v h p o end e n = rw e (take_at (datagram v h p) (drop end o) end (datagram_length v h p ∙ sym n))

pub inverse : Inverse
inverse = record {
  read_back = λ v h p o end fits e.
      let means = told h p o end e in
      rw (sent_is v h p o end e means.2) (layout_reads v h p fits means.0);
  built_again = λ v d h at o all e room.
      let l = only v d h at all e in
      let inside : at ≤ length d = within v d h at e in
      let long : start h + length (drop at d) ≡ length d = rw (← l.starts, length-drop) (omega arith) in
      let made : build_of h (drop at d) o ≡ Ok (length d) = rw long at (built h (drop at d) o l.listed (rw long room)) in
      (made, sent_is v h (drop at d) o (length d) made (sym long) ∙ sym l.is);
}
