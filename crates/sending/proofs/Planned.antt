-- What is to become of an item rung by rung, and what is known where nothing is refused. Assumes nothing.
use mathlib.Core.Path.{◌≡◌, refl, sym, ap, ◌∙◌}
use mathlib.Core.Bool.{true, false}
use mathlib.Core.List.{List}
use mathlib.Core.Logic.{⊎_elim}
use Prim.Native.Nat.{ℕ, ◌%◌, ◌≤◌, ◌<◌}
use native.Mathlib.Nat.{le_trans, div-eq_of_lt, div_self, mod_self}
use native.Mathlib.Omega.{arith}
use lib.Dec.{ltb, eqb}
use lib.ListN.{length, take}
use borrow.Author.Tests.{lt-ltb, le-ltb, ltb-false, eqb-false, ne_eqb}
use Rattle.std.specs.Prelude.{Result, Ok, Err}
use Rattle.laws.proofs.Cases.{case, neither, lt_or_le, no_answer}
use Rattle.keys.proofs.First.{first_le}
use Rattle.terms.specs.declared.Sizes.{Sizes}
use Rattle.terms.specs.declared.Refusal.{Refusal}
use Rattle.terms.specs.declared.Refusal.TheVariants.{BadHeader, TooLong, Full, NoStream, ExceededMaxFragments}
use Rattle.splitter.specs.Split.{needed}
use Rattle.flight.specs.Entry.{numbers_in}
use Rattle.flight.proofs.Room.{place_le, full_place}
use Rattle.flight.proofs.Words.{numbers_length}
use Rattle.arranging_plan.specs.declared.ids.StreamIds.{StreamIds}
use Rattle.arranging_plan.specs.Ids.{place_of}
use Rattle.arranging_plan.specs.declared.ordered.OrderingStreams.{OrderingStreams}
use Rattle.arranging.specs.declared.sequenced.SequencingStreams.{SequencingStreams}
use Rattle.packet_table.specs.declared.DeliveryGuarantee.{DeliveryGuarantee}
use Rattle.packet_table.specs.declared.DeliveryGuarantee.TheVariants.{Unreliable, Reliable}
use Rattle.packet_table.specs.declared.OrderingGuarantee.{OrderingGuarantee}
use Rattle.packet_table.specs.declared.OrderingGuarantee.TheVariants.{None, Sequenced, Ordered}
use Rattle.datagrams.specs.Datagrams.{count_of}
use Rattle.datagrams.proofs.Fits.{take_most}
use Rattle.sending.specs.Plan.{is_listed, is_long, place_by, stream_place, is_full, flight_place, plan_of}
use Rattle.datagrams.specs.declared.Item.{Item}
use Rattle.sending.specs.declared.plan.Sending.{Sending}

module _ (f n : ℕ) (i : Item) where
  pub not_over : is_long f i n ≡ false → n ≤ 65535
  unfolding is_long
  not_over e = ltb-false 65535 n (neither (ltb 65535 n) _ e).0

one_at_most : (f n : ℕ) → 1 ≤ f → n ≤ f → needed n f ≤ 1
unfolding needed
one_at_most f n pos short =
    ⊎_elim
    (λ (less : n < f). rw (div-eq_of_lt less) (case (ltb 0 (n % f)) (λ e. rw e (omega arith)) (λ e. rw e (omega arith))))
    (λ (no_less : f ≤ n). let same : n ≡ f = omega arith in rw (same, div_self pos, mod_self f) (omega arith))
    (lt_or_le n f)

-- 8 by the number of datagrams: an item to F is one of them, however small, and M is at least 1
pub as_many : (m f n : ℕ) → 1 ≤ m → 1 ≤ f → ltb m (count_of f n) ≡ ltb m (needed n f)
unfolding count_of
as_many m f n some pos =
    ⊎_elim
    (λ (over : f < n). rw (lt-ltb f n over) refl)
    (λ (short : n ≤ f). rw (le-ltb f n short, le-ltb m 1 some, le-ltb m (needed n f) (le_trans (one_at_most f n pos short) some)) refl)
    (lt_or_le f n)

-- 6 is that there is no place
pub no_place : (d : DeliveryGuarantee) (n : ℕ) (number : List ℕ) → 1 ≤ length number
    → is_full d n number ≡ eqb (flight_place d n number) (length number)
no_place Unreliable n number some = sym (ne_eqb 0 (length number) (λ e. omega arith))
no_place Reliable n number some =
    full_place n (numbers_in number) (rw (numbers_length number) some) ∙ ap (eqb (flight_place Reliable n number)) (numbers_length number)

pub place_most : (d : DeliveryGuarantee) (n : ℕ) (number : List ℕ) → 1 ≤ length number → flight_place d n number ≤ length number
place_most Unreliable n number some = omega arith
place_most Reliable n number some =
    omega (arith, place_le n (numbers_in number) (rw (numbers_length number) some), numbers_length number)

four : (s : StreamIds) (id : ℕ) → s.made ≤ 4 → place_of s id ≤ 4
four s id h = omega (arith, first_le id (take s.made s.ids), take_most s.made s.ids)

stream_most : (o : OrderingGuarantee) (id : ℕ) (ordered : OrderingStreams) (sequenced : SequencingStreams)
    → ordered.known.made ≤ 4
    → sequenced.known.made ≤ 4
    → place_by o id ordered sequenced ≤ 4
stream_most None id ordered sequenced a b = omega arith
stream_most Sequenced id ordered sequenced a b = four sequenced.known id b
stream_most Ordered id ordered sequenced a b = four ordered.known id a

same : (p q : Sending) → ◌≡◌ {A = Result Sending Refusal} (Ok p) (Ok q) → p ≡ q
same p q e = cc

module _ (z : Sizes) (n : ℕ) (ordered : OrderingStreams) (sequenced : SequencingStreams) (number : List ℕ) (i : Item) (size : ℕ) where
  abbrev F : ℕ
  F = z.fragment_size

  abbrev M : ℕ
  M = z.max_fragments

  abbrev Stream : ℕ
  Stream = stream_place i ordered sequenced

  abbrev P : Result Sending Refusal
  P = plan_of z n ordered sequenced number i size

  pub unlisted : is_listed i ≡ false → P ≡ Err BadHeader
  unfolding plan_of
  unlisted a = rw a

  pub too_long : is_listed i ≡ true → is_long F i size ≡ true → P ≡ Err TooLong
  unfolding plan_of
  too_long a b = rw (a, b)

  pub too_many : is_listed i ≡ true → is_long F i size ≡ false → ltb M (needed size F) ≡ true → P ≡ Err ExceededMaxFragments
  unfolding plan_of
  too_many a b d = rw (a, b, d)

  pub fifth : is_listed i ≡ true → is_long F i size ≡ false → ltb M (needed size F) ≡ false → eqb Stream 4 ≡ true → P ≡ Err NoStream
  unfolding plan_of
  fifth a b d e = rw (a, b, d, e)

  pub no_room : is_listed i ≡ true → is_long F i size ≡ false → ltb M (needed size F) ≡ false → eqb Stream 4 ≡ false
      → is_full i.delivery n number ≡ true
      → P ≡ Err Full
  unfolding plan_of
  no_room a b d e g = rw (a, b, d, e, g)

  pub goes : is_listed i ≡ true → is_long F i size ≡ false → ltb M (needed size F) ≡ false → eqb Stream 4 ≡ false
      → is_full i.delivery n number ≡ false
      → P ≡ Ok (record { at = flight_place i.delivery n number; stream = Stream })
  unfolding plan_of
  goes a b d e g = rw (a, b, d, e, g)

  -- an item that no rung refuses
  pub record Accepted (q : Sending) : Type 0 where
    pub listed : is_listed i ≡ true
    pub short : is_long F i size ≡ false
    pub few : needed size F ≤ M
    pub at_place : q.at < length number
    pub on_stream_lem : q.stream < 4

  module _ (some : 1 ≤ length number) (a4 : ordered.known.made ≤ 4) (b4 : sequenced.known.made ≤ 4) (q : Sending) (sends : P ≡ Ok q) where
    passed : is_listed i ≡ true → is_long F i size ≡ false → ltb M (needed size F) ≡ false → eqb Stream 4 ≡ false
        → is_full i.delivery n number ≡ false
        → Accepted q
    passed a b d e g =
        let here = same (record { at = flight_place i.delivery n number; stream = Stream }) q (sym (goes a b d e g) ∙ sends) in
        let at_is : flight_place i.delivery n number ≡ q.at = ap (λ (p : Sending). p.at) here in
        let stream_is : Stream ≡ q.stream = ap (λ (p : Sending). p.stream) here in
        let free = eqb-false (flight_place i.delivery n number) (length number) (sym (no_place i.delivery n number some) ∙ g) in
        let known = eqb-false Stream 4 e in
        record {
          listed = a;
          short = b;
          few = ltb-false M (needed size F) d;
          at_place = below (flight_place i.delivery n number) (length number) q.at at_is free (place_most i.delivery n number some);
          on_stream_lem = below Stream 4 q.stream stream_is known (stream_most i.ordering i.stream ordered sequenced a4 b4);
        }
      where
        below : (a b x : ℕ) → a ≡ x → (a ≡ b → ⊥) → a ≤ b → x < b
        below a b x e ne le = ⊎_elim (λ l. omega arith) (λ l. absurd (ne (omega arith))) (lt_or_le a b)

    pub accepted : Accepted q
    accepted =
        case (is_listed i)
        (λ a.
        case (is_long F i size)
        (λ b. no_answer (sym (too_long a b) ∙ sends))
        (λ b.
        case (ltb M (needed size F))
        (λ d. no_answer (sym (too_many a b d) ∙ sends))
        (λ d.
        case (eqb Stream 4)
        (λ e. no_answer (sym (fifth a b d e) ∙ sends))
        (λ e.
        case (is_full i.delivery n number)
        (λ g. no_answer (sym (no_room a b d e g) ∙ sends))
        (λ g. passed a b d e g)))))
        (λ a. no_answer (sym (unlisted a) ∙ sends))
