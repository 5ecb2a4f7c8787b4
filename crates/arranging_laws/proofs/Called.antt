-- What a user's calls leave, from what the plans leave. Assumes nothing.
use Prim.Native.Nat.{ℕ, ◌+◌, ◌*◌, ◌≤◌, ◌<◌}
use mathlib.Core.Path.{◌≡◌, refl}
use mathlib.Core.Bool.{true}
use mathlib.Core.List.{List}
use mathlib.Core.Logic.{⊎_elim}
use native.Mathlib.Omega.{arith}
use borrow.Author.Tests.{eqb-false}
use lib.Dec.{eqb}
use lib.ListN.{length}
use Rattle.std.specs.Prelude.{Result, Ok, Err, ⊤}
use Rattle.laws.proofs.Cases.{case, lt_or_le}
use Rattle.terms.specs.Sizes.{in_range}
use Rattle.terms.specs.declared.Sizes.{Sizes}
use Rattle.serial.specs.declared.ItemId.{ItemId}
use Rattle.arranging_plan.specs.Ids.{place_of}
use Rattle.arranging_plan.specs.Ordered.{States, plan_on, taken_on}
use Rattle.arranging_plan.specs.Gate.{gate_of, is_refused}
use Rattle.arranging.specs.Calls.{arrange_of, arranged_on, take_of}
use Rattle.arranging.specs.Sequence.{sequenced}
use Rattle.arranging.specs.declared.sequenced.SequencingStreams.{SequencingStreams}
use Rattle.arranging_plan.proofs.Parts.{place_lt}
use Rattle.arranging_plan.proofs.Sound.{all_ids, ids_four}
use Rattle.arranging_plan.proofs.Gates.{long_enough, gate_open, accepted}
use Rattle.arranging.proofs.Answers.{arrange_shut, arrange_long, arrange_open, take_shut, take_open}
use Rattle.arranging_laws.specs.Sound.{Whole, WholeIds}
use Rattle.arranging_laws.proofs.Ids.{made_whole}
use Rattle.arranging_laws.proofs.Stays.{after_arrange_lem, after_take_lem}
use Rattle.terms.specs.declared.Refusal.{Refusal}

pub opens : (z : Sizes) (s : States) (out : List ℕ) → in_range z ≡ true → Whole z.fragment_size s → 16 * z.fragment_size + 17 ≤ length out
    → gate_of z s out ≡ Ok tt
opens z s out r w h =
    let b = w.bytes in
    gate_open z s out r (long_enough z.fragment_size s.index s.lengths s.bytes out w.indices w.lengths (omega arith) h) w.state

module _ (z : Sizes) (s : States) (id : ℕ) (out : List ℕ) (w : Whole z.fragment_size s) where
  abbrev F : ℕ
  F = z.fragment_size

  four : s.counters.known.made ≤ 4
  four = ids_four s.counters.known (all_ids F s.counters s.index s.lengths w.state)

  module _ (i : ℕ) (p : List ℕ) where
    planned : length p ≤ F → Whole F (arranged_on (plan_on s.counters s.index id i).plan F id i p s)
    planned fits =
        case (is_refused (plan_on s.counters s.index id i).plan)
        (λ e. rw e w)
        (λ e.
        let a = accepted s id i e in
        let l = w.four_ids in
        let q = four in
        rw (e, a.plan_is) (after_arrange_lem F s id w i p (place_lt s.counters.known id q (omega arith) a.other) fits))

    pub arrange-call : Whole F (arranged_on (arrange_of z s id i p out) F id i p s)
    arrange-call = go (gate_of z s out) refl
      where
        go : (g : Result ⊤ Refusal) → gate_of z s out ≡ g → Whole F (arranged_on (arrange_of z s id i p out) F id i p s)
        go (Err why) e = rw (arrange_shut z s id out why i p e) w
        go (Ok tt) e =
            ⊎_elim (λ (h : F < length p). rw (arrange_long z s id out i p e h) w) (λ (h : length p ≤ F). rw (arrange_open z s id out i p e h) (planned h))
            (lt_or_le F (length p))

  pub take_call : Whole F (taken_on (take_of z s id out) F id s)
  take_call = go (gate_of z s out) refl
    where
      go : (g : Result ⊤ Refusal) → gate_of z s out ≡ g → Whole F (taken_on (take_of z s id out) F id s)
      go (Err why) e = rw (take_shut z s id out why e) w
      go (Ok tt) e = rw (take_open z s id out e) (after_take_lem F s id w)

pub sequence_call : (s : SequencingStreams) (id : ℕ) (i : ItemId) → WholeIds s.known → WholeIds (sequenced s id i).streams.known
unfolding sequenced
sequence_call s id i w =
    rw w.state
    (case (eqb (place_of s.known id) 4) (λ e. rw e w)
    (λ e.
    let l = w.four_ids in
    let q = ids_four s.known w.state in
    rw e (made_whole s.known w id (place_lt s.known id q (omega arith) (eqb-false (place_of s.known id) 4 e)))))
