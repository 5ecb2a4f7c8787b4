-- The theorems, put together. Assumes nothing.
use Prim.Native.Nat.{ℕ}
use mathlib.Core.Path.{◌≡◌, refl}
use mathlib.Core.Bool.{true}
use mathlib.Core.List.{List}
use native.Mathlib.Omega.{arith}
use lib.Seq.{get_or-set_other}
use Rattle.keys.specs.Keys.{twice}
use Rattle.sequencing.specs.declared.SequencingStream.{SequencingStream}
use Rattle.arranging_plan.specs.Ids.{place_of, sound_ids, no_ids}
use Rattle.arranging_plan.specs.Ordered.{no_streams, sound_all}
use Rattle.arranging.specs.Sequenced as sequenced
use Rattle.arranging.specs.declared.sequenced.SequencingStreams.{SequencingStreams}
use Rattle.arranging_laws.specs.Sound.{StaysSound}
use Rattle.arranging_laws.specs.Others.{OthersUntouched}
use Rattle.arranging_laws.proofs.Ids.{made_whole}
use Rattle.arranging_laws.proofs.Stored.{made_other, all_of}
use Rattle.arranging_laws.proofs.Stays.{after_arrange_lem, after_take_lem, after_send_lem, arrange_others, take_others, send_others}
use Rattle.arranging_laws.proofs.Called.{opens, arrange-call, take_call, sequence_call}

no_ids_lem : sound_ids no_ids ≡ true
unfolding sound_ids twice
no_ids_lem = refl

none_sound : (f : ℕ) (index lengths : List ℕ) → sound_all f no_streams index lengths ≡ true
none_sound f index lengths = all_of f no_streams index lengths no_ids_lem (λ j h. absurd (omega arith))

pub stays_sound : StaysSound
stays_sound =
    record {
      from_none = λ f index lengths bytes a b c d.
          record {
            small = a;
            four_ids = refl;
            four_streams = refl;
            indices = b;
            lengths = c;
            bytes = d;
            state = none_sound f index lengths;
          };
      by_arrange = λ f s id i p w h fits. after_arrange_lem f s id w i p h fits;
      by_take = λ f s id w. after_take_lem f s id w;
      by_send = λ f s id w h. after_send_lem f s id w h;
      by_arrange_call = λ z s id i p out w. arrange-call z s id out w i p;
      by_take_call = λ z s id out w. take_call z s id out w;
      opens = opens;
      ids_from_none = record { four_ids = refl; state = no_ids_lem };
      ids_by_arrange = λ s id i w h. made_whole s.known w id h;
      ids_by_send = λ s id w h. made_whole s.known w id h;
      ids_by_sequence_call = sequence_call;
    }

-- the same of sequenced streams
kept_sequenced : (s : SequencingStreams) (j id : ℕ) (t : SequencingStream) (k : ℕ) → (k ≡ j → ⊥)
    → sequenced.stream_at (sequenced.stored_at s j id t) k ≡ sequenced.stream_at s k
unfolding sequenced.stream_at
kept_sequenced s j id t k ne = rw (made_other s.known j id k ne, get_or-set_other s.streams j k t _ ne)

pub others_untouched : OthersUntouched
others_untouched =
    record {
      by_arrange = λ f s id i p k w h fits ne. arrange_others f s id w i p k h fits ne;
      by_take = λ f s id k w ne. take_others f s id w k ne;
      by_send = λ f s id k w h ne. send_others f s id w k h ne;
      sequenced_by_arrange = λ s id i k ne. kept_sequenced s (place_of s.known id) id _ k ne;
      sequenced_by_send = λ s id k ne. kept_sequenced s (place_of s.known id) id _ k ne;
    }
