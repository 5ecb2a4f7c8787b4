-- From no streams on, in storage that goes from call to call unaltered, a call of the streams of a kind is never refused 13.
use Rattle.std.specs.Prelude.{ℕ, ◌+◌, ◌*◌, ◌≤◌, ◌<◌, ◌≡◌, true, List, length, Ok}
use Rattle.terms.specs.Sizes.{in_range}
use Rattle.terms.specs.declared.Sizes.{Sizes}
use Rattle.serial.specs.declared.ItemId.{ItemId}
use Rattle.ordering_plan.specs.Arrange.{plan_of, arranged}
use Rattle.arranging_plan.specs.Ids.{place_of, sound_ids}
use Rattle.arranging_plan.specs.Ordered.{part, States, lending_all, no_streams, stream_at, state_at, stored_at, next_on, taken_on, sound_all}
use Rattle.arranging.specs.Steps.{numbered_at}
use Rattle.arranging_plan.specs.Gate.{gate_of}
use Rattle.arranging.specs.Calls.{arrange_of, arranged_on, take_of}
use Rattle.arranging.specs.Sequenced as sequenced
use Rattle.arranging.specs.Sequence as sequence
use Rattle.arranging_plan.specs.declared.ids.StreamIds.{StreamIds}
use Rattle.arranging.specs.declared.sequenced.SequencingStreams.{SequencingStreams}

-- ordered streams that 13 does not refuse, in enough storage; f is F
pub record Whole (f : ℕ) (s : States) : Type 0 where
  pub small : f ≤ 1024
  pub four_ids : length s.counters.known.ids ≡ 4
  pub four_streams : length s.counters.streams ≡ 4
  pub indices : 256 ≤ length s.index
  pub lengths : 256 ≤ length s.lengths
  pub bytes : 4 * (64 * f) ≤ length s.bytes
  pub state : sound_all f s.counters s.index s.lengths ≡ true

-- which sequenced streams there are, where 13 does not refuse
pub record WholeIds (n : StreamIds) : Type 0 where
  pub four_ids : length n.ids ≡ 4
  pub state : sound_ids n ≡ true

-- after an item that came on the stream with an id, which is one of the four: its plan is carried out there
abbrev pub after_arrange : ℕ → States → ℕ → ℕ → List ℕ → States
after_arrange f s id i p =
    stored_at f s (place_of s.counters.known id) id
    (arranged (plan_of (stream_at s.counters (place_of s.counters.known id)) (part s.index (place_of s.counters.known id * 64) 64) i) f i p
    (state_at f s (place_of s.counters.known id)))

-- after an item that was sent on it
abbrev pub after_send : States → ℕ → States
after_send s id =
    lending_all (numbered_at s.counters (place_of s.counters.known id) id).streams s.index s.lengths s.bytes

pub record StaysSound : Type 0 where
  -- no streams, in any storage that is long enough, whatever it holds
  pub from_none : (f : ℕ) (index lengths bytes : List ℕ) → f ≤ 1024 → 256 ≤ length index → 256 ≤ length lengths → 4 * (64 * f) ≤ length bytes
      → Whole f (lending_all no_streams index lengths bytes)
  -- and so what any call leaves
  pub by_arrange : (f : ℕ) (s : States) (id i : ℕ) (p : List ℕ) → Whole f s → place_of s.counters.known id < 4 → length p ≤ f
      → Whole f (after_arrange f s id i p)
  pub by_take : (f : ℕ) (s : States) (id : ℕ) → Whole f s → Whole f (taken_on (next_on f s id) f id s)
  pub by_send : (f : ℕ) (s : States) (id : ℕ) → Whole f s → place_of s.counters.known id < 4 → Whole f (after_send s id)
  -- and so what a user's calls leave, refused or not
  pub by_arrange_call : (z : Sizes) (s : States) (id i : ℕ) (p out : List ℕ) → Whole z.fragment_size s
      → Whole z.fragment_size (arranged_on (arrange_of z s id i p out) z.fragment_size id i p s)
  pub by_take_call : (z : Sizes) (s : States) (id : ℕ) (out : List ℕ) → Whole z.fragment_size s
      → Whole z.fragment_size (taken_on (take_of z s id out) z.fragment_size id s)
  -- which 13 does not refuse: with sizes in range and an output that is long enough the gate is open
  pub opens : (z : Sizes) (s : States) (out : List ℕ) → in_range z ≡ true → Whole z.fragment_size s → 16 * z.fragment_size + 17 ≤ length out
      → gate_of z s out ≡ Ok tt
  -- the same of sequenced streams
  pub ids_from_none : WholeIds (sequenced.no_streams).known
  pub ids_by_arrange : (s : SequencingStreams) (id : ℕ) (i : ItemId) → WholeIds s.known → place_of s.known id < 4
      → WholeIds (sequenced.arranged_at s (place_of s.known id) id i).streams.known
  pub ids_by_send : (s : SequencingStreams) (id : ℕ) → WholeIds s.known → place_of s.known id < 4
      → WholeIds (sequenced.numbered_at s (place_of s.known id) id).streams.known
  pub ids_by_sequence_call : (s : SequencingStreams) (id : ℕ) (i : ItemId) → WholeIds s.known → WholeIds (sequence.sequenced s id i).streams.known
