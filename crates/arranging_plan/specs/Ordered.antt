-- The ordered streams of an end: stream j has the places 64 j to 64 j + 63 of the tables, and 64 * F bytes from j * (64 * F) on.
use Rattle.std.specs.Prelude.{ℕ, zero, suc, ◌*◌, ◌≤◌, ◌<◌, Bool, true, cond, ◌&&◌, List, ◌++◌, ◌≡◌, ltb, eqb, length, get_or, take, drop, set, replicate, Result, Ok, Err, Option, Some, None}
use Rattle.terms.specs.declared.Refusal.TheVariants.{NoStream}
use Rattle.ordering_plan.specs.Arrange.{plan_of}
use Rattle.ordering_plan.specs.declared.OrderingStream.{OrderingStream}
use Rattle.ordering_plan.specs.State.{State, lending, fresh}
use Rattle.ordering.specs.Take.{next_of, taken}
use Rattle.ordering_plan.specs.Gate.{sound}
use Rattle.ordering_plan.specs.Room.{Room}
use Rattle.arranging_plan.specs.Ids.{place_of, sound_ids, made_at, no_ids}
use Rattle.arranging_plan.specs.declared.ordered.Planned.{Planned}
use Rattle.arranging_plan.specs.declared.ordered.OrderingStreams.{OrderingStreams}
use Rattle.terms.specs.declared.Refusal.{Refusal}

-- the n entries of a table from a on, and a table with others there
abbrev pub part : List ℕ → ℕ → ℕ → List ℕ
part d a n = take n (drop a d)

abbrev pub put : List ℕ → ℕ → ℕ → List ℕ → List ℕ
put d a n p = take a d ++ (p ++ drop n (drop a d))

abbrev pub no_streams : OrderingStreams
no_streams = record { known = no_ids; streams = replicate 4 fresh }

-- all ordered streams, whole: their counters, and the tables and bytes that they are lent
pub record States : Type 0 where
  pub counters : OrderingStreams
  pub index : List ℕ
  pub lengths : List ℕ
  pub bytes : List ℕ

abbrev pub lending_all : OrderingStreams → List ℕ → List ℕ → List ℕ → States
lending_all s index lengths bytes = record { counters = s; index = index; lengths = lengths; bytes = bytes }

-- the counters at place j: a stream that is not made yet is fresh
unfoldable pub stream_at : OrderingStreams → ℕ → OrderingStream
stream_at s j = cond (ltb j s.known.made) (get_or s.streams j fresh) fresh

-- stream j of them; f is F
abbrev pub state_at : ℕ → States → ℕ → State
state_at f s j =
    lending (stream_at s.counters j) (part s.index (j * 64) 64) (part s.lengths (j * 64) 64) (part s.bytes (j * (64 * f)) (64 * f))

-- stream j is t now, under that id
abbrev pub stored_at : ℕ → States → ℕ → ℕ → State → States
stored_at f s j id t =
    record {
      counters = record { known = made_at s.counters.known j id; streams = set s.counters.streams j t.stream };
      index = put s.index (j * 64) 64 t.index;
      lengths = put s.lengths (j * 64) 64 t.lengths;
      bytes = put s.bytes (j * (64 * f)) (64 * f) t.bytes;
    }

-- what a call leaves, in the counters and in each buffer, is s
pub record LeavesAll (s : States) (counters : OrderingStreams) (index lengths bytes : List ℕ) : Type 0 where
  pub counters_are : counters ≡ s.counters
  pub index_is : index ≡ s.index
  pub lengths_are : lengths ≡ s.lengths
  pub bytes_are : bytes ≡ s.bytes

-- what the functions for the crates above require: sound streams in enough storage
pub record RoomForAll (f : ℕ) (s : States) : Type 0 where
  pub four : s.counters.known.made ≤ 4
  pub small : f ≤ 1024
  pub indices : 256 ≤ length s.index
  pub lengths : 256 ≤ length s.lengths
  pub bytes : 4 * (64 * f) ≤ length s.bytes
  pub each : (j : ℕ) → j < 4 → Room f (state_at f s j)

-- an item comes on the stream with an id: 7 where it would be a fifth, else what module 4 says
unfoldable pub plan_on : OrderingStreams → List ℕ → ℕ → ℕ → Planned
plan_on s index id i =
    cond (eqb (place_of s.known id) 4) (record { at = 4; plan = Err NoStream })
    (record { at = place_of s.known id; plan = plan_of (stream_at s (place_of s.known id)) (part index (place_of s.known id * 64) 64) i })

-- the item that is expected on the stream with an id; on one that is not made there is none
unfoldable pub next_on : ℕ → States → ℕ → Result (Option ℕ) Refusal
next_on f s id =
    cond (ltb (place_of s.counters.known id) s.counters.known.made) (next_of (state_at f s (place_of s.counters.known id))) (Ok None)

abbrev pub taken_on : Result (Option ℕ) Refusal → ℕ → ℕ → States → States
taken_on (Ok (Some n)) f id s =
    stored_at f s (place_of s.counters.known id) id (taken (Ok (Some n)) f (state_at f s (place_of s.counters.known id)))
taken_on (Ok None) f id s = s
taken_on (Err why) f id s = s

-- not 13: which streams there are, and each of them
unfoldable pub each_sound : ℕ → OrderingStreams → List ℕ → List ℕ → ℕ → Bool
each_sound f s index lengths zero = true
each_sound f s index lengths (suc j) =
    each_sound f s index lengths j && sound f (stream_at s j) (part index (j * 64) 64) (part lengths (j * 64) 64)

unfoldable pub sound_all : ℕ → OrderingStreams → List ℕ → List ℕ → Bool
sound_all f s index lengths = sound_ids s.known && each_sound f s index lengths s.known.made
