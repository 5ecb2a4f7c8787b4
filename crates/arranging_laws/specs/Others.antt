-- A call on one stream of a kind leaves every other as it was: its counters, and its part of each table.
use Rattle.std.specs.Prelude.{ℕ, ◌≤◌, ◌<◌, ◌≡◌, List, length}
use Rattle.serial.specs.declared.ItemId.{ItemId}
use Rattle.arranging_plan.specs.Ids.{place_of}
use Rattle.arranging_plan.specs.Ordered.{States, state_at, next_on, taken_on}
use Rattle.arranging.specs.Sequenced as sequenced
use Rattle.arranging.specs.declared.sequenced.SequencingStreams.{SequencingStreams}
use Rattle.arranging_laws.specs.Sound.{Whole, after_arrange, after_send}

pub record OthersUntouched : Type 0 where
  pub by_arrange : (f : ℕ) (s : States) (id i : ℕ) (p : List ℕ) (k : ℕ) → Whole f s → place_of s.counters.known id < 4 → length p ≤ f
      → (k ≡ place_of s.counters.known id → ⊥) → state_at f (after_arrange f s id i p) k ≡ state_at f s k
  pub by_take : (f : ℕ) (s : States) (id k : ℕ) → Whole f s
      → (k ≡ place_of s.counters.known id → ⊥) → state_at f (taken_on (next_on f s id) f id s) k ≡ state_at f s k
  pub by_send : (f : ℕ) (s : States) (id k : ℕ) → Whole f s → place_of s.counters.known id < 4
      → (k ≡ place_of s.counters.known id → ⊥) → state_at f (after_send s id) k ≡ state_at f s k
  -- the same of sequenced streams
  pub sequenced_by_arrange : (s : SequencingStreams) (id : ℕ) (i : ItemId) (k : ℕ) → (k ≡ place_of s.known id → ⊥)
      → sequenced.stream_at (sequenced.arranged_at s (place_of s.known id) id i).streams k ≡ sequenced.stream_at s k
  pub sequenced_by_send : (s : SequencingStreams) (id k : ℕ) → (k ≡ place_of s.known id → ⊥)
      → sequenced.stream_at (sequenced.numbered_at s (place_of s.known id) id).streams k ≡ sequenced.stream_at s k
