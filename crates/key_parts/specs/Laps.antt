-- Columns whose entries are as far from each other as their places, but for multiples of 33.
use Rattle.std.specs.Prelude.{◌≡◌, ℕ, ◌+◌, ◌*◌, ◌%◌, ◌<◌, List, slice_index}

-- an entry is its place and less than 32 laps of 33, with wrap-around
pub record InLap (place entry : ℕ) : Type 0 where
  pub laps : ℕ
  pub few : laps < 32
  pub is : entry ≡ (place + 33 * laps) % 4294967296

-- each entry is above the first by its place and some laps of 33, counted from 15 laps below on, with wrap-around
pub record Lapped (l : List ℕ) : Type 0 where
  pub lap : ℕ → ℕ
  pub few : (i : ℕ) → i < 33 → lap i < 32
  pub each : (i : ℕ) → i < 33 → (slice_index l i + 495) % 4294967296 ≡ (slice_index l 0 + (i + 33 * lap i)) % 4294967296
