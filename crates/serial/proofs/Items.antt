-- An item's identifier is known by its number. Assumes nothing.
use Rattle.std.proofs.Common.{◌≡◌, ℕ, ap}
use Rattle.serial.specs.declared.ItemId.{ItemId}

abbrev item_of : ℕ → ItemId
item_of n = record { 0 = n }

pub named : (a : ItemId) (n : ℕ) → a.0 ≡ n → a ≡ item_of n
named a n e = ap item_of e
