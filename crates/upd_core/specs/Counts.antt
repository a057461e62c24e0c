-- The sizes that are stored with a library.
use Rattle.std.specs.Prelude.{◌≡◌, ℕ, ◌-◌, ◌^◌, min}
use Rattle.upd_core.specs.declared.counts.Counts.{Counts}
use Rattle.upd_core.specs.Library.{LibraryView}
use Rattle.upd_core.specs.Limits.{held_count, card_count, entry_count, target_count}

-- a count that saturates at the greatest number of 64 bits
abbrev pub capped : ℕ → ℕ
capped n = min n (2 ^ 64 - 1)

-- the counts are those of the library
pub record AreOf (l : LibraryView) (counts : Counts) : Type 0 where
  pub held : counts.held ≡ capped (held_count l)
  pub cards : counts.cards ≡ capped (card_count l)
  pub entries : counts.entries ≡ capped (entry_count l)
  pub targets : counts.targets ≡ capped (target_count l)
