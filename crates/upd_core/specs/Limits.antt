-- The sizes of a library, and their limits.
use Rattle.std.specs.Prelude.{ℕ, ◌+◌, nat_le, Bool, ◌&&◌, length, sum_by, count_by}
use Rattle.upd_text.specs.declared.limits.TheConstants.{MAX_HELD, MAX_INTRODUCED, MAX_CARDS, MAX_ENTRIES, MAX_TARGETS}
use Rattle.upd_core.specs.Library.{LibraryView, all_decks}

-- the number of cards of a library, those of decks that aren't loaded included
abbrev pub card_count : LibraryView → ℕ
card_count l = l.rest.cards + sum_by (λ d. length d.cards) (all_decks l)

-- the number of entries in its histories, those of decks that aren't loaded included
abbrev pub entry_count : LibraryView → ℕ
entry_count l = l.rest.entries + sum_by (λ d. sum_by (λ c. length c.history) d.cards) (all_decks l)

-- the number of targets on its yank cards
abbrev pub target_count : LibraryView → ℕ
target_count l = sum_by (λ c. length c.targets) l.yanks

-- the number of its held idents
abbrev pub held_count : LibraryView → ℕ
held_count l = count_by (λ i. i.held) l.idents

-- whether a library is within all its limits
abbrev pub is_within_limits : LibraryView → Bool
is_within_limits l =
    nat_le (length l.idents) MAX_INTRODUCED && nat_le (held_count l) MAX_HELD && nat_le (card_count l) MAX_CARDS
    && nat_le (entry_count l) MAX_ENTRIES && nat_le (target_count l) MAX_TARGETS
