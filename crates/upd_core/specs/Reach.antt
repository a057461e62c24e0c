-- Which cards a target covers, and which cards are reached when counts of targets change.
use Rattle.std.specs.Prelude.{ℕ, ◌==◌, Bool, true, false, not, ◌&&◌, ◌||◌, List, map}
use Rattle.std.specs.List.{list_any, filter, flat_map}
use Rattle.upd_core.specs.declared.card.Entry.{Entry}
use Rattle.upd_core.specs.declared.target.Target.{Target}
use Rattle.upd_core.specs.declared.target.Target.TheVariants.{Set, SetIn, Deck}
use Rattle.upd_text.specs.declared.card_ref.CardRef.{CardRef}
use Rattle.upd_core.specs.Library.{CardView, LibraryView, all_decks, ref_of}

-- whether a card has an entry of an ident
abbrev pub has_entry_of : ℕ → CardView → Bool
has_entry_of z c = list_any (λ e. e.ident == z) c.history

-- An ident covers the cards that have an entry of it; an ident in a deck covers those of them in the deck; a deck covers all its cards.
abbrev pub covers : ℕ → CardView → Target → Bool
covers d c (Set z) = has_entry_of z c
covers d c (SetIn z a) = has_entry_of z c && (a == d)
covers d c (Deck a) = a == d

-- the cards that a target covers, in order of deck (`YANK$$$` first) and place
abbrev pub covered : Target → LibraryView → List CardRef
covered t l = flat_map (λ d. map (ref_of l.idents) (filter (λ c. covers d.ident c t) d.cards)) (all_decks l)

-- whether two truths differ
abbrev pub differs : Bool → Bool → Bool
differs true b = not b
differs false b = b

-- whether the count of a target is 0 in exactly one of before and now
abbrev pub is_flipped : (Target → ℕ) → (Target → ℕ) → Target → Bool
is_flipped before now t = differs (before t == 0) (now t == 0)

-- whether the ident of an entry may have become taken, or no longer taken, in deck d
abbrev pub is_retaken : (Target → ℕ) → (Target → ℕ) → ℕ → Entry → Bool
is_retaken before now d e = is_flipped before now (Set e.ident) || is_flipped before now (SetIn e.ident d)

-- whether a flipped target covers a card of deck d
abbrev pub is_reached : (Target → ℕ) → (Target → ℕ) → ℕ → CardView → Bool
is_reached before now d c = list_any (is_retaken before now d) c.history || is_flipped before now (Deck d)
