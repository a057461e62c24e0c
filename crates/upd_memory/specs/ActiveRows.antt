-- The active cards of decks whose rows are in memory.
use Rattle.std.specs.Prelude.{◌≡◌, ℕ, ◌==◌, nat_le, Bool, true, ◌&&◌, ◌||◌, if◌then◌else◌, List, [], ◌∷◌, length}
use Rattle.std.specs.BTreeMap.{BTreeMap}
use Rattle.std.specs.List.{flat_map}
use Rattle.std.specs.List.Sorted.{IsStrictlySortedBy}
use Rattle.std.specs.Map.{keys_of}
use Rattle.std.specs.declared.vec.Vec.{Vec}
use Rattle.upd_text.specs.Order.{by_name}
use Rattle.upd_text.specs.Units.{Bytes}
use Rattle.upd_text.specs.declared.card_ref.CardRef.{CardRef}
use Rattle.upd_core.specs.Actives.{ActiveDeckView}
use Rattle.upd_core.specs.declared.ident.Ident.{Ident}
use Rattle.upd_records.specs.Rows.{CardRow, StateRow}
use Rattle.upd_row_store.specs.Activating.{with_active}
use Rattle.upd_row_store.specs.Assembling.{AreAgesOf, age_named}

-- whether rows are by their places, the first one at `place` or later
abbrev pub rise_from : ℕ → List CardRow → Bool
rise_from place [] = true
rise_from place (r ∷ rows) = nat_le place r.pos && rise_from r.pos rows

-- cards with their statuses stand by name, then by number, and none stands twice
abbrev pub AreInOrder : List (CardRef × Bool) → Type 0
AreInOrder pairs = IsStrictlySortedBy by_name (keys_of pairs)

-- a number is the serial of the held ident of a name, 0 where no ident has it
abbrev pub IsAgeOf : BTreeMap Bytes ℕ → Bytes → ℕ → Type 0
IsAgeOf ages name age = (idents : List Ident) → AreAgesOf idents ages → age ≡ age_named idents name

module _ (idents : List Ident) (states : List StateRow) where
  -- a deck with the active ones of these cards
  abbrev pub with_rows : ActiveDeckView → List CardRow → ActiveDeckView
  with_rows d [] = d
  with_rows d (r ∷ rows) = with_rows (with_active idents states r d) rows

  -- the active cards of a deck; none of a deck without cards, and of `YANK$$$`
  abbrev pub shown_deck : ℕ → List CardRow → List ActiveDeckView
  shown_deck age rows = if (age == 0) || (length rows == 0) then [] else with_rows (record { ident = age; cards = [] }) rows ∷ []

  -- the active cards of all decks but `YANK$$$`
  abbrev pub shown_decks : {Z : Type 0} → List (ℕ × Vec CardRow Z) → List ActiveDeckView
  shown_decks es = flat_map (λ e. shown_deck e.0 e.1.items) es
