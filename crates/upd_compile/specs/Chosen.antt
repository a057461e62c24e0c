-- The decks that changed, and the decks of a compile file.
use Rattle.std.specs.Prelude.{ℕ, zero, suc, ◌==◌, Bool, true, false, not, ◌&&◌, ◌||◌, if◌then◌else◌, IsTrue, Contains, List, [], ◌∷◌, map, length, None}
use Rattle.std.specs.Option.{option_map_or}
use Rattle.std.specs.List.{filter, filter_map, list_any}
use Rattle.std.specs.Str.{bytes_eq}
use Rattle.upd_core.specs.Actives.{ActiveCardView, ActiveDeckView, ActivesView}
use Rattle.upd_core.specs.Edits.{is_among}
use Rattle.upd_core.specs.Library.{is_common}
use Rattle.upd_text.specs.Lines.{is_call, called}
use Rattle.upd_compile.specs.declared.mode.Mode.{Mode}
use Rattle.upd_compile.specs.declared.mode.Mode.TheVariants.{Full, Quick, Normal}
use Rattle.upd_compile.specs.Idents.{passes}
use Rattle.upd_compile.specs.Walk.{deck_aged, common_named, text_cards}

-- of the same ident, number and text
abbrev pub same_card : ActiveCardView → ActiveCardView → Bool
same_card c e = (c.ident == e.ident) && (c.number == e.number) && bytes_eq c.text e.text

-- the same cards in the same order
abbrev pub same_cards : List ActiveCardView → List ActiveCardView → Bool
same_cards [] [] = true
same_cards [] (e ∷ es) = false
same_cards (c ∷ cs) [] = false
same_cards (c ∷ cs) (e ∷ es) = same_card c e && same_cards cs es

-- a deck changed where it is new, or its active cards differ
abbrev pub is_changed : ActivesView → ActiveDeckView → Bool
is_changed before d = option_map_or (λ was. not (same_cards was.cards d.cards)) (deck_aged d.ident before) true

-- the decks that changed, in order of serial
abbrev pub changed : ActivesView → ActivesView → List ℕ
changed before after = map (λ d. d.ident) (filter (is_changed before) after.decks)

-- whether a deck is a common one
abbrev pub is_common_deck : ActivesView → ActiveDeckView → Bool
is_common_deck a d = passes (λ i. is_common i.kind) a.idents d.ident

-- whether a change of a common deck is passed on to its callers
abbrev pub is_passed_on : ActivesView → ActiveDeckView → Bool
is_passed_on a d = not (passes (λ i. i.noprop) a.idents d.ident)

-- the held common decks that a deck's active cards call
abbrev pub called_decks : ActivesView → ActiveDeckView → List ActiveDeckView
called_decks a d = filter_map (λ c. if is_call c.text then common_named (called c.text) a else None) (text_cards d)

-- Whether a deck has a chain of at most n calls to a changed common deck. Each common deck on it passes changes on.
abbrev pub has_chain_within : ℕ → ActivesView → ActivesView → ActiveDeckView → Bool
has_chain_within zero before a d = false
has_chain_within (suc n) before a d =
    list_any (λ c. is_passed_on a c && (is_changed before c || has_chain_within n before a c)) (called_decks a d)

-- whether a deck has a chain to a changed common deck; a chain that calls no deck twice has at most as many calls as there are decks
abbrev pub has_chain : ActivesView → ActivesView → ActiveDeckView → Bool
has_chain before a d = has_chain_within (length a.decks) before a d

-- a deck calls a common deck that passes changes on
abbrev pub Calls : ActivesView → ActiveDeckView → ActiveDeckView → Type 0
Calls a d c = IsTrue (is_passed_on a c) × Contains (called_decks a d) c

-- Chains as paths: one call, or a call and a chain from the called deck.
pub data Chain (before a : ActivesView) : ActiveDeckView → Type 0 where
  Call : (d c : ActiveDeckView) → Calls a d c → IsTrue (is_changed before c) → Chain before a d
  Through : (d c : ActiveDeckView) → Calls a d c → Chain before a c → Chain before a d

-- whether a mode chooses a deck that isn't common
abbrev pub chooses : Mode → List ℕ → ActivesView → ActivesView → ActiveDeckView → Bool
chooses Full named before after d = true
chooses Quick named before after d = is_among named d.ident
chooses Normal named before after d = is_among named d.ident || is_changed before d || has_chain before after d

-- the decks of a compile file in library order
abbrev pub chosen : Mode → List ℕ → ActivesView → ActivesView → List ActiveDeckView
chosen mode named before after = filter (λ d. not (is_common_deck after d) && chooses mode named before after d) after.decks
