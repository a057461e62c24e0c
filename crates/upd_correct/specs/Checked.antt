-- What a correction run does to a library, as it is checked from the libraries before and after it.
use Rattle.std.specs.Prelude.{◌≡◌, ◌≤◌, ◌+◌, ◌⊎◌, false, true, not, is_some, IsTrue, List, [], ◌∷◌, length, take, drop, Some, None, Result, Ok}
use Rattle.std.specs.List.{filter, filter_map, AllByRecursion, AllZip}
use Rattle.upd_text.specs.declared.fault.Fault.{Fault}
use Rattle.upd_text.specs.Outcome.{◌>>=◌}
use Rattle.upd_text.specs.Units.{Bytes}
use Rattle.upd_core.specs.declared.ident.Ident.{Ident}
use Rattle.upd_core.specs.declared.ident.Kind.TheVariants.{Set}
use Rattle.upd_core.specs.declared.target.Target.{Target}
use Rattle.upd_core.specs.Edits.{is_among, next_age}
use Rattle.upd_core.specs.Library.{CardView, DeckView, LibraryView, cards_of, deck_of}
use Rattle.upd_core.specs.Serials.{Serial}
use Rattle.upd_core.specs.Status.{is_active, live_targets}
use Rattle.upd_deck.specs.Items.{LineView}
use Rattle.upd_deck.specs.Reading.{reading}
use Rattle.upd_apply.specs.Applying.{Reached, applied}
use Rattle.upd_correct.specs.Corrected.{kind_of, switched_off, texts_under}
use Rattle.upd_correct.specs.EditedText.{NewDeck, texts_of}

-- A card of deck d stays as it is. Or, if it is not younger than ident `last`, and active for the text, it gets one entry of set z, and is off.
pub data IsLeft (taken live : List Target) (d z last : Serial) (old new : CardView) : Type 0 where
  Stays : old ≡ new → IsLeft taken live d z last old new
  Goes : old.ident ≤ last → IsTrue (is_active taken d old) → new ≡ switched_off z old → is_active live d new ≡ false
      → IsLeft taken live d z last old new

-- The cards of deck d before and after a run by set z: the old cards in their order, and among them active cards of z.
pub data AreLeft (taken live : List Target) (d z last : Serial) : List CardView → List CardView → Type 0 where
  Empty : AreLeft taken live d z last [] []
  Old : (old new : CardView) (olds news : List CardView) → (new.ident ≡ z → ⊥) → IsLeft taken live d z last old new
      → AreLeft taken live d z last olds news → AreLeft taken live d z last (old ∷ olds) (new ∷ news)
  New : (new : CardView) (olds news : List CardView) → new.ident ≡ z → IsTrue (is_active live d new) → AreLeft taken live d z last olds news
      → AreLeft taken live d z last olds (new ∷ news)

-- a deck keeps its serial, and is as it was unless it is among the named ones
abbrev pub IsDeckLeft : List Serial → DeckView → DeckView → Type 0
IsDeckLeft named old new = (new.ident ≡ old.ident) × (is_among named old.ident ≡ false → old ≡ new)

-- the decks of a text that are new
abbrev pub new_decks : LibraryView → List NewDeck → List NewDeck
new_decks l decks = filter (λ d. not (is_some (deck_of d.name l))) decks

-- the serials of the decks of a text that are held
abbrev pub held_serials : LibraryView → List NewDeck → List Serial
held_serials l decks = filter_map (λ d. deck_of d.name l) decks

-- decks have the serials n, n + 1, ..
abbrev pub AreDecksFrom : Serial → List DeckView → Type 0
AreDecksFrom n [] = Unit {0}
AreDecksFrom n (d ∷ decks) = (d.ident ≡ n) × AreDecksFrom (n + 1) decks

-- the idents of new decks from serial a on
abbrev pub deck_idents : Serial → List NewDeck → List Ident
deck_idents a [] = []
deck_idents a (d ∷ decks) = record { name = d.name; age = a; kind = kind_of d; noprop = d.noprop; held = true } ∷ deck_idents (a + 1) decks

-- the idents of a set and of new decks
abbrev pub brought : Serial → Bytes → List NewDeck → List Ident
brought a set decks = record { name = set; age = a; kind = Set; noprop = false; held = true } ∷ deck_idents (a + 1) decks

-- a run introduces its set and the new decks; the empty run introduces nothing
abbrev pub Brings : Bytes → Serial → Bytes → List NewDeck → List Ident → Type 0
Brings run a set added idents = ((run ≡ []) × (added ≡ []) × (idents ≡ [])) ⊎ (idents ≡ brought a set added)

-- Each old card of a held deck of the text is as it was or, if it is not younger than `last` and active where the targets `taken` are live, it
-- is switched off. The other cards of the deck are of the new set.
abbrev pub LeavesCards : List Target → Serial → LibraryView → LibraryView → NewDeck → Type 0
LeavesCards taken last before after d =
    (deck : Serial) → deck_of d.name before ≡ Some deck
    → AreLeft taken (live_targets before) deck (next_age before) last (cards_of deck before) (cards_of deck after)

-- the cards of a new deck of the text are its own, and active
abbrev pub HasOwnCards : List Target → LibraryView → LibraryView → NewDeck → Type 0
HasOwnCards taken before after d =
    deck_of d.name before ≡ None → (deck : Serial) → deck_of d.name after ≡ Some deck
    → AreLeft taken (live_targets before) deck deck deck [] (cards_of deck after)

-- the same of each deck of the text, held or new
abbrev pub LeadsCards : List Target → Serial → LibraryView → LibraryView → NewDeck → Type 0
LeadsCards taken last before after d = LeavesCards taken last before after d × HasOwnCards taken before after d

-- a deck is held under its name, and the texts of its cards that are active where these targets are live are those of its lines
abbrev pub HasTexts : List Target → LibraryView → NewDeck → Type 0
HasTexts live l d = (deck : Serial) × (deck_of d.name l ≡ Some deck) × (texts_under live deck l ≡ texts_of d)

-- A library after a run by a set that leads the decks of a text to it, where these targets are live. The directory and the decks are the old
-- ones and then the new ones; each card that is younger than `last` is as it was.
pub record Corrects (live : List Target) (last : Serial) (l : LibraryView) (set run : Bytes) (decks : List NewDeck) (after : LibraryView) : Type 0 where
  pub idents : l.idents ≡ take (length l.idents) after.idents
  pub brings : Brings run (next_age l) set (new_decks l decks) (drop (length l.idents) after.idents)
  pub yanks : l.yanks ≡ after.yanks
  pub rest : l.rest ≡ after.rest
  pub others : AllZip (IsDeckLeft (held_serials l decks)) l.decks (take (length l.decks) after.decks)
  pub added : AreDecksFrom (next_age l + 1) (drop (length l.decks) after.decks)
  pub count : length (drop (length l.decks) after.decks) ≡ length (new_decks l decks)
  pub texts : AllByRecursion (HasTexts live after) decks
  pub cards : AllByRecursion (LeadsCards live last l after) decks

-- the result of the bytes of a run on a library
abbrev pub result_of : Bytes → LibraryView → Result Reached Fault
result_of run l = reading run >>= (λ lines. applied lines l)

-- A run that is read and accepted, names nothing for compiling, and corrects a library.
pub record IsChecked (live : List Target) (last : Serial) (l : LibraryView) (set run : Bytes) (decks : List NewDeck) : Type 0 where
  pub lines : List LineView
  pub after : Reached
  pub read : reading run ≡ Ok lines
  pub accepted : applied lines l ≡ Ok after
  pub compile : after.compile ≡ []
  pub corrects : Corrects live last l set run decks after.library
