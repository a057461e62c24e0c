-- What a correction run does to a library.
use Rattle.std.specs.Prelude.{◌≡◌, ◌<◌, ◌==◌, ◌⊎◌, not, List, [], ◌∷◌, ◌++◌, codes, length, Some}
use Rattle.std.specs.List.{filter, AllByRecursion}
use Rattle.upd_text.specs.Units.{Bytes}
use Rattle.upd_core.specs.Edits.{next_age}
use Rattle.upd_core.specs.Library.{LibraryView, deck_of}
use Rattle.upd_core.specs.Serials.{Serial}
use Rattle.upd_core.specs.Status.{live_targets}
use Rattle.upd_correct.specs.Checked.{HasTexts, IsChecked}
use Rattle.upd_correct.specs.Corrected.{active_cards}
use Rattle.upd_correct.specs.EditedText.{NewDeck}
use Rattle.upd_correct.specs.LineReads.{HasDecks}

-- a list without some of its elements
pub data IsSublist {A : Type 0} : List A → List A → Type 0 where
  None : IsSublist [] []
  Kept : (x : A) (xs ys : List A) → IsSublist xs ys → IsSublist (x ∷ xs) (x ∷ ys)
  Left : (y : A) (xs ys : List A) → IsSublist xs ys → IsSublist xs (y ∷ ys)

-- The active cards of a held deck that are not of the new set are cards that were active before. Each is as it was, and they are in
-- their order.
abbrev pub KeepsCards : LibraryView → LibraryView → NewDeck → Type 0
KeepsCards before after d =
    (deck : Serial) → deck_of d.name before ≡ Some deck
    → IsSublist (filter (λ card. not (card.ident == next_age before)) (active_cards deck after)) (active_cards deck before)

-- a run is empty, or begins with the `*IDENT` of a set
abbrev pub BeginsWithSet : Bytes → Bytes → Type 0
BeginsWithSet set run = (run ≡ []) ⊎ ((rest : Bytes) × (run ≡ codes "*IDENT " ++ (set ++ 10 ∷ rest)))

-- A run by a set leads the decks of an edited text to it, and changes nothing else. The text was taken from the library `taken`, when the
-- ident with serial `last` was the youngest; the run meets the library l. What a run meets is judged there: it is accepted, and each card
-- that is younger is as it was. The text is that of the yanks of `taken`. Where the decks have it already, the run is empty.
pub record CorrectsSince (last : Serial) (taken l : LibraryView) (set text run : Bytes) : Type 0 where
  pub decks : List NewDeck
  pub given : HasDecks text decks
  pub named : BeginsWithSet set run
  pub needed : AllByRecursion (HasTexts (live_targets taken) taken) decks → run ≡ []
  pub checked : IsChecked (live_targets taken) last l set run decks
  pub others : (deck : Serial) → deck < next_age l → AllByRecursion (λ d. deck_of d.name l ≡ Some deck → ⊥) decks
      → active_cards deck checked.after.library ≡ active_cards deck l
  pub kept : AllByRecursion (KeepsCards l checked.after.library) decks

-- the same of a text that was taken from the library that the run meets
abbrev pub CorrectsTo : LibraryView → Bytes → Bytes → Bytes → Type 0
CorrectsTo l = CorrectsSince (length l.idents) l l
