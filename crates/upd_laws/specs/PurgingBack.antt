-- Runs without purges: how a library grows by them, and what is left once their idents are purged.
use Rattle.std.specs.Prelude.{◌≡◌, ℕ, ◌<◌, ◌≤◌, Bool, false, not, IsTrue, List, [], ◌∷◌, ◌++◌, length, Result, Ok}
use Rattle.std.specs.List.{list_all, AllByRecursion}
use Rattle.upd_core.specs.declared.card.Entry.{Entry}
use Rattle.upd_text.specs.declared.fault.Fault.{Fault}
use Rattle.upd_core.specs.declared.ident.Ident.{Ident}
use Rattle.upd_core.specs.Edits.{next_age}
use Rattle.upd_core.specs.Library.{CardView, DeckView, LibraryView}
use Rattle.upd_text.specs.Outcome.{◌>>=◌}
use Rattle.upd_core.specs.Sound.{AreAgedFrom}
use Rattle.upd_deck.specs.Items.{LineView}
use Rattle.upd_apply.specs.Applying.{applied}
use Rattle.upd_apply.specs.Directives.{is_purge}

-- ---- runs

-- no line of a run is a purge
abbrev pub purges_nothing : List LineView → Bool
purges_nothing run = list_all (λ line. not (is_purge line.item)) run

-- the library after runs in order, or the first refusal
abbrev pub all_applied : List (List LineView) → LibraryView → Result LibraryView Fault
all_applied [] l = Ok l
all_applied (run ∷ runs) l = do
  reached ← applied run l
  all_applied runs reached.library

-- runs without purges, all of them accepted, take one library to another
abbrev pub LeadWithoutPurge : List (List LineView) → LibraryView → LibraryView → Type 0
LeadWithoutPurge runs before after = IsTrue (list_all purges_nothing runs) × (all_applied runs before ≡ Ok after)

-- ---- growth by idents that are new

-- a serial that is in the later directory and not in the earlier one
abbrev pub IsNewer : LibraryView → LibraryView → ℕ → Type 0
IsNewer before after z = (length before.idents < z) × (z ≤ length after.idents)

-- a card with a history that was only extended by entries of new idents
abbrev pub GoesOn : (ℕ → Type 0) → CardView → CardView → Type 0
GoesOn IsNew c d = (more : List Entry) × AllByRecursion (λ e. IsNew e.ident) more × (d ≡ record c { history = c.history ++ more })

-- Cards among others, in order: the history of each was only extended, and the cards between them are new, with all their entries.
pub data AreAmong (IsNew : ℕ → Type 0) : List CardView → List CardView → Type 0 where
  Ended : AreAmong IsNew [] []
  Kept : {c d : CardView} {cs ds : List CardView} → GoesOn IsNew c d → AreAmong IsNew cs ds → AreAmong IsNew (c ∷ cs) (d ∷ ds)
  Come : {d : CardView} {cs ds : List CardView}
      → IsNew d.ident → AllByRecursion (λ e. IsNew e.ident) d.history → AreAmong IsNew cs ds → AreAmong IsNew cs (d ∷ ds)

-- a new deck: it is of a new ident, and so are its cards
abbrev pub IsNewDeck : (ℕ → Type 0) → DeckView → Type 0
IsNewDeck IsNew d = IsNew d.ident × AllByRecursion (λ c. IsNew c.ident) d.cards

-- decks are first, in order, each with its cards among the later ones; new decks follow
abbrev pub DecksGoOn : (ℕ → Type 0) → List DeckView → List DeckView → Type 0
DecksGoOn IsNew [] later = AllByRecursion (IsNewDeck IsNew) later
DecksGoOn IsNew (d ∷ decks) [] = ⊥
DecksGoOn IsNew (d ∷ decks) (e ∷ later) = (e.ident ≡ d.ident) × AreAmong IsNew d.cards e.cards × DecksGoOn IsNew decks later

-- A library has only grown: idents with the next serials were introduced, and everything else that is new is of them.
pub record IsGrown (before after : LibraryView) : Type 0 where
  pub brought : List Ident
  pub idents : after.idents ≡ before.idents ++ brought
  pub ages : AreAgedFrom (next_age before) brought
  pub decks : DecksGoOn (IsNewer before after) before.decks after.decks
  pub yanks : AreAmong (IsNewer before after) before.yanks after.yanks
  pub rest : after.rest ≡ before.rest

-- ---- the library restored

-- The same library, except that more idents, no longer held, are at the end of the directory.
pub record IsAgain (before back : LibraryView) : Type 0 where
  pub gone : List Ident
  pub idents : back.idents ≡ before.idents ++ gone
  pub unheld : AllByRecursion (λ i. i.held ≡ false) gone
  pub decks : back.decks ≡ before.decks
  pub yanks : back.yanks ≡ before.yanks
  pub rest : back.rest ≡ before.rest
