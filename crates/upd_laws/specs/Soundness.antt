-- The invariant of the states within a run, and the libraries that runs reach.
use Rattle.std.specs.Prelude.{◌≡◌, ℕ, ◌+◌, ◌<◌, ◌≤◌, ◌==◌, ◌⊎◌, IsTrue, List, [], ◌∷◌, length, count_by, Option, Some, None, is_some, Result, Ok, Err}
use Rattle.std.specs.Option.{IfSome}
use Rattle.std.specs.List.{AllByRecursion}
use Rattle.upd_text.specs.declared.fault.Fault.{Fault}
use Rattle.upd_core.specs.Library.{LibraryView, cards_of}
use Rattle.upd_core.specs.Sound.{IsSound, all_cards, is_held, is_held_deck, stands}
use Rattle.upd_deck.specs.Items.{LineView}
use Rattle.upd_apply.specs.declared.CurrentSet.{CurrentSet}
use Rattle.upd_apply.specs.declared.state.InsertPoint.{InsertPoint}
use Rattle.upd_apply.specs.declared.state.InsertPoint.TheVariants.{Nowhere, End, Inside}
use Rattle.upd_apply.specs.declared.state.State.{State}
use Rattle.upd_apply.specs.Applying.{Reached, applied}

-- ---- states

-- the number of cards of an ident in a library
abbrev pub count_of : ℕ → LibraryView → ℕ
count_of ident l = count_by (λ c. c.ident == ident) (all_cards l)

-- The next card number of an ident is one more than the number of its cards, and greater than the number of each.
pub record IsNext (ident n : ℕ) (l : LibraryView) : Type 0 where
  pub counted : n ≡ count_of ident l + 1
  pub above : AllByRecursion (λ c. c.ident ≡ ident → c.number < n) (all_cards l)

-- The current set is held, and no yank card is of a younger ident.
pub record IsCurrentSet (current_set : CurrentSet) (l : LibraryView) : Type 0 where
  pub held : IsTrue (is_held l.idents current_set.ident)
  pub youngest : AllByRecursion (λ c. c.ident ≤ current_set.ident) l.yanks
  pub next : IsNext current_set.ident current_set.next l

-- the current set is sound, if there is one
abbrev pub IsHandSound : Option CurrentSet → LibraryView → Type 0
IsHandSound None l = Unit {0}
IsHandSound (Some current_set) l = IsCurrentSet current_set l

-- A deck whose end is the insertion point is held and in the library, and it is not the current set.
pub record IsAtEnd (d n : ℕ) (current_set : Option CurrentSet) (l : LibraryView) : Type 0 where
  pub held : IsTrue (is_held_deck l.idents d)
  pub standing : IsTrue (stands d l)
  pub next : IsNext d n l
  pub other : IfSome current_set (λ h. h.ident ≡ d → ⊥)

-- An insertion point inside a deck: never before its first card, and there is a current set for the text.
pub record IsInside (d after : ℕ) (current_set : Option CurrentSet) (l : LibraryView) : Type 0 where
  pub in_hand : IsTrue (is_some current_set)
  pub within : (d ≡ 0) ⊎ (after < length (cards_of d l))

-- the insertion point is sound
abbrev pub IsSpotSound : InsertPoint → Option CurrentSet → LibraryView → Type 0
IsSpotSound Nowhere current_set l = Unit {0}
IsSpotSound (End d next) current_set l = IsAtEnd d next current_set l
IsSpotSound (Inside d after) current_set l = IsInside d after current_set l

-- the invariant of a state within a run
pub record IsSoundState (s : State) : Type 0 where
  pub library : IsSound s.library
  pub current_set : IsHandSound s.current_set s.library
  pub insert_point : IsSpotSound s.insert_point s.current_set s.library

-- ---- libraries

-- the library after a run: a refused one changes nothing
abbrev pub after_run : LibraryView → Result Reached Fault → LibraryView
after_run l (Ok reached) = reached.library
after_run l (Err fault) = l

-- the library after runs in order
abbrev pub after_runs : List (List LineView) → LibraryView → LibraryView
after_runs [] l = l
after_runs (run ∷ runs) l = after_runs runs (after_run l (applied run l))
