-- The targets of a yank by set z: what its fields name, each once, in the order of the fields.
use Rattle.std.specs.Prelude.{ℕ, nat_le, Bool, not, ◌||◌, List, [], ◌∷◌, map, Result, Ok}
use Rattle.std.specs.List.{filter}
use Rattle.upd_text.specs.declared.fault.FaultKind.{FaultKind}
use Rattle.upd_text.specs.declared.fault.FaultKind.TheVariants as fault
use Rattle.upd_text.specs.Outcome.{◌>>=◌, each, refuse_if}
use Rattle.upd_core.specs.declared.target.Target.{Target}
use Rattle.upd_core.specs.declared.target.Target.TheVariants.{Set, SetIn, Deck}
use Rattle.upd_core.specs.Library.{LibraryView}
use Rattle.upd_core.specs.Targets.{is_same}
use Rattle.upd_deck.specs.declared.item.NameRange.{NameRange}
use Rattle.upd_deck.specs.declared.item.IdentIn.{IdentIn}
use Rattle.upd_apply.specs.Names.{Ages, ages_by, idents_in, known_deck, known_ident}

-- a list without repetitions: each element at its first position; the test says which elements are the same
abbrev pub once : {A : Type 0} → (A → A → Bool) → List A → List A
once same [] = []
once same (x ∷ xs) = x ∷ filter (λ y. not (same x y)) (once same xs)

-- the ages of a range of `*YANK`, all older than the set
abbrev pub older_ages : ℕ → LibraryView → NameRange → Result Ages FaultKind
older_ages z l range = do
  ages ← ages_by known_ident range l
  _ ← refuse_if (nat_le z ages.to) fault.YankSelf
  Ok ages

-- the targets of a range of `*YANK`: its idents, all older than the set
abbrev pub range_targets : ℕ → LibraryView → NameRange → Result (List Target) FaultKind
range_targets z l range = do
  ages ← ages_by known_ident range l
  _ ← refuse_if (nat_le z ages.to) fault.YankSelf
  Ok (map Set (idents_in ages l))

-- the target of a pair of `*SELYANK`: an ident in a deck, both older than the set
abbrev pub pair_targets : ℕ → LibraryView → IdentIn → Result (List Target) FaultKind
pair_targets z l pair = do
  d ← known_deck pair.deck l
  y ← known_ident pair.ident l
  _ ← refuse_if (nat_le z d || nat_le z y) fault.YankSelf
  Ok (SetIn y d ∷ [])

-- the target of a name of `*YANKDECK`: a deck older than the set
abbrev pub deck_targets : ℕ → LibraryView → List ℕ → Result (List Target) FaultKind
deck_targets z l name = do
  d ← known_deck name l
  _ ← refuse_if (nat_le z d) fault.YankSelf
  Ok (Deck d ∷ [])

-- the targets of all fields, each once
abbrev pub yanked : {A : Type 0} → (A → Result (List Target) FaultKind) → List A → Result (List Target) FaultKind
yanked targets fields = do
  found ← each targets fields
  Ok (once is_same found)

-- the targets of `*YANK`
abbrev pub sets_yanked : List NameRange → ℕ → LibraryView → Result (List Target) FaultKind
sets_yanked ranges z l = yanked (range_targets z l) ranges

-- the targets of `*SELYANK`
abbrev pub pairs_yanked : List IdentIn → ℕ → LibraryView → Result (List Target) FaultKind
pairs_yanked pairs z l = yanked (pair_targets z l) pairs

-- the targets of `*YANKDECK`
abbrev pub decks_yanked : List (List ℕ) → ℕ → LibraryView → Result (List Target) FaultKind
decks_yanked names z l = yanked (deck_targets z l) names
