-- The row changes that card diffs define: idents, then deletions, then moves, then insertions.
use Rattle.std.specs.Prelude.{◌≡◌, ℕ, ◌+◌, ◌-◌, ◌==◌, nat_lt, ℤ, pos, negsuc, Bool, true, false, not, ◌&&◌, if◌then◌else◌, List, [], ◌∷◌, ◌++◌, map, length}
use Rattle.std.specs.Prelude.{drop}
use Rattle.std.specs.List.{flat_map}
use Rattle.upd_core.specs.declared.card.Entry.{Entry}
use Rattle.upd_text.specs.declared.card_ref.CardRef.{CardRef}
use Rattle.upd_core.specs.declared.ident.Ident.{Ident}
use Rattle.upd_core.specs.declared.target.Target.{Target}
use Rattle.upd_core.specs.Entries.{same_entry}
use Rattle.upd_core.specs.Library.{CardView, LibraryView, all_decks, ref_of}
use Rattle.upd_records.specs.Changes.{ChangeView, IdentNew, IdentPurged, CardNew, CardGone, CardsMoved, EntryNew, EntriesGone, TargetNew, TargetsGone}
use Rattle.upd_diff.specs.CardDiffs.{CardDiffView, DeckDiffView, Kept, Gone, New, Paired}

-- idents that are no longer held, and new idents
abbrev pub ident_changes : List Ident → List Ident → List ChangeView
ident_changes [] new = map IdentNew new
ident_changes (i ∷ old) [] = []
ident_changes (i ∷ old) (j ∷ new) = (if i.held && not j.held then IdentPurged i.age ∷ [] else []) ++ ident_changes old new

-- whether a history is a prefix of another
abbrev pub begins : List Entry → List Entry → Bool
begins [] later = true
begins (e ∷ es) [] = false
begins (e ∷ es) (f ∷ later) = same_entry e f && begins es later

-- the deletion of a card's targets, if it has any
abbrev pub target_changes : List Ident → CardView → List ChangeView
target_changes idents c = if length c.targets == 0 then [] else TargetsGone (ref_of idents c) c.targets ∷ []

-- the deletions for a card; for a kept card those of its entries, unless its history was only extended
abbrev pub gone_of : List Ident → CardDiffView → List ChangeView
gone_of idents (Kept was is) = if begins was.history is.history then [] else EntriesGone (ref_of idents was) ∷ []
gone_of idents (Gone was) = target_changes idents was ++ EntriesGone (ref_of idents was) ∷ CardGone (ref_of idents was) ∷ []
gone_of idents (New is) = []

-- the signed distance from one position to another
abbrev pub distance : ℕ → ℕ → ℤ
distance from to = if nat_lt to from then negsuc (from - to - 1) else pos (to - from)

-- the move of the card at position `from`, with all cards after it, to position `to`
abbrev pub move_to : ℕ → ℕ → ℕ → List ChangeView
move_to d from to = if from == to then [] else CardsMoved d from (distance from to) ∷ []

-- the moves of a deck's cards, where the next old card is at position `from` and the next card after is to be at position `to`
abbrev pub moves : ℕ → ℕ → ℕ → List CardDiffView → List ChangeView
moves d from to [] = []
moves d from to (Kept was is ∷ card_diffs) = move_to d from to ++ moves d (to + 1) (to + 1) card_diffs
moves d from to (Gone was ∷ card_diffs) = moves d (from + 1) to card_diffs
moves d from to (New is ∷ card_diffs) = moves d from (to + 1) card_diffs

-- the insertion of entries of a card; the first has index n
abbrev pub entries_new : CardRef → ℕ → List Entry → List ChangeView
entries_new card n [] = []
entries_new card n (e ∷ es) = EntryNew card n e ∷ entries_new card (n + 1) es

-- the insertion of targets of a card; the first has index n
abbrev pub targets_new : CardRef → ℕ → List Target → List ChangeView
targets_new card n [] = []
targets_new card n (t ∷ ts) = TargetNew card n t ∷ targets_new card (n + 1) ts

-- the insertion of entries of a kept card: those that extend its history, or all of them where they were deleted
abbrev pub grown : List Ident → CardView → CardView → List ChangeView
grown idents was is =
    if begins was.history is.history
    then entries_new (ref_of idents was) (length was.history) (drop (length was.history) is.history)
    else entries_new (ref_of idents was) 0 is.history

-- the insertion of a new card, at a position of a deck
abbrev pub card_new : List Ident → ℕ → ℕ → CardView → List ChangeView
card_new idents d p c =
    CardNew (ref_of idents c) d p c.text ∷ entries_new (ref_of idents c) 0 c.history ++ targets_new (ref_of idents c) 0 c.targets

-- the insertions for a deck, from a position on
abbrev pub brought : List Ident → ℕ → ℕ → List CardDiffView → List ChangeView
brought idents d p [] = []
brought idents d p (Kept was is ∷ card_diffs) = grown idents was is ++ brought idents d (p + 1) card_diffs
brought idents d p (Gone was ∷ card_diffs) = brought idents d p card_diffs
brought idents d p (New is ∷ card_diffs) = card_new idents d p is ++ brought idents d (p + 1) card_diffs

-- all deletions, moves and insertions
abbrev pub card_changes : List Ident → List DeckDiffView → List ChangeView
card_changes idents decks =
    flat_map (λ k. flat_map (gone_of idents) k.card_diffs) decks
    ++ (flat_map (λ k. moves k.deck 0 0 k.card_diffs) decks ++ flat_map (λ k. brought idents k.deck 0 k.card_diffs) decks)

-- the changes from one directory and its cards to another
abbrev pub row_changes : List Ident → List Ident → List DeckDiffView → List ChangeView
row_changes old new decks = ident_changes old new ++ card_changes new decks

-- The changes are the row changes from one library to another, for deck diffs that pair their decks.
pub record RowChanges (before after : LibraryView) (changes : List ChangeView) : Type 0 where
  pub decks : List DeckDiffView
  pub paired : Paired (all_decks before) (all_decks after) decks
  pub are : changes ≡ row_changes before.idents after.idents decks
