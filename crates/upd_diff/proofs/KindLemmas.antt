-- What holds of each kind of change holds of all row changes.
use Rattle.upd_diff.proofs.Common.{ℕ, ◌+◌, Bool, true, false, cond, List, [], ◌∷◌, ◌++◌, length, drop, not, ◌==◌, ◌&&◌, ℤ, flat_map, AllByRecursion, CardRef}
use Rattle.upd_diff.proofs.Common.{Entry, Ident, Target, CardView, ref_of, ChangeView, IdentNew, IdentPurged, CardNew, CardGone, CardsMoved, EntryNew}
use Rattle.upd_diff.proofs.Common.{EntriesGone, TargetNew, TargetsGone, CardDiffView, DeckDiffView, Kept, Gone, New, begins, ident_changes, gone_of, move_to}
use Rattle.upd_diff.proofs.Common.{moves, distance, entries_new, targets_new, grown, brought}
use Rattle.upd_diff.specs.RowChanges.{card_new}
use Rattle.upd_diff.proofs.AllLemmas.{all_joined, each_flat, each_map}

module _ (P : ChangeView → Type 0) where
  pub idents_all : ((i : Ident) → P (IdentNew i)) → ((age : ℕ) → P (IdentPurged age)) → (old new : List Ident) → AllByRecursion P (ident_changes old new)
  idents_all come go [] new = each_map P IdentNew come new
  idents_all come go (i ∷ old) [] = tt
  idents_all come go (i ∷ old) (j ∷ new) =
      all_joined P (cond (i.held && not j.held) (IdentPurged i.age ∷ []) []) (ident_changes old new) (one (i.held && not j.held)) (idents_all come go old new)
    where
      one : (b : Bool) → AllByRecursion P (cond b (IdentPurged i.age ∷ []) [])
      one true = (go i.age, tt)
      one false = tt

  pub gone_all : ((card : CardRef) → P (CardGone card)) → ((card : CardRef) → P (EntriesGone card))
      → ((card : CardRef) (targets : List Target) → P (TargetsGone card targets)) → (idents : List Ident) (f : CardDiffView)
      → AllByRecursion P (gone_of idents f)
  gone_all card entries targets idents (Kept c d) = go (begins c.history d.history)
    where
      go : (b : Bool) → AllByRecursion P (cond b [] (EntriesGone (ref_of idents c) ∷ []))
      go true = tt
      go false = (entries (ref_of idents c), tt)
  gone_all card entries targets idents (Gone c) = go (length c.targets == 0)
    where
      go : (b : Bool) → AllByRecursion P (cond b [] (TargetsGone (ref_of idents c) c.targets ∷ [])
          ++ EntriesGone (ref_of idents c) ∷ CardGone (ref_of idents c) ∷ [])
      go true = (entries (ref_of idents c), (card (ref_of idents c), tt))
      go false = (targets (ref_of idents c) c.targets, (entries (ref_of idents c), (card (ref_of idents c), tt)))
  gone_all card entries targets idents (New d) = tt

  pub move_all : ((d from : ℕ) (by : ℤ) → P (CardsMoved d from by)) → (d w p : ℕ) → AllByRecursion P (move_to d w p)
  move_all move d w p = go (w == p)
    where
      go : (b : Bool) → AllByRecursion P (cond b [] (CardsMoved d w (distance w p) ∷ []))
      go true = tt
      go false = (move d w (distance w p), tt)

  pub moves_all : ((d from : ℕ) (by : ℤ) → P (CardsMoved d from by)) → (d w p : ℕ) (card_diffs : List CardDiffView) → AllByRecursion P (moves d w p card_diffs)
  moves_all move d w p [] = tt
  moves_all move d w p (Kept c e ∷ card_diffs) =
      all_joined P (move_to d w p) (moves d (p + 1) (p + 1) card_diffs) (move_all move d w p) (moves_all move d (p + 1) (p + 1) card_diffs)
  moves_all move d w p (Gone c ∷ card_diffs) = moves_all move d (w + 1) p card_diffs
  moves_all move d w p (New e ∷ card_diffs) = moves_all move d w (p + 1) card_diffs

  pub entries_all : ((card : CardRef) (n : ℕ) (e : Entry) → P (EntryNew card n e)) → (card : CardRef) (n : ℕ) (es : List Entry)
      → AllByRecursion P (entries_new card n es)
  entries_all entry card n [] = tt
  entries_all entry card n (e ∷ es) = (entry card n e, entries_all entry card (n + 1) es)

  pub targets_all : ((card : CardRef) (n : ℕ) (t : Target) → P (TargetNew card n t)) → (card : CardRef) (n : ℕ) (ts : List Target)
      → AllByRecursion P (targets_new card n ts)
  targets_all target card n [] = tt
  targets_all target card n (t ∷ ts) = (target card n t, targets_all target card (n + 1) ts)

  pub grown_all : ((card : CardRef) (n : ℕ) (e : Entry) → P (EntryNew card n e)) → (idents : List Ident) (c d : CardView) → AllByRecursion P (grown idents c d)
  grown_all entry idents c d = go (begins c.history d.history)
    where
      go : (b : Bool)
          → AllByRecursion P (cond b (entries_new (ref_of idents c) (length c.history) (drop (length c.history) d.history)) (entries_new
          (ref_of idents c) 0 d.history))
      go true = entries_all entry (ref_of idents c) (length c.history) (drop (length c.history) d.history)
      go false = entries_all entry (ref_of idents c) 0 d.history

  pub brought_all : ((card : CardRef) (d p : ℕ) (body : List ℕ) → P (CardNew card d p body)) → ((card : CardRef) (n : ℕ) (e : Entry) → P (EntryNew card n e))
      → ((card : CardRef) (n : ℕ) (t : Target) → P (TargetNew card n t)) → (idents : List Ident) (d p : ℕ) (card_diffs : List CardDiffView)
      → AllByRecursion P (brought idents d p card_diffs)
  brought_all card entry target idents d p [] = tt
  brought_all card entry target idents d p (Kept c e ∷ card_diffs) =
      all_joined P (grown idents c e) (brought idents d (p + 1) card_diffs) (grown_all entry idents c e)
      (brought_all card entry target idents d (p + 1) card_diffs)
  brought_all card entry target idents d p (Gone c ∷ card_diffs) = brought_all card entry target idents d p card_diffs
  brought_all card entry target idents d p (New e ∷ card_diffs) =
      all_joined P (card_new idents d p e) (brought idents d (p + 1) card_diffs) (
        card (ref_of idents e) d p e.text,
        all_joined P (entries_new (ref_of idents e) 0 e.history) (targets_new (ref_of idents e) 0 e.targets)
            (entries_all entry (ref_of idents e) 0 e.history) (targets_all target (ref_of idents e) 0 e.targets),
      )
      (brought_all card entry target idents d (p + 1) card_diffs)

  -- ---- of all decks

  pub gone_each : ((card : CardRef) → P (CardGone card)) → ((card : CardRef) → P (EntriesGone card))
      → ((card : CardRef) (targets : List Target) → P (TargetsGone card targets)) → (idents : List Ident) (ks : List DeckDiffView)
      → AllByRecursion P (flat_map (λ k. flat_map (gone_of idents) k.card_diffs) ks)
  gone_each card entries targets idents =
      each_flat P (λ k. flat_map (gone_of idents) k.card_diffs) (λ k. each_flat P (gone_of idents) (gone_all card entries targets idents) k.card_diffs)

  pub moves_each : ((d from : ℕ) (by : ℤ) → P (CardsMoved d from by)) → (ks : List DeckDiffView)
      → AllByRecursion P (flat_map (λ k. moves k.deck 0 0 k.card_diffs) ks)
  moves_each move = each_flat P (λ k. moves k.deck 0 0 k.card_diffs) (λ k. moves_all move k.deck 0 0 k.card_diffs)

  pub brought_each : ((card : CardRef) (d p : ℕ) (body : List ℕ) → P (CardNew card d p body)) → ((card : CardRef) (n : ℕ) (e : Entry) → P (EntryNew card n e))
      → ((card : CardRef) (n : ℕ) (t : Target) → P (TargetNew card n t)) → (idents : List Ident) (ks : List DeckDiffView)
      → AllByRecursion P (flat_map (λ k. brought idents k.deck 0 k.card_diffs) ks)
  brought_each card entry target idents =
      each_flat P (λ k. brought idents k.deck 0 k.card_diffs) (λ k. brought_all card entry target idents k.deck 0 k.card_diffs)
