-- The decks of rows need the idents of the cards' names alone.
use Rattle.upd_row_store.proofs.Common.{◌≡◌, ℕ, ◌+◌, ◌<◌, Bool, true, false, ◌&&◌, ◌||◌, cond, List, [], ◌∷◌, ◌++◌, length, get_or, take, refl, ap, sym, subst}
use Rattle.upd_row_store.proofs.Common.{◌∙◌, slice_cmp, nat_cmp, is_eq, bytes_eq, bytes_eq-Decides, list_any, any_append, append_assoc, filter, AllByRecursion}
use Rattle.upd_row_store.proofs.Common.{Some, Ident, CardRow, EntryRow, TargetRow, DeckView, held_named, option_map_or, decks_from}
use Rattle.std.specs.Prelude.{◌==◌}
use Rattle.std.specs.BTreeSet as sorted
use Rattle.std.specs.BTreeSet.{BTreeSet}
use Rattle.std.proofs.lemmas.Map.Text.{is_eq-slice_cmp}
use Rattle.upd_text.specs.Units.{Bytes}
use Rattle.upd_row_store.specs.Assembling.{card_of_row, entries_of, targets_of}
use Rattle.upd_row_store.proofs.AskedLemmas.{known_next}

-- whether a card has a name
abbrev pub is_called : CardRow → Bytes → Bool
is_called r name = bytes_eq r.card.name name

-- the names of cards, as a set in order
abbrev pub AreNamesOf : List CardRow → BTreeSet Bytes → Type 0
AreNamesOf cards set = (name : Bytes) → sorted.contains (slice_cmp nat_cmp) set name ≡ list_any (λ r. is_called r name) cards

-- the set of one card more
pub names_next : (cards : List CardRow) (i : ℕ) (c : CardRow) → i < length cards → c ≡ get_or cards i c → (had has : BTreeSet Bytes)
    → AreNamesOf (take i cards) had
    → ((k : Bytes) → sorted.contains (slice_cmp nat_cmp) has k
    ≡ cond (is_eq (slice_cmp nat_cmp c.card.name k)) true (sorted.contains (slice_cmp nat_cmp) had k))
    → AreNamesOf (take (i + 1) cards) has
names_next cards i c inside is had has before put =
    known_next cards i c inside is is_called (sorted.contains (slice_cmp nat_cmp) had) (sorted.contains (slice_cmp nat_cmp) has) before
    (λ k. put k ∙ ap (λ b. cond b true (sorted.contains (slice_cmp nat_cmp) had k)) (is_eq-slice_cmp c.card.name k))

or_true : (a b : Bool) → b ≡ true → (a || b) ≡ true
or_true true b is = refl
or_true false b is = is

and_false : (a b : Bool) → b ≡ false → (a && b) ≡ false
and_false true b is = is
and_false false b is = refl

-- each card has one of the names
each_called : (front rest : List CardRow) → AllByRecursion (λ r. list_any (λ q. is_called q r.card.name) (front ++ rest) ≡ true) rest
each_called front [] = tt
each_called front (r ∷ rest) = (
  any_append (λ q. is_called q r.card.name) front (r ∷ rest)
      ∙ or_true (list_any (λ q. is_called q r.card.name) front) (list_any (λ q. is_called q r.card.name) (r ∷ rest))
      (ap (λ b. b || list_any (λ q. is_called q r.card.name) rest) ((bytes_eq-Decides r.card.name r.card.name).1 refl)),
  subst (λ all. AllByRecursion (λ s. list_any (λ q. is_called q s.card.name) all ≡ true) rest) (append_assoc front (r ∷ []) rest)
      (each_called (front ++ r ∷ []) rest),
)

module _ (has : Bytes → Bool) where
  -- the ident that is held under a name is found among those of the names
  found_alike : (name : Bytes) → has name ≡ true → (idents : List Ident) → held_named name (filter (λ i. has i.name) idents) ≡ held_named name idents
  found_alike name known [] = refl
  found_alike name known (i ∷ idents) = by_name (has i.name) refl (found_alike name known idents)
    where
      other : has i.name ≡ false → (b : Bool) → bytes_eq i.name name ≡ b → b ≡ false
      other lacks true same = sym known ∙ ap has (sym ((bytes_eq-Decides i.name name).0 same)) ∙ lacks
      other lacks false same = refl

      by_name : (b : Bool) → has i.name ≡ b → held_named name (filter (λ j. has j.name) idents) ≡ held_named name idents
          → held_named name (cond b (i ∷ filter (λ j. has j.name) idents) (filter (λ j. has j.name) idents)) ≡ held_named name (i ∷ idents)
      by_name true is later = ap (λ o. cond (i.held && bytes_eq i.name name) (Some i) o) later
      by_name false is later =
          later ∙ ap (λ b. cond b (Some i) (held_named name idents)) (sym (and_false i.held (bytes_eq i.name name) (other is (bytes_eq i.name name) refl)))

  card_alike : (idents : List Ident) (entries : List EntryRow) (targets : List TargetRow) (r : CardRow) → has r.card.name ≡ true
      → card_of_row (filter (λ i. has i.name) idents) entries targets r ≡ card_of_row idents entries targets r
  card_alike idents entries targets r known = λ k. record {
    ident = option_map_or (λ i. i.age) (found_alike r.card.name known idents k) 0;
    number = r.card.number;
    text = r.body;
    history = entries_of r.card entries;
    targets = targets_of r.card targets;
  }

  -- so the decks of cards of these names are the same
  decks_alike : (idents : List Ident) (entries : List EntryRow) (targets : List TargetRow) (d : DeckView) (rows : List CardRow)
      → AllByRecursion (λ r. has r.card.name ≡ true) rows
      → decks_from (filter (λ i. has i.name) idents) entries targets d rows ≡ decks_from idents entries targets d rows
  decks_alike idents entries targets d [] known = refl
  decks_alike idents entries targets d (r ∷ rows) known =
      let some = filter (λ i. has i.name) idents in
      let card : card_of_row some entries targets r ≡ card_of_row idents entries targets r = card_alike idents entries targets r known.0 in
      let same = decks_alike idents entries targets (record d { cards = d.cards ++ card_of_row idents entries targets r ∷ [] }) rows known.1 in
      let next = decks_alike idents entries targets (record { ident = r.deck; cards = card_of_row idents entries targets r ∷ [] }) rows known.1 in
      (λ k. cond (r.deck == d.ident) (decks_from some entries targets (record d { cards = d.cards ++ card k ∷ [] }) rows)
      (d ∷ decks_from some entries targets (record { ident = r.deck; cards = card k ∷ [] }) rows))
      ∙ λ k. cond (r.deck == d.ident) (same k) (d ∷ next k)

-- the decks of rows by the idents of a set that has the cards' names
pub decks_of_named : (set : BTreeSet Bytes) (idents named : List Ident) (entries : List EntryRow) (targets : List TargetRow) (cards : List CardRow)
    → AreNamesOf cards set → named ≡ filter (λ i. sorted.contains (slice_cmp nat_cmp) set i.name) idents
    → decks_from named entries targets (record { ident = 0; cards = [] }) cards
    ≡ decks_from idents entries targets (record { ident = 0; cards = [] }) cards
decks_of_named set idents named entries targets cards names is =
    ap (λ some. decks_from some entries targets (record { ident = 0; cards = [] }) cards) is
    ∙ decks_alike (sorted.contains (slice_cmp nat_cmp) set) idents entries targets (record { ident = 0; cards = [] }) cards
    (all_named cards (each_called [] cards))
  where
    all_named : (rows : List CardRow) → AllByRecursion (λ r. list_any (λ q. is_called q r.card.name) cards ≡ true) rows
        → AllByRecursion (λ r. sorted.contains (slice_cmp nat_cmp) set r.card.name ≡ true) rows
    all_named [] each = tt
    all_named (r ∷ rows) each = (names r.card.name ∙ each.0, all_named rows each.1)
