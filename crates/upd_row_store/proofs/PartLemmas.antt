-- How much the decks have that aren't loaded.
use Rattle.upd_row_store.proofs.Common.{◌≡◌, ℕ, ◌+◌, ◌-◌, true, not, List, [], ◌∷◌, length}
use Rattle.upd_row_store.proofs.Common.{suc, refl, ap, sym, ◌∙◌, arith, count_by, filter, flat_map, sum_by, is_among}
use Rattle.upd_row_store.proofs.Common.{CardView, DeckView, LibraryView, all_decks, ref_of, all_cards, Entry, CardRef, Ident, count_cons, IsSame}
use Rattle.upd_row_store.proofs.Common.{card_rows, entry_rows, rows_of, cards_of_decks, entries_of_decks}
use Rattle.std.proofs.lemmas.List.Concat.{length-flat_map}
use Rattle.std.proofs.lemmas.List.Filters.{sum_by-filter_both}
use Rattle.std.proofs.lemmas.List.Sums.{sum_by-append, sum_by-cons}

-- ---- how many cards and entries a library's rows are

count_all : {A : Type 0} (xs : List A) → count_by (λ x. true) xs ≡ length xs
count_all [] = refl
count_all (x ∷ xs) = let rest = count_all xs in omega (arith, count_cons (λ y. true) x xs)

pub same_length : {A : Type 0} {xs ys : List A} → IsSame xs ys → length xs ≡ length ys
same_length {xs = xs} {ys = ys} same = sym (count_all xs) ∙ same.passes (λ x. true) ∙ count_all ys

all_card_rows : (idents : List Ident) (d p : ℕ) (cs : List CardView) → length (card_rows idents d p cs) ≡ length cs
all_card_rows idents d p [] = refl
all_card_rows idents d p (c ∷ cs) = ap suc (all_card_rows idents d (p + 1) cs)

all_entry_rows : (card : CardRef) (n : ℕ) (es : List Entry) → length (entry_rows card n es) ≡ length es
all_entry_rows card n [] = refl
all_entry_rows card n (e ∷ es) = ap suc (all_entry_rows card (n + 1) es)

sum_flat : {A B : Type 0} (size : B → ℕ) (f : A → List B) (xs : List A) → sum_by size (flat_map f xs) ≡ sum_by (λ x. sum_by size (f x)) xs
sum_flat size f [] = refl
sum_flat size f (x ∷ xs) =
    sum_by-append size (f x) (flat_map f xs) ∙ ap (λ n. sum_by size (f x) + n) (sum_flat size f xs) ∙ sym (sum_by-cons (λ y. sum_by size (f y)) x xs)

pub cards_in_rows : (l : LibraryView) → length (rows_of l).cards ≡ cards_of_decks (all_decks l)
cards_in_rows l =
    length-flat_map (λ d. card_rows l.idents d.ident 0 d.cards) (all_decks l)
    ∙ (λ i. sum_by (λ d. all_card_rows l.idents d.ident 0 d.cards i) (all_decks l))

pub entries_in_rows : (l : LibraryView) → length (rows_of l).entries ≡ entries_of_decks (all_decks l)
entries_in_rows l =
    length-flat_map (λ c. entry_rows (ref_of l.idents c) 0 c.history) (all_cards l)
    ∙ (λ i. sum_by (λ c. all_entry_rows (ref_of l.idents c) 0 c.history i) (all_cards l))
    ∙ sum_flat (λ c. length c.history) (λ d. d.cards) (all_decks l)

-- what the decks left out have is what all have but the part's
pub rest_counted : (size : DeckView → ℕ) (ages : List ℕ) (yanks : DeckView) (ds : List DeckView)
    → sum_by size (yanks ∷ ds) - sum_by size (yanks ∷ filter (λ d. not (not (is_among ages d.ident))) ds)
    ≡ sum_by size (filter (λ d. not (is_among ages d.ident)) ds)
rest_counted size ages yanks ds =
    omega (
      arith,
      sum_by-cons size yanks ds,
      sum_by-cons size yanks (filter (λ d. not (not (is_among ages d.ident))) ds),
      sum_by-filter_both (λ d. not (is_among ages d.ident)) (λ d. not (not (is_among ages d.ident))) (λ d. refl) size ds,
    )
