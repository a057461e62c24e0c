-- Idents by age and cards by place: the rows of a library rise by these.
use Rattle.upd_row_store.proofs.Common.{◌≡◌, ℕ, ◌+◌, ◌<◌, ◌≤◌, Bool, true, List, [], ◌∷◌, map, refl, ap, sym, ◌∙◌, subst, arith, nat_cmp_total, on_total}
use Rattle.upd_row_store.proofs.Common.{then_total, ranks_by, IsStrictWeakOrder, nat_cmp_is, flat_map, AllByRecursion, is_lt, nat_cmp, ordering_then, Less}
use Rattle.upd_row_store.proofs.Common.{Equal, Ident, CardView, DeckView, ref_of, AreRising, CardRow, card_rows}
use Rattle.upd_core.specs.Sound.{AreAgedFrom}
use Rattle.upd_row_store.proofs.SortLemmas.{IsRising, all_joined, rising_joined, weaker}

abbrev pub older : Ident → Ident → Bool
older a b = is_lt (nat_cmp a.age b.age)

pub age_order : IsStrictWeakOrder older
age_order = ranks_by nat_cmp_total (λ i. i.age)

younger : (n m : ℕ) (idents : List Ident) → AreAgedFrom m idents → n < m → AllByRecursion (λ j. is_lt (nat_cmp n j.age) ≡ true) idents
younger n m [] aged less = tt
younger n m (j ∷ idents) aged less =
    (ap is_lt (sym (nat_cmp_is n j.age Less (omega (arith, aged.0)))), younger n (m + 1) idents aged.1 (omega arith))

pub ages_rise : (n : ℕ) (idents : List Ident) → AreAgedFrom n idents → IsRising older idents
ages_rise n [] aged = tt
ages_rise n (i ∷ idents) aged = (younger i.age (n + 1) idents aged.1 (omega (arith, aged.0)), ages_rise (n + 1) idents aged.1)

abbrev pub in_front : CardRow → CardRow → Bool
in_front a b = is_lt (ordering_then (nat_cmp a.deck b.deck) (nat_cmp a.pos b.pos))

pub place_order : IsStrictWeakOrder in_front
place_order = ranks_by (then_total (on_total (λ r. r.deck) nat_cmp_total) (on_total (λ r. r.pos) nat_cmp_total)) (λ r. r)

in_one_deck : (a b : CardRow) → a.deck ≡ b.deck → a.pos < b.pos → in_front a b ≡ true
in_one_deck a b same less =
    ap (λ r. is_lt (ordering_then r (nat_cmp a.pos b.pos))) (sym (nat_cmp_is a.deck b.deck Equal same))
    ∙ ap is_lt (sym (nat_cmp_is a.pos b.pos Less less))

in_later_deck : (a b : CardRow) → a.deck < b.deck → in_front a b ≡ true
in_later_deck a b less = ap (λ r. is_lt (ordering_then r (nat_cmp a.pos b.pos))) (sym (nat_cmp_is a.deck b.deck Less less))

-- the rows of a deck are of that deck, from their place on
pub stand_in : (idents : List Ident) (d p q : ℕ) (cs : List CardView) → q ≤ p → AllByRecursion (λ r. (r.deck ≡ d) × (q ≤ r.pos)) (card_rows idents d p cs)
stand_in idents d p q [] order = tt
stand_in idents d p q (c ∷ cs) order = ((refl, order), stand_in idents d (p + 1) q cs (omega arith))

deck_rises : (idents : List Ident) (d p : ℕ) (cs : List CardView) → IsRising in_front (card_rows idents d p cs)
deck_rises idents d p [] = tt
deck_rises idents d p (c ∷ cs) =
    let row : CardRow = record { card = ref_of idents c; deck = d; pos = p; body = c.text } in (
      weaker (card_rows idents d (p + 1) cs) (λ r h. in_one_deck row r (sym h.0) (omega (arith, h.1))) (stand_in idents d (p + 1) (p + 1) cs (omega arith)),
      deck_rises idents d (p + 1) cs,
    )

decks_behind : (idents : List Ident) (r : CardRow) (ds : List DeckView) → AllByRecursion (λ m. r.deck < m) (map (λ d. d.ident) ds)
    → AllByRecursion (λ s. in_front r s ≡ true) (flat_map (λ d. card_rows idents d.ident 0 d.cards) ds)
decks_behind idents r [] all = tt
decks_behind idents r (d ∷ ds) all =
    all_joined (λ s. in_front r s ≡ true) (card_rows idents d.ident 0 d.cards) (flat_map (λ d. card_rows idents d.ident 0 d.cards) ds)
    (weaker (card_rows idents d.ident 0 d.cards) (λ s h. in_later_deck r s (omega (arith, h.0, all.0))) (stand_in idents d.ident 0 0 d.cards (omega arith)))
    (decks_behind idents r ds all.1)

pub places_rise : (idents : List Ident) (ds : List DeckView) → AreRising (map (λ d. d.ident) ds)
    → IsRising in_front (flat_map (λ d. card_rows idents d.ident 0 d.cards) ds)
places_rise idents [] rising = tt
places_rise idents (d ∷ ds) rising =
    rising_joined in_front (card_rows idents d.ident 0 d.cards) (flat_map (λ d. card_rows idents d.ident 0 d.cards) ds) (deck_rises idents d.ident 0 d.cards)
    (places_rise idents ds rising.1)
    (weaker (card_rows idents d.ident 0 d.cards)
    (λ r h. decks_behind idents r ds (subst (λ n. AllByRecursion (λ m. n < m) (map (λ d. d.ident) ds)) (sym h.0) rising.0))
    (stand_in idents d.ident 0 0 d.cards (omega arith)))
