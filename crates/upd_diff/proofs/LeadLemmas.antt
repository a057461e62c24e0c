-- Deck diffs that pair decks: how they are found, and the decks that they lead to.
use Rattle.upd_diff.proofs.Common.{◌≡◌, ℕ, zero, suc, true, cond, inl, inr, List, [], ◌∷◌, ◌++◌, map, drop, slice_get, Some, refl, ap, sym, subst, ◌∙◌}
use Rattle.upd_diff.proofs.Common.{append_assoc, append-nil, list_any, CardView, DeckView, DeckDiffView, AreOfDeck, Await, Lead, deck_before, deck_after}
use Rattle.upd_diff.proofs.Common.{has_cards, standing}
use Rattle.upd_diff.specs.CardDiffs.{Paired}

-- ---- the decks that paired diffs lead to

-- one more deck on both sides of an equation of decks with cards
standing_more : (g : DeckDiffView → DeckView) (ks : List DeckDiffView) (k : DeckDiffView) (xs : List DeckView) (d : DeckView)
    → standing (map g ks) ≡ standing xs → g k ≡ d → standing (map g (k ∷ ks)) ≡ standing (d ∷ xs)
standing_more g ks k xs d e same = λ i. cond (has_cards (same i)) (same i ∷ e i) (e i)

-- a deck without cards on one side
standing_none : (g : DeckDiffView → DeckView) (ks : List DeckDiffView) (k : DeckDiffView) (xs : List DeckView)
    → standing (map g ks) ≡ standing xs → (g k).cards ≡ [] → standing (map g (k ∷ ks)) ≡ standing xs
standing_none g ks k xs e none =
    ap (λ (cards : List CardView). cond (list_any (λ c. true) cards) (record { ident = (g k).ident; cards = cards } ∷ standing (map g ks))
    (standing (map g ks))) none
    ∙ e

same_deck : (a : ℕ) (cards : List CardView) (d : DeckView) → a ≡ d.ident → cards ≡ d.cards → record { ident = a; cards = cards } ≡ d
same_deck a cards d p q = λ i. record { ident = p i; cards = q i }

lead_pair : (xs ys : List DeckView) (ks : List DeckDiffView) (d e : DeckView) (k : DeckDiffView) → e.ident ≡ d.ident
    → AreOfDeck d.ident d.cards e.cards k → Lead xs ys ks → Lead (d ∷ xs) (e ∷ ys) (k ∷ ks)
lead_pair xs ys ks d e k same are lead = record {
  olds = standing_more deck_before ks k xs d lead.olds (same_deck k.deck (deck_before k).cards d are.deck are.card_diffs.olds);
  news = standing_more deck_after ks k ys e lead.news (same_deck k.deck (deck_after k).cards e (are.deck ∙ sym same) are.card_diffs.news);
  kept = (are.card_diffs.kept, lead.kept);
  short = (are.short, lead.short);
}

lead_gone : (xs ys : List DeckView) (ks : List DeckDiffView) (d : DeckView) (k : DeckDiffView) → AreOfDeck d.ident d.cards [] k → Lead xs ys ks
    → Lead (d ∷ xs) ys (k ∷ ks)
lead_gone xs ys ks d k are lead = record {
  olds = standing_more deck_before ks k xs d lead.olds (same_deck k.deck (deck_before k).cards d are.deck are.card_diffs.olds);
  news = standing_none deck_after ks k ys lead.news are.card_diffs.news;
  kept = (are.card_diffs.kept, lead.kept);
  short = (are.short, lead.short);
}

lead_new : (xs ys : List DeckView) (ks : List DeckDiffView) (e : DeckView) (k : DeckDiffView) → AreOfDeck e.ident [] e.cards k → Lead xs ys ks
    → Lead xs (e ∷ ys) (k ∷ ks)
lead_new xs ys ks e k are lead = record {
  olds = standing_none deck_before ks k xs lead.olds are.card_diffs.olds;
  news = standing_more deck_after ks k ys e lead.news (same_deck k.deck (deck_after k).cards e are.deck are.card_diffs.news);
  kept = (are.card_diffs.kept, lead.kept);
  short = (are.short, lead.short);
}

pub paired_lead : (xs ys : List DeckView) (ks : List DeckDiffView) → Paired xs ys ks → Lead xs ys ks
paired_lead [] [] [] p = record { olds = refl; news = refl; kept = tt; short = tt }
paired_lead [] [] (k ∷ ks) p = absurd p
paired_lead [] (e ∷ ys) [] p = absurd p
paired_lead [] (e ∷ ys) (k ∷ ks) p = lead_new [] ys ks e k p.0 (paired_lead [] ys ks p.1)
paired_lead (d ∷ xs) [] [] p = absurd p
paired_lead (d ∷ xs) (e ∷ ys) [] p = absurd p
paired_lead (d ∷ xs) [] (k ∷ ks) p = lead_gone xs [] ks d k p.0 (paired_lead xs [] ks p.1)
paired_lead (d ∷ xs) (e ∷ ys) (k ∷ ks) (inl p) = lead_pair xs ys ks d e k p.0 p.1 (paired_lead xs ys ks p.2)
paired_lead (d ∷ xs) (e ∷ ys) (k ∷ ks) (inr p) = lead_gone xs (e ∷ ys) ks d k p.1 (paired_lead xs (e ∷ ys) ks p.2)

-- ---- one more deck

pub await_gone : (before after : List DeckView) (ks : List DeckDiffView) (d : DeckView) (k : DeckDiffView) (olds news : List DeckView)
    → ((e : DeckView) (es : List DeckView) → news ≡ e ∷ es → e.ident ≡ d.ident → ⊥) → AreOfDeck d.ident d.cards [] k → Await before after ks (d ∷ olds) news
    → Await before after (ks ++ k ∷ []) olds news
await_gone before after ks d k olds [] other are so rest p =
    subst (Paired before after) (sym (append_assoc ks (k ∷ []) rest)) (so (k ∷ rest) (are, p))
await_gone before after ks d k olds (e ∷ news) other are so rest p =
    subst (Paired before after) (sym (append_assoc ks (k ∷ []) rest)) (so (k ∷ rest) (inr (other e news refl, are, p)))

pub await_none : (before after : List DeckView) (ks : List DeckDiffView) → Await before after ks [] [] → Paired before after ks
await_none before after ks so = subst (Paired before after) (append-nil ks) (so [] tt)

-- the first of the remaining decks
pub first_left : (ds : List DeckView) (i : ℕ) (e : DeckView) (es : List DeckView) → drop i ds ≡ e ∷ es → slice_get ds i ≡ Some e
first_left [] zero e es is = absurd (cc)
first_left [] (suc i) e es is = absurd (cc)
first_left (d ∷ ds) zero e es is = let same : d ≡ e = cc in ap Some same
first_left (d ∷ ds) (suc i) e es is = first_left ds i e es is
