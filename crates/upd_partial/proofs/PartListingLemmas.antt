-- A part of a library lists what it has as the whole library does.
use Rattle.upd_partial.proofs.Common.{◌≡◌, ℕ, Bool, true, false, if◌then◌else◌, List, ◌++◌, Option, Some, None, Result, Ok, refl, ap, ◌∙◌, slice_get, flat_map}
use Rattle.upd_partial.proofs.Common.{bytes_eq, CardRef, Fault, ◌>>=◌, at_line, Place, LibraryView, card_in, cards_of, place_of, part, IsSound, live_targets}
use Rattle.upd_text.specs.declared.fault.FaultKind.TheVariants.{CardUnknown, DeckUnknown}
use Rattle.upd_text.specs.Names.{yank_name}
use Rattle.upd_text.specs.Outcome.{need}
use Rattle.upd_core.specs.Library.{deck_of}
use Rattle.upd_compile.specs.Listings.{card_lines, card_listing, deck_heading, deck_line, deck_listing}
use Rattle.upd_partial.proofs.NeedLemmas.{not_in}
use Rattle.upd_partial.proofs.PartLemmas.{cards_same, place_same}

-- the listing of a deck, by whether its name is that of `YANK$$$`, and otherwise by the deck of that name
abbrev listed : Bool → Option ℕ → LibraryView → Result (List ℕ) Fault
listed yank deck l =
    at_line 0 (need DeckUnknown (if yank then Some 0 else deck)) >>= λ age.
    Ok (deck_heading l.idents age ++ flat_map (deck_line l.idents (live_targets l) age) (cards_of age l))

pub deck_listed_by_part : (out : ℕ → Bool) (l : LibraryView) (name : List ℕ) → ((d : ℕ) → deck_of name l ≡ Some d → out d ≡ false)
    → deck_listing name (part out l) ≡ deck_listing name l
deck_listed_by_part out l name stays = go (bytes_eq name yank_name) (deck_of name l) refl
  where
    go : (yank : Bool) (o : Option ℕ) → deck_of name l ≡ o → listed yank o (part out l) ≡ listed yank o l
    go true o e = refl
    go false None e = refl
    go false (Some d) e =
        ap (λ cs. Ok (deck_heading l.idents d ++ flat_map (deck_line l.idents (live_targets l) d) cs)) (cards_same out d l (stays d e))

-- the listing of a card at the place where it is found
abbrev listed_card : Option Place → LibraryView → Result (List ℕ) Fault
listed_card place l =
    at_line 0 (need CardUnknown place) >>= λ p. at_line 0 (need CardUnknown (card_in p l)) >>= λ c.
    Ok (card_lines l.idents (live_targets l) p.deck c)

pub card_listed_by_part : (out : ℕ → Bool) (l : LibraryView) (card : CardRef) → IsSound l → out 0 ≡ false
    → ((p : Place) → place_of card l ≡ Some p → out p.deck ≡ false) → card_listing card (part out l) ≡ card_listing card l
card_listed_by_part out l card sound yanks stays =
    ap (λ place. listed_card place (part out l)) (place_same out l card yanks (not_in out l card sound stays)) ∙ go (place_of card l) refl
  where
    go : (o : Option Place) → place_of card l ≡ o → listed_card o (part out l) ≡ listed_card o l
    go None e = refl
    go (Some p) e =
        ap (λ cs. at_line 0 (need CardUnknown (slice_get cs p.index)) >>= λ c. Ok (card_lines l.idents (live_targets l) p.deck c))
        (cards_same out p.deck l (stays p e))
