-- What is listed of the part of a library with the deck that is asked for is listed of the whole.
use Rattle.upd_desk.proofs.Common.{◌≡◌, ℕ, ◌+◌, ◌≤◌, false, not, List, [], ◌∷◌, length, Option, Some, None, sym, ap, ◌∙◌, subst, arith, refl, CardRef, is_among}
use Rattle.upd_desk.proofs.Common.{LibraryView, part_of, IsSound, card_listing, deck_listing, decks_few, decks_with, is_left_out, part_of_others}
use Rattle.upd_desk.proofs.Common.{CardView, Fault, Ok, Place, Result, at_line, live_targets, need, place_of, ◌>>=◌}
use Rattle.std.specs.Option.{option_and_then, option_map, option_to_list}
use Rattle.upd_text.specs.declared.fault.FaultKind.TheVariants.{CardUnknown}
use Rattle.upd_core.specs.Library.{card_in, deck_of}
use Rattle.upd_core.specs.Status.{live_cards, targets_of}
use Rattle.upd_core.specs.declared.ident.Ident.{Ident}
use Rattle.upd_compile.specs.Listings.{card_lines}
use Rattle.upd_row_store.specs.Asked.{ShowsCard, ages_asked, placed_card}
use Rattle.upd_row_store.specs.declared.asked.DeckOf.{DeckOf}
use Rattle.upd_row_store.specs.declared.asked.DeckOf.TheVariants.{Named, Holding}
use Rattle.upd_partial.proofs.NeededLemmas.{card_kept}
use Rattle.upd_partial.proofs.PartListingLemmas.{card_listed_by_part, deck_listed_by_part}
use Rattle.upd_row_store.specs.Keeping.{FindsLibrary, LeavesDeck, LeavesLoad}
use Rattle.upd_desk.specs.Holding.{EachHeld}
use Rattle.upd_desk.proofs.Common.{Err, Ghosts, library_after}
use Rattle.upd_desk.proofs.LoadingLemmas.{none_read, still_read, within}
use Rattle.upd_desk.proofs.MadeLemmas.{library_made}
use Rattle.upd_desk.proofs.QueryLemmas.{held_rows, of_held}
use Rattle.upd_desk.proofs.StandingLemmas.{among_own, one_holder}

pub deck_listed : (name : List ℕ) (found l : LibraryView) → found ≡ part_of (ages_asked (Named name) l) l
    → deck_listing name found ≡ deck_listing name l
deck_listed name found l is =
    ap (deck_listing name) is ∙ deck_listed_by_part (λ e. not (is_among (option_to_list (deck_of name l)) e)) l name
    (λ e here. subst (λ o. not (is_among (option_to_list o) e) ≡ false) (sym here) (ap not (among_own e)))

pub card_listed : (card : CardRef) (found l : LibraryView) → IsSound l → found ≡ part_of (ages_asked (Holding card) l) l
    → card_listing card found ≡ card_listing card l
card_listed card found l sound is =
    ap (card_listing card) (is ∙ part_of_others (decks_with (card ∷ []) l) l sound)
    ∙ card_listed_by_part (is_left_out (decks_with (card ∷ []) l) l) l card sound refl (card_kept card l sound)

-- the lines of a card, from the idents and the yank cards
abbrev shown_lines : List Ident → List CardView → Option (ℕ × CardView) → Result (List ℕ) Fault
shown_lines idents yanks o = at_line 0 (need CardUnknown o) >>= λ x. Ok (card_lines idents (targets_of (live_cards yanks)) x.0 x.1)

-- what shows a card as a library does lists it as the library does
pub card_shown : (card : CardRef) (l found : LibraryView) → ShowsCard card l found → card_listing card found ≡ card_listing card l
card_shown card l found shows = by found ∙ (λ i. shown_lines (shows.idents i) (shows.yanks i) (shows.same i)) ∙ sym (by l)
  where
    by : (m : LibraryView) → card_listing card m ≡ shown_lines m.idents m.yanks (placed_card card m)
    by m = go (place_of card m)
      where
        at : (p : Place) (o : Option CardView) → (at_line 0 (need CardUnknown o) >>= λ c. Ok (card_lines m.idents (live_targets m) p.deck c))
            ≡ shown_lines m.idents m.yanks (option_map (λ c. (p.deck, c)) o)
        at p None = refl
        at p (Some c) = refl

        go : (o : Option Place)
            → (at_line 0 (need CardUnknown o) >>= λ p. at_line 0 (need CardUnknown (card_in p m)) >>= λ c. Ok (card_lines m.idents (live_targets m) p.deck c))
            ≡ shown_lines m.idents m.yanks (option_and_then (λ p. option_map (λ c. (p.deck, c)) (card_in p m)) o)
        go None = refl
        go (Some p) = at p (card_in p m)

-- ---- it is one deck at most

few_asked : (asked : DeckOf) (l : LibraryView) → IsSound l → length (ages_asked asked l) ≤ 1
few_asked (Named name) l sound = go (deck_of name l)
  where
    go : (o : Option ℕ) → length (option_to_list o) ≤ 1
    go None = omega arith
    go (Some d) = omega arith
few_asked (Holding card) l sound = one_holder card l sound

one_read : (asked : DeckOf) (l found : LibraryView) (old new : ℕ) → IsSound l → new ≤ old + length found.decks
    → found ≡ part_of (ages_asked asked l) l → new ≤ old + 1
one_read asked l found old new sound reads is =
    let few = decks_few (ages_asked asked l) l sound in
    let one = few_asked asked l sound in
    let here : length found.decks ≤ 1 = subst (λ m. length m.decks ≤ 1) (sym is) (omega (arith, few, one)) in
    omega (arith, reads, here)

module _ {S : Type 0} {meaning : Ghosts S} where
  open meaning use {shows, image, decks_read_of}

  -- a load of one deck reads one of each library that the store holds, at most
  pub deck_read : (asked : DeckOf) (result : Result LibraryView Fault) (old new : S) → LeavesDeck meaning result old new
      → FindsLibrary meaning result old new (λ l rows found. found ≡ part_of (ages_asked asked l) l)
      → EachHeld meaning old new (λ journal. decks_read_of new ≤ decks_read_of old + 1)
  deck_read asked (Ok part) old new leaves finds honest j held =
      of_held shows (image old) (leaves.same.later.was_open honest (leaves.opens honest))
      (λ l made rows shown holds. one_read asked l part _ _ made.sound
      (leaves.reads honest l made.sound made.whole (λ opened. (rows, shown, holds))) (finds honest l made.sound made.whole rows shown holds)) j held
  deck_read asked (Err f) old new leaves finds honest j held =
      let made = library_made j in
      within _ _ 1 (leaves.reads honest (library_after j) made.sound made.whole (λ opened. held_rows shows (image old) j (held opened)))

  -- the directory is read without any
  pub head_of_held : (n : ℕ) (result : Result LibraryView Fault) (old new : S) → LeavesLoad meaning result old new
      → FindsLibrary meaning result old new (λ l rows found. found ≡ part_of [] l)
      → EachHeld meaning old new (λ journal. decks_read_of new ≤ decks_read_of old + n)
  head_of_held n (Ok head) old new leaves finds honest j held =
      of_held shows (image old) (leaves.same.later.was_open honest (leaves.opens honest))
      (λ l made rows shown holds. within _ _ n (none_read _ _ l head made.sound (finds honest l made.sound made.whole rows shown holds) leaves.reads)) j held
  head_of_held n (Err f) old new leaves finds honest j held = within _ _ n (still_read _ _ leaves.reads)
