-- A part of a sound library is sound.
use Rattle.upd_partial.proofs.Common.{◌≡◌, ℕ, ◌+◌, ◌<◌, Bool, true, false, not, cond, List, [], ◌∷◌, ◌++◌, length, refl, sym, ap, subst, arith, sum_by-cons}
use Rattle.upd_partial.proofs.Common.{IsTrue, filter, flat_map, AllByRecursion, CardView, DeckView, LibraryView, all_decks, cards_of_decks, entries_of_decks}
use Rattle.upd_partial.proofs.Common.{part, IsOfHeld, IsSound, IsWhole, all_cards, all_each, all_filter, all_flat}
use Rattle.upd_core.specs.declared.library.Rest.{Rest}
use Rattle.upd_core.specs.Sound.{BeginsOn, BeginsWithItsOwn, HasNoTargets, key_of, stands}
use Rattle.upd_laws.proofs.SoundListLemmas.{IsPart, kept, none, fewer, part_apart, part_append, part_rising, part_same, part_without}
use Rattle.upd_partial.proofs.PartLemmas.{kept_of, left_of}
use Rattle.upd_partial.proofs.StayLemmas.{yank_deck}
use Rattle.upd_partial.proofs.WeaveLemmas.{none_left}

-- ---- fewer elements

part_filter : {A B : Type 0} (f : A → B) (test : A → Bool) (xs : List A) → IsPart f xs (filter test xs)
part_filter f test [] = none
part_filter f test (x ∷ xs) = go (test x) (part_filter f test xs)
  where
    go : (b : Bool) → IsPart f xs (filter test xs) → IsPart f (x ∷ xs) (cond b (x ∷ filter test xs) (filter test xs))
    go true later = kept refl later
    go false later = fewer later

part_flat : {A B C : Type 0} (f : B → C) (g : A → List B) (test : A → Bool) (xs : List A) → IsPart f (flat_map g xs) (flat_map g (filter test xs))
part_flat f g test [] = none
part_flat f g test (x ∷ xs) = go (test x) (part_flat f g test xs)
  where
    go : (b : Bool) → IsPart f (flat_map g xs) (flat_map g (filter test xs))
        → IsPart f (g x ++ flat_map g xs) (flat_map g (cond b (x ∷ filter test xs) (filter test xs)))
    go true later = part_append f (part_same f (g x)) later
    go false later = part_without f (g x) later

-- what holds of all cards
cards_hold : (P : CardView → Type 0) (out : ℕ → Bool) (l : LibraryView) → AllByRecursion P (all_cards l) → AllByRecursion P (all_cards (part out l))
cards_hold P out l all =
    let each : AllByRecursion (λ d. AllByRecursion P d.cards) (all_decks l) = all_each P (λ (d : DeckView). d.cards) (all_decks l) all in
    all_flat P (λ (d : DeckView). d.cards) (all_decks (part out l)) (each.0, all_filter _ (λ (d : DeckView). not (out d.ident)) l.decks each.1)

-- ---- a part that is whole leaves nothing out

some_cards : (d : DeckView) → BeginsWithItsOwn d → 0 < length d.cards
some_cards d begins = go d.cards begins
  where
    go : (cards : List CardView) → BeginsWithItsOwn (record { ident = d.ident; cards = cards }) → 0 < length cards
    go [] begins = absurd begins
    go (c ∷ cs) begins = omega arith

none_counted : (ds : List DeckView) → AllByRecursion BeginsWithItsOwn ds → cards_of_decks ds ≡ 0 → ds ≡ []
none_counted [] begin zero_cards = refl
none_counted (d ∷ ds) begin zero_cards =
    let some = some_cards d begin.0 in
    let sum = sum_by-cons (λ (e : DeckView). length e.cards) d ds in
    absurd (omega (arith, some, sum, zero_cards))

whole_part : (out : ℕ → Bool) (l : LibraryView) → AllByRecursion BeginsWithItsOwn l.decks → IsWhole (part out l) → (left_of out l.decks ≡ []) × IsWhole l
whole_part out l firsts whole =
    let cards : l.rest.cards + cards_of_decks (left_of out l.decks) ≡ 0 = ap (λ (r : Rest). r.cards) whole in
    let entries : l.rest.entries + entries_of_decks (left_of out l.decks) ≡ 0 = ap (λ (r : Rest). r.entries) whole in
    let no_cards : l.rest.cards ≡ 0 = omega (arith, cards) in
    let no_entries : l.rest.entries ≡ 0 = omega (arith, entries) in
    let count : cards_of_decks (left_of out l.decks) ≡ 0 = omega (arith, cards) in (
      none_counted (left_of out l.decks) (all_filter BeginsWithItsOwn (λ (d : DeckView). out d.ident) l.decks firsts) count,
      λ i. record { cards = no_cards i; entries = no_entries i },
    )

pub part_sound : (out : ℕ → Bool) (l : LibraryView) → IsSound l → IsSound (part out l)
part_sound out l sound = record {
  ages = sound.ages;
  names = sound.names;
  reserved = sound.reserved;
  decks = all_filter _ (λ (d : DeckView). not (out d.ident)) l.decks sound.decks;
  deck_ages = part_rising (λ (d : DeckView). d.ident)
      (kept {x = yank_deck l} {y = yank_deck l} refl (part_filter (λ (d : DeckView). d.ident) (λ d. not (out d.ident)) l.decks)) sound.deck_ages;
  firsts = all_filter BeginsWithItsOwn (λ (d : DeckView). not (out d.ident)) l.decks sound.firsts;
  standing = λ whole d held.
      let all = whole_part out l sound.firsts whole in
      let same : kept_of out l.decks ≡ l.decks = none_left out l.decks all.0 in
      subst (λ ds. IsTrue (stands d (record l { decks = ds }))) (sym same) (sound.standing all.1 d held);
  cards = cards_hold (IsOfHeld l.idents) out l sound.cards;
  histories = cards_hold BeginsOn out l sound.histories;
  keys = part_apart key_of (part_append key_of (part_same key_of l.yanks)
      (part_flat key_of (λ (d : DeckView). d.cards) (λ d. not (out d.ident)) l.decks)) sound.keys;
  yanks = sound.yanks;
  targets = sound.targets;
  plain = all_filter HasNoTargets (λ (d : DeckView). not (out d.ident)) l.decks sound.plain;
}
