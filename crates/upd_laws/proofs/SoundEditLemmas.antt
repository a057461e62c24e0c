-- Each edit keeps a library sound.
use Rattle.upd_laws.proofs.Common.{◌≡◌, ℕ, zero, suc, ◌+◌, ◌-◌, ◌<◌, ◌≤◌, Bool, true, false, cond, not, ◌||◌, List, [], ◌∷◌, ◌++◌, map, length, inl, inr}
use Rattle.upd_laws.proofs.Common.{refl, sym, ap, ◌∙◌, subst, arith, ne_eqb, or_cases, or_left, or_right, Some, None, ◌==◌, ◌⊎◌, insert, IsTrue, bytes_eq}
use Rattle.upd_laws.proofs.Common.{option_map_or, filter, find, list_any, AllByRecursion, AllZip, Entry, Ident, Kind, Target, introduced, next_age, new_card}
use Rattle.upd_laws.proofs.Common.{unheld, without_entries, without_idents, decks_without, with_card, with_deck, entered_range, with_yank, with_entries}
use Rattle.upd_laws.proofs.Common.{purged, purged_in, at_first, CardView, DeckView, LibraryView, all_decks, cards_of, held_named, is_deck, is_deck_kind}
use Rattle.upd_laws.proofs.Common.{with_cards, AreAgedFrom, AreApart, AreRising, is_held, is_held_deck, stands, BeginsOn, BeginsWithItsOwn, HasNoTargets}
use Rattle.upd_laws.proofs.Common.{IsOfHeld, key_of, all_cards, IsSound, IsAged, yank_name, flat}
use Rattle.upd_core.specs.declared.ident.Kind.TheVariants as kind
use Rattle.upd_laws.proofs.SoundListLemmas.{same_number, is_same_number, other_number, all_append, all_weaker, all_filter, all_map}
use Rattle.upd_laws.proofs.SoundListLemmas.{rising_end, any_front, any_last, more_all, more_apart, IsPart, none, kept, part_apart, part_rising, part_append}
use Rattle.upd_laws.proofs.SoundListLemmas.{zip_all, zip_part, at_first_all, at_first_map, at_first_part, find_passes}
use Rattle.upd_laws.proofs.SoundIdentLemmas.{ages_end, ages_unheld, held_within, held_more, held_deck_more, held_deck_last, held_deck_held, held_deck_end}
use Rattle.upd_laws.proofs.SoundIdentLemmas.{held_deck_was, held_deck_still, names_end, names_unheld, unnamed_end, unnamed_still}
use Rattle.upd_laws.proofs.SoundCardLemmas.{changed, decks_with, standing_by_ages, standing_still, insert_more, more_with_card, more_with_yank, more_with_deck}
use Rattle.upd_laws.proofs.SoundCardLemmas.{IsEntered, entered_some, zip_with_entries, all_without, all_purged, all_purged_in, keys_without, keys_decks}
use Rattle.upd_laws.proofs.SoundCardLemmas.{ages_decks, all_decks_without, held_without, begins_without, begins_entered, plain_without, first_without}
use Rattle.upd_laws.proofs.SoundYankLemmas.{aged_end, same_ident, same_number_of, same_targets, aged_entered, aged_without, AreYanked}

-- no card is of an ident that isn't in the directory
pub none_beyond : (l : LibraryView) → IsSound l → AllByRecursion (λ c. c.ident ≤ length l.idents) (all_cards l)
none_beyond l s = all_weaker (IsOfHeld l.idents) _ (all_cards l) (λ c h. let w = held_within 1 l.idents c.ident s.ages h.0 in omega arith) s.cards

of_held_more : (idents more : List Ident) (c : CardView) → IsOfHeld idents c → IsOfHeld (idents ++ more) c
of_held_more idents more c h =
    (held_more idents more c.ident h.0, all_weaker (λ (e : Entry). IsTrue (is_held idents e.ident)) _ c.history (λ e f. held_more idents more e.ident f) h.1)

-- the directory of a library with a new ident of a free name
record IsIntroduced (i : Ident) (l : LibraryView) : Type 0 where
  ages : AreAgedFrom 1 (l.idents ++ i ∷ [])
  names : AreApart (map (λ i. i.name) (filter (λ i. i.held) (l.idents ++ i ∷ [])))
  reserved : held_named yank_name (l.idents ++ i ∷ []) ≡ None
  decks : AllByRecursion (λ d. IsTrue (is_held_deck (l.idents ++ i ∷ []) d.ident)) l.decks
  cards : AllByRecursion (IsOfHeld (l.idents ++ i ∷ [])) (all_cards l)

with_ident : (i : Ident) (l : LibraryView) → IsSound l → i.age ≡ next_age l → i.held ≡ true → held_named i.name l.idents ≡ None
    → bytes_eq i.name yank_name ≡ false → IsIntroduced i l
with_ident i l s age held free other = record {
  ages = ages_end 1 l.idents i s.ages age;
  names = names_end l.idents i held free s.names;
  reserved = unnamed_end yank_name l.idents i s.reserved other;
  decks = all_weaker (λ (d : DeckView). IsTrue (is_held_deck l.idents d.ident)) _ l.decks (λ d h. held_deck_more l.idents (i ∷ []) d.ident h) s.decks;
  cards = all_weaker (IsOfHeld l.idents) _ (all_cards l) (λ c h. of_held_more l.idents (i ∷ []) c h) s.cards;
}

-- a new set
pub introduced_sound : (name : List ℕ) (l : LibraryView) → IsSound l → held_named name l.idents ≡ None → bytes_eq name yank_name ≡ false
    → IsSound (introduced name kind.Set false l)
introduced_sound name l s free other =
    let i : Ident = record { name = name; age = next_age l; kind = kind.Set; noprop = false; held = true } in
    let with = with_ident i l s refl refl free other in
    record {
      ages = with.ages;
      names = with.names;
      reserved = with.reserved;
      decks = with.decks;
      deck_ages = s.deck_ages;
      firsts = s.firsts;
      standing = λ whole d held. elim (held_deck_end l.idents i d held) [ inl h ↦ s.standing whole d h | inr h ↦ absurd (let no = h.0 in cc) ];
      cards = with.cards;
      histories = s.histories;
      keys = s.keys;
      yanks = s.yanks;
      targets = s.targets;
      plain = s.plain;
    }

-- what is in the directory is older than the next ident
pub cards_below : (l : LibraryView) → IsSound l → AllByRecursion (λ (c : CardView). c.ident < next_age l) (all_cards l)
cards_below l s = all_weaker (λ (c : CardView). c.ident ≤ length l.idents) _ (all_cards l) (λ c h. omega arith) (none_beyond l s)

decks_below : (l : LibraryView) → IsSound l → AllByRecursion (λ (d : DeckView). d.ident < next_age l) l.decks
decks_below l s = all_weaker (λ (d : DeckView). IsTrue (is_held_deck l.idents d.ident)) _ l.decks
    (λ d h. let w = held_within 1 l.idents d.ident s.ages (held_deck_held l.idents d.ident h) in omega arith) s.decks

-- a new deck
pub deck_sound : (name : List ℕ) (sort : Kind) (noprop : Bool) (text : List ℕ) (l : LibraryView) → is_deck_kind sort ≡ true → IsSound l
    → held_named name l.idents ≡ None → bytes_eq name yank_name ≡ false
    → IsSound (with_deck (record { ident = next_age l; cards = new_card (next_age l) 1 text [] ∷ [] }) (introduced name sort noprop l))
deck_sound name sort noprop text l deck s free other =
    let a = next_age l in
    let i : Ident = record { name = name; age = a; kind = sort; noprop = noprop; held = true } in
    let c : CardView = new_card a 1 text [] in
    let d : DeckView = record { ident = a; cards = c ∷ [] } in
    let with = with_ident i l s refl refl free other in
    let held : is_held_deck (l.idents ++ i ∷ []) a ≡ true = held_deck_last l.idents i refl deck in
    let more = more_with_deck a c l in
    record {
      ages = with.ages;
      names = with.names;
      reserved = with.reserved;
      decks = all_append (λ (d : DeckView). IsTrue (is_held_deck (l.idents ++ i ∷ []) d.ident)) l.decks (d ∷ []) with.decks (held, tt);
      deck_ages = subst AreRising (sym (ages_behind l d))
          (rising_end a (map (λ d. d.ident) (all_decks l)) s.deck_ages
          (omega arith, all_map (λ b. b < a) (λ (d : DeckView). d.ident) l.decks (decks_below l s)));
      firsts = all_append BeginsWithItsOwn l.decks (d ∷ []) s.firsts ((refl, refl), tt);
      standing = λ whole z was. elim (held_deck_end l.idents i z was) [
        | inl h ↦ any_front (is_deck z) (all_decks l) (d ∷ []) (s.standing whole z h)
        | inr h ↦ any_last (is_deck z) (all_decks l) d (is_same_number a z h.1)
      ];
      cards = more_all (IsOfHeld (l.idents ++ i ∷ [])) c (all_cards l) _ more
          (held_deck_held (l.idents ++ i ∷ []) a held, (held_deck_held (l.idents ++ i ∷ []) a held, tt)) with.cards;
      histories = more_all BeginsOn c (all_cards l) _ more (refl, refl) s.histories;
      keys = more_apart key_of c (all_cards l) _ more (all_weaker (λ (b : CardView). b.ident < a) _ (all_cards l)
          (λ b h same. let e = ap (λ (p : ℕ × ℕ). p.0) same in absurd (omega arith)) (cards_below l s)) s.keys;
      yanks = s.yanks;
      targets = s.targets;
      plain = all_append HasNoTargets l.decks (d ∷ []) s.plain ((refl, tt), tt);
    }
  where
    ages_behind : (l : LibraryView) (d : DeckView)
        → map (λ (d : DeckView). d.ident) (all_decks l ++ d ∷ []) ≡ map (λ (d : DeckView). d.ident) (all_decks l) ++ d.ident ∷ []
    ages_behind l d = go (all_decks l)
      where
        go : (ds : List DeckView) → map (λ (d : DeckView). d.ident) (ds ++ d ∷ []) ≡ map (λ (d : DeckView). d.ident) ds ++ d.ident ∷ []
        go [] = refl
        go (e ∷ ds) = ap (λ ages. e.ident ∷ ages) (go ds)

-- the cards of one deck changed, where the parts that speak of cards hold
with_cards_sound : (age : ℕ) (change : List CardView → List CardView) (l : LibraryView) → IsSound l
    → AllByRecursion (IsOfHeld l.idents) (all_cards (with_cards age change l)) → AllByRecursion BeginsOn (all_cards (with_cards age change l))
    → AreApart (map key_of (all_cards (with_cards age change l)))
    → ((d : DeckView) → find (is_deck age) (all_decks l) ≡ Some d → BeginsWithItsOwn d → BeginsWithItsOwn (changed change d))
    → ((d : DeckView) → HasNoTargets d → (age ≡ 0 → ⊥) → HasNoTargets (changed change d))
    → (age ≡ 0 → IsAged (change l.yanks)) → (age ≡ 0 → AllByRecursion (λ c. AreApart c.targets) (change l.yanks)) → IsSound (with_cards age change l)
with_cards_sound age change l s cards histories keys firsts plain yanks targets = go (age == 0) refl cards histories keys
  where
    after : Bool → LibraryView
    after b = cond b (record l { yanks = change l.yanks }) (record l { decks = at_first (is_deck age) (changed change) l.decks })

    same_ages : map (λ (d : DeckView). d.ident) (at_first (is_deck age) (changed change) l.decks) ≡ map (λ (d : DeckView). d.ident) l.decks
    same_ages = at_first_map (λ (d : DeckView). d.ident) (is_deck age) (changed change) l.decks (λ d. refl)

    go : (b : Bool) → (age == 0) ≡ b → AllByRecursion (IsOfHeld l.idents) (all_cards (after b)) → AllByRecursion BeginsOn (all_cards (after b))
        → AreApart (map key_of (all_cards (after b))) → IsSound (after b)
    go true e cards histories keys = record {
      ages = s.ages;
      names = s.names;
      reserved = s.reserved;
      decks = s.decks;
      deck_ages = s.deck_ages;
      firsts = s.firsts;
      standing = s.standing;
      cards = cards;
      histories = histories;
      keys = keys;
      yanks = yanks (same_number age 0 e);
      targets = targets (same_number age 0 e);
      plain = s.plain;
    }
    go false e cards histories keys =
        let front : is_deck age (record { ident = 0; cards = l.yanks }) ≡ false = ne_eqb 0 age (λ same. other_number age 0 e (sym same)) in
        record {
          ages = s.ages;
          names = s.names;
          reserved = s.reserved;
          decks = at_first_all (is_deck age) (changed change) (λ d. IsTrue (is_held_deck l.idents d.ident)) l.decks (λ d f h. h) s.decks;
          deck_ages = rw same_ages s.deck_ages;
          firsts = at_first_all (is_deck age) (changed change) BeginsWithItsOwn l.decks (λ d f h. firsts d (rw front f) h) s.firsts;
          standing = λ whole d held. ap (λ b. (0 == d) || b) (standing_by_ages d _ l.decks same_ages) ∙ s.standing whole d held;
          cards = cards;
          histories = histories;
          keys = keys;
          yanks = s.yanks;
          targets = s.targets;
          plain = at_first_all (is_deck age) (changed change) HasNoTargets l.decks (λ d f h. plain d h (other_number age 0 e)) s.plain;
        }

-- what a new card must be: of a held ident, and its number new
pub record IsNew (c : CardView) (l : LibraryView) : Type 0 where
  pub held : IsOfHeld l.idents c
  pub begins : BeginsOn c
  pub key : AllByRecursion (λ b. key_of c ≡ key_of b → ⊥) (all_cards l)

-- text after the first card of a deck
pub card_sound : (d behind : ℕ) (c : CardView) (l : LibraryView) → IsSound l → stands d l ≡ true → (d ≡ 0 → ⊥) → IsNew c l → c.targets ≡ []
    → (behind ≡ 0) ⊎ (behind < length (cards_of d l)) → IsSound (with_card d behind c l)
card_sound d behind c l s standing other new untargeted place =
    let more = more_with_card d behind c l standing in
    with_cards_sound d (λ cards. insert cards (length cards - behind) c) l s
    (more_all (IsOfHeld l.idents) c (all_cards l) _ more new.held s.cards)
    (more_all BeginsOn c (all_cards l) _ more new.begins s.histories)
    (more_apart key_of c (all_cards l) _ more new.key s.keys)
    (λ e f first. first_kept e (within e f) first)
    (λ e all zero. more_all (λ b. b.targets ≡ []) c e.cards _ (insert_more c e.cards (length e.cards - behind)) untargeted all)
    (λ e. absurd (other e)) (λ e. absurd (other e))
  where
    within : (e : DeckView) → find (is_deck d) (all_decks l) ≡ Some e → (behind ≡ 0) ⊎ (behind < length e.cards)
    within e f = elim place [ inl a ↦ inl a | inr b ↦ inr (subst (λ o. behind < length (option_map_or (λ (d : DeckView). d.cards) o [])) f b) ]

    at : (ident : ℕ) (cards : List CardView) (n : ℕ) → 0 < n → BeginsWithItsOwn (record { ident = ident; cards = cards })
        → BeginsWithItsOwn (record { ident = ident; cards = insert cards n c })
    at ident [] n positive first = absurd first
    at ident (b ∷ cards) zero positive first = absurd (omega arith)
    at ident (b ∷ cards) (suc n) positive first = first

    some : (ident : ℕ) (cards : List CardView) → BeginsWithItsOwn (record { ident = ident; cards = cards }) → 0 < length cards
    some ident [] first = absurd first
    some ident (b ∷ cards) first = omega arith

    first_kept : (e : DeckView) → (behind ≡ 0) ⊎ (behind < length e.cards) → BeginsWithItsOwn e
        → BeginsWithItsOwn (changed (λ cards. insert cards (length cards - behind) c) e)
    first_kept e (inl a) first = let b = some e.ident e.cards first in at e.ident e.cards (length e.cards - behind) (omega arith) first
    first_kept e (inr b) first = at e.ident e.cards (length e.cards - behind) (omega arith) first

pub yank_sound : (z n : ℕ) (text : List ℕ) (targets : List Target) (l : LibraryView) → IsSound l → IsNew (new_card z n text targets) l
    → AllByRecursion (λ c. c.ident ≤ z) l.yanks → AreYanked z targets → IsSound (with_yank (new_card z n text targets) l)
yank_sound z n text targets l s new young yanked =
    let c : CardView = new_card z n text targets in
    let more = more_with_yank c l in
    record {
      ages = s.ages;
      names = s.names;
      reserved = s.reserved;
      decks = s.decks;
      deck_ages = s.deck_ages;
      firsts = s.firsts;
      standing = s.standing;
      cards = more_all (IsOfHeld l.idents) c (all_cards l) _ more new.held s.cards;
      histories = more_all BeginsOn c (all_cards l) _ more new.begins s.histories;
      keys = more_apart key_of c (all_cards l) _ more new.key s.keys;
      yanks = aged_end z n text targets l.yanks yanked.older young s.yanks;
      targets = all_append (λ (b : CardView). AreApart b.targets) l.yanks (c ∷ []) s.targets (yanked.apart, tt);
      plain = s.plain;
    }

same_key : (e : Entry) (x y : CardView) → IsEntered e x y → key_of y ≡ key_of x
same_key e x y r = let a = same_ident e x y r in let b = same_number_of e x y r in rw (a, b) refl

entered_held : (idents : List Ident) (e : Entry) (x y : CardView) → IsTrue (is_held idents e.ident) → IsEntered e x y → IsOfHeld idents x → IsOfHeld idents y
entered_held idents e x y held (inl same) h = subst (IsOfHeld idents) (sym same) h
entered_held idents e x y held (inr same) h =
    subst (IsOfHeld idents) (sym same) (h.0, all_append (λ (f : Entry). IsTrue (is_held idents f.ident)) x.history (e ∷ []) h.1 (held, tt))

-- entries of a held ident that is as young as any of `YANK$$$`
pub entries_sound : (d from to : ℕ) (e : Entry) (l : LibraryView) → IsSound l → from ≤ to → IsTrue (is_held l.idents e.ident)
    → AllByRecursion (λ c. c.ident ≤ e.ident) l.yanks → IsSound (with_entries d from to e l)
entries_sound d from to e l s order held young =
    let zip = zip_with_entries d from to e l order in
    let some : (cards : List CardView) → AllZip (IsEntered e) cards (entered_range from to e cards) =
    λ cards. entered_some e from (to + 1) cards (omega arith) in
    with_cards_sound d (entered_range from to e) l s
    (zip_all (IsEntered e) (IsOfHeld l.idents) (IsOfHeld l.idents) (all_cards l) _ (λ x y r h. entered_held l.idents e x y held r h) zip s.cards)
    (zip_all (IsEntered e) BeginsOn BeginsOn (all_cards l) _ (λ x y r h. begins_entered e x y r h) zip s.histories)
    (part_apart key_of (zip_part (IsEntered e) key_of (all_cards l) _ (same_key e) zip) s.keys)
    (λ x f first. first_entered e x.ident x.cards _ (some x.cards) first)
    (λ d all zero. zip_all (IsEntered e) (λ (c : CardView). c.targets ≡ []) (λ c. c.targets ≡ []) d.cards _ (λ x y r h. same_targets e x y r ∙ h)
    (some d.cards) all)
    (λ zero. aged_entered e l.yanks _ (some l.yanks) young s.yanks)
    (λ zero. zip_all (IsEntered e) (λ (c : CardView). AreApart c.targets) (λ c. AreApart c.targets) l.yanks _
    (λ x y r h. subst AreApart (sym (same_targets e x y r)) h) (some l.yanks) s.targets)
  where
    first_entered : (e : Entry) (ident : ℕ) (xs ys : List CardView) → AllZip (IsEntered e) xs ys → BeginsWithItsOwn (record { ident = ident; cards = xs })
        → BeginsWithItsOwn (record { ident = ident; cards = ys })
    first_entered e ident [] ys zip first = absurd first
    first_entered e ident (x ∷ xs) [] zip first = absurd zip
    first_entered e ident (x ∷ xs) (y ∷ ys) zip first = (same_ident e x y zip.0 ∙ first.0, same_number_of e x y zip.0 ∙ first.1)

yanks_stay : (gone : ℕ → Bool) (l : LibraryView)
    → IsPart (λ (d : DeckView). d.ident) (record { ident = 0; cards = l.yanks } ∷ []) (record { ident = 0; cards = without_idents gone l.yanks } ∷ [])
yanks_stay gone l = kept refl none

-- a purge of any idents
pub purged_sound : (gone : ℕ → Bool) (l : LibraryView) → IsSound l → IsSound (purged gone l)
purged_sound gone l s = record {
  ages = ages_unheld gone 1 l.idents s.ages;
  names = part_apart (λ (i : Ident). i.name) (names_unheld gone l.idents) s.names;
  reserved = unnamed_still gone yank_name l.idents s.reserved;
  decks = all_decks_without (λ d. IsTrue (is_held_deck l.idents d.ident)) _ gone l.decks (λ d e h. held_deck_still gone l.idents d.ident e h) s.decks;
  deck_ages = part_rising (λ (d : DeckView). d.ident) (part_append (λ (d : DeckView). d.ident) (yanks_stay gone l) (ages_decks gone l.decks)) s.deck_ages;
  firsts = all_decks_without BeginsWithItsOwn BeginsWithItsOwn gone l.decks (λ d e h. first_without gone d e h) s.firsts;
  standing = λ whole d held. still d (held_deck_was gone l.idents d held) (s.standing whole d);
  cards = all_purged (IsOfHeld l.idents) (IsOfHeld (map (unheld gone) l.idents)) gone l (λ c e h. held_without gone l.idents c e h) s.cards;
  histories = all_purged BeginsOn BeginsOn gone l (λ c e h. begins_without gone c e h) s.histories;
  keys = part_apart key_of (part_append key_of (keys_without gone l.yanks) (keys_decks gone l.decks)) s.keys;
  yanks = aged_without gone l.yanks s.yanks;
  targets = all_without (λ (c : CardView). AreApart c.targets) (λ c. AreApart c.targets) gone l.yanks (λ c e h. h) s.targets;
  plain = all_decks_without HasNoTargets HasNoTargets gone l.decks (λ d e h. plain_without gone d h) s.plain;
}
  where
    still : (d : ℕ) → (is_held_deck l.idents d ≡ true) × (gone d ≡ false) → (is_held_deck l.idents d ≡ true → stands d l ≡ true)
        → stands d (purged gone l) ≡ true
    still d was stood = elim (or_cases (0 == d) (list_any (is_deck d) l.decks) (stood was.0)) [
      | inl yanks ↦ or_left (0 == d) (list_any (is_deck d) (decks_without gone l.decks)) yanks
      | inr there ↦ or_right (0 == d) (list_any (is_deck d) (decks_without gone l.decks)) (standing_still gone d l.decks was.1 there)
    ]

-- a purge of one ident in a deck of another
pub purged_in_sound : (d z : ℕ) (l : LibraryView) → (z ≡ d → ⊥) → IsSound l → IsSound (purged_in d z l)
purged_in_sound d z l other s =
    with_cards_sound d (without_idents is_gone) l s
    (all_purged_in (IsOfHeld l.idents) d is_gone l held s.cards)
    (all_purged_in BeginsOn d is_gone l (λ c e h. begins_without is_gone c e h) s.histories)
    (part_apart key_of (subst (λ ds. IsPart key_of (all_cards l) (flat ds)) (sym (decks_with d (without_idents is_gone) l))
    (at_first_part key_of (λ (e : DeckView). e.cards) (is_deck d) (changed (without_idents is_gone)) (all_decks l) (λ e. keys_without is_gone e.cards))) s.keys)
    (λ e f first. first_without is_gone e (ne_eqb e.ident z (λ same. other (sym same ∙ found_age e f))) first)
    (λ e all zero. plain_without is_gone e all)
    (λ e. aged_without is_gone l.yanks s.yanks)
    (λ e. all_without (λ (c : CardView). AreApart c.targets) (λ c. AreApart c.targets) is_gone l.yanks (λ c f h. h) s.targets)
  where
    is_gone : ℕ → Bool
    is_gone x = x == z

    held : (c : CardView) → is_gone c.ident ≡ false → IsOfHeld l.idents c → IsOfHeld l.idents (without_entries is_gone c)
    held c e h = (h.0, all_filter (λ (e : Entry). IsTrue (is_held l.idents e.ident)) (λ e. not (is_gone e.ident)) c.history h.1)

    found_age : (e : DeckView) → find (is_deck d) (all_decks l) ≡ Some e → e.ident ≡ d
    found_age e f = same_number e.ident d (find_passes (is_deck d) (all_decks l) e f)
