-- The tests of the parts of a library decide whether it is sound and whole.
use Rattle.upd_examine.proofs.Common.{◌≡◌, ℕ, ◌<◌, ◌≤◌, inl, inr, Bool, true, ◌&&◌, List, [], ◌∷◌, length, map, None, refl, sym, ap, ◌∙◌, arith, ◌↔◌, ◌==◌}
use Rattle.upd_examine.proofs.Common.{◌||◌, ◌⊎◌, IsTrue, and_parts, and_from, eqb-true, eq-eqb, or_cases, or_right, filter, list_all, list_any}
use Rattle.upd_examine.proofs.Common.{AllByRecursion, Entry, Ident, Target, CardView, DeckView, LibraryView, all_decks, is_deck, AreAgedFrom, AreApart}
use Rattle.upd_examine.proofs.Common.{BeginsOn, BeginsWithItsOwn, IsSound, IsWhole, all_cards, is_held, key_of, HasEntriesFrom, weaker, are_aged_from}
use Rattle.upd_examine.proofs.Common.{are_yanks_from, begins_on, begins_with_its_own, held_at, held_decks, IsDirectorySound}
use Rattle.upd_text.specs.Names.{yank_name}
use Rattle.upd_core.specs.Library.{held_named}
use Rattle.upd_core.specs.Sound.{HasNoTargets, IsOfHeld}
use Rattle.upd_examine.specs.SoundTests.{are_parts_sound, has_no_targets, is_card_sound, is_deck_sound, is_of_held}
use Rattle.upd_examine.proofs.TestLemmas.{aged_decided, all_decided, all_flat, begins_decided, begins_on_decided, both, three, yanks_decided}
use Rattle.upd_examine.proofs.DeckLemmas.{decks_held, held_decks_are, held_positive, held_there}

empty_decided : (ts : List Target) → ((length ts == 0) ≡ true) ↔ (ts ≡ [])
empty_decided [] = ((λ _. refl), (λ _. refl))
empty_decided (t ∷ ts) = ((λ e. let none = eqb-true (length (t ∷ ts)) 0 e in absurd (omega arith)), (λ e. cc))

module _ (idents : List Ident) (ages : AreAgedFrom 1 idents) where
  held_decided : (z : ℕ) → (held_at idents z ≡ true) ↔ IsTrue (is_held idents z)
  held_decided z = let e = held_there idents z ages in ((λ t. e ∙ t), (λ t. sym e ∙ t))

  -- what holds of a sound card
  pub record IsCardSound (c : CardView) : Type 0 where
    pub held : IsOfHeld idents c
    pub history : BeginsOn c

  card_decided : (c : CardView) → (is_card_sound idents c ≡ true) ↔ IsCardSound c
  card_decided c =
      let own = held_decided c.ident in
      let entries = all_decided (λ e. held_at idents e.ident) (λ e. IsTrue (is_held idents e.ident)) (λ e. held_decided e.ident) c.history in
      let begins = begins_on_decided c in (
        (λ t.
            let parts = and_parts (is_of_held idents c) (begins_on c) t in
            let held = and_parts (held_at idents c.ident) (list_all (λ e. held_at idents e.ident) c.history) parts.0 in
            record { held = (own.0 held.0, entries.0 held.1); history = begins.0 parts.1 }),
        (λ is.
            and_from (is_of_held idents c) (begins_on c)
            (and_from (held_at idents c.ident) (list_all (λ e. held_at idents e.ident) c.history) (own.1 is.held.0) (entries.1 is.held.1))
            (begins.1 is.history)),
      )

  cards_decided : (cs : List CardView) → (list_all (is_card_sound idents) cs ≡ true) ↔ AllByRecursion IsCardSound cs
  cards_decided cs = all_decided (is_card_sound idents) IsCardSound card_decided cs

  -- what holds of a sound deck
  pub record IsDeckSound (d : DeckView) : Type 0 where
    pub first : BeginsWithItsOwn d
    pub plain : HasNoTargets d
    pub cards : AllByRecursion IsCardSound d.cards

  deck_decided : (d : DeckView) → (is_deck_sound idents d ≡ true) ↔ IsDeckSound d
  deck_decided d =
      let first = begins_decided d in
      let plain = all_decided (λ c. length c.targets == 0) (λ c. c.targets ≡ []) (λ c. empty_decided c.targets) d.cards in
      let cards = cards_decided d.cards in
      let later = has_no_targets d && list_all (is_card_sound idents) d.cards in (
        (λ t.
            let parts = and_parts (begins_with_its_own d) later t in
            let more = and_parts (has_no_targets d) (list_all (is_card_sound idents) d.cards) parts.1 in
            record { first = first.0 parts.0; plain = plain.0 more.0; cards = cards.0 more.1 }),
        (λ is.
            and_from (begins_with_its_own d) later (first.1 is.first)
            (and_from (has_no_targets d) (list_all (is_card_sound idents) d.cards) (plain.1 is.plain) (cards.1 is.cards))),
      )

  decks_decided : (ds : List DeckView) → (list_all (is_deck_sound idents) ds ≡ true) ↔ AllByRecursion IsDeckSound ds
  decks_decided ds = all_decided (is_deck_sound idents) IsDeckSound deck_decided ds

-- what the tests of the cards and of the rest say
record ArePartsSound (l : LibraryView) : Type 0 where
  cards : l.rest.cards ≡ 0
  entries : l.rest.entries ≡ 0
  decks : list_all (is_deck_sound l.idents) l.decks ≡ true
  yanks : list_all (is_card_sound l.idents) l.yanks ≡ true
  order : are_yanks_from 0 l.yanks ≡ true

parts_decided : (l : LibraryView) → (are_parts_sound l ≡ true) ↔ ArePartsSound l
parts_decided l =
    let order = are_yanks_from 0 l.yanks in
    let yanks = list_all (is_card_sound l.idents) l.yanks in
    let decks = list_all (is_deck_sound l.idents) l.decks in (
      (λ t.
          let one = and_parts (l.rest.cards == 0) ((l.rest.entries == 0) && (decks && (yanks && order))) t in
          let two = and_parts (l.rest.entries == 0) (decks && (yanks && order)) one.1 in
          let three = and_parts decks (yanks && order) two.1 in
          let four = and_parts yanks order three.1 in
          record {
            cards = eqb-true l.rest.cards 0 one.0;
            entries = eqb-true l.rest.entries 0 two.0;
            decks = three.0;
            yanks = four.0;
            order = four.1;
          }),
      (λ is.
          and_from (l.rest.cards == 0) ((l.rest.entries == 0) && (decks && (yanks && order))) (eq-eqb l.rest.cards 0 is.cards)
          (and_from (l.rest.entries == 0) (decks && (yanks && order)) (eq-eqb l.rest.entries 0 is.entries)
          (and_from decks (yanks && order) is.decks (and_from yanks order is.yanks is.order)))),
    )

-- what the tests decide, each on its own
pub record Parts (l : LibraryView) : Type 0 where
  pub directory : IsDirectorySound l
  pub decks : held_decks l.idents ≡ map (λ d. d.ident) l.decks
  pub keys : AreApart (map key_of (all_cards l))
  pub targets : AllByRecursion (λ c. AreApart c.targets) l.yanks
  pub parts : are_parts_sound l ≡ true

pub sound_from : (l : LibraryView) → Parts l → IsSound l × IsWhole l
sound_from l p =
    let ages = p.directory.ages in
    let are = (parts_decided l).0 p.parts in
    let held = decks_held l.idents l.decks ages p.decks in
    let decks = (decks_decided l.idents ages l.decks).0 are.decks in
    let yanks = (cards_decided l.idents ages l.yanks).0 are.yanks in
    let order = (yanks_decided 0 l.yanks).0 are.order in
    let whole : IsWhole l = λ i. record { cards = are.cards i; entries = are.entries i } in
    let all_sound = (all_flat (IsCardSound l.idents ages) (all_decks l)).1 (yanks, weaker l.decks (λ d s. s.cards) decks) in (
      record {
        ages = ages;
        names = p.directory.names;
        reserved = p.directory.reserved;
        decks = held.decks;
        deck_ages = (held.positive, held.rising);
        firsts = weaker l.decks (λ d s. s.first) decks;
        standing = λ _ d h. or_right (0 == d) (list_any (is_deck d) l.decks) (held.standing d h);
        cards = weaker (all_cards l) (λ c s. s.held) all_sound;
        histories = weaker (all_cards l) (λ c s. s.history) all_sound;
        keys = p.keys;
        yanks = order.1;
        targets = p.targets;
        plain = weaker l.decks (λ d s. s.plain) decks;
      },
      whole,
    )

pub parts_from : (l : LibraryView) → IsSound l → IsWhole l → Parts l
parts_from l sound whole =
    let ages = sound.ages in
    let all_sound : AllByRecursion (IsCardSound l.idents ages) (all_cards l) =
    both (all_cards l) (λ c h b. record { held = h; history = b }) sound.cards sound.histories in
    let flat = (all_flat (IsCardSound l.idents ages) (all_decks l)).0 all_sound in
    let decks : AllByRecursion (IsDeckSound l.idents ages) l.decks =
    three l.decks (λ d first plain cards. record { first = first; plain = plain; cards = cards }) sound.firsts sound.plain flat.1 in
    record {
      directory = record { ages = ages; names = sound.names; reserved = sound.reserved };
      decks = held_decks_are l.idents l.decks ages (record {
        decks = sound.decks;
        positive = sound.deck_ages.0;
        rising = sound.deck_ages.1;
        standing = λ z h. behind z (held_positive l.idents z ages h) (sound.standing whole z h);
      });
      keys = sound.keys;
      targets = sound.targets;
      parts = (parts_decided l).1 (record {
        cards = ap (λ r. r.cards) whole;
        entries = ap (λ r. r.entries) whole;
        decks = (decks_decided l.idents ages l.decks).1 decks;
        yanks = (cards_decided l.idents ages l.yanks).1 flat.0;
        order = (yanks_decided 0 l.yanks).1 (from_zero l.yanks, sound.yanks);
      });
    }
  where
    behind : (z : ℕ) → 0 < z → ((0 == z) || list_any (is_deck z) l.decks) ≡ true → list_any (is_deck z) l.decks ≡ true
    behind z some e = go (or_cases (0 == z) (list_any (is_deck z) l.decks) e)
      where
        go : ((0 == z) ≡ true) ⊎ (list_any (is_deck z) l.decks ≡ true) → list_any (is_deck z) l.decks ≡ true
        go (inl same) = let f = eqb-true 0 z same in absurd (omega arith)
        go (inr later) = later

    zeros : (es : List Entry) → AllByRecursion (λ e. 0 ≤ e.ident) es
    zeros [] = tt
    zeros (e ∷ es) = (omega arith, zeros es)

    from_zero : (cs : List CardView) → AllByRecursion (HasEntriesFrom 0) cs
    from_zero [] = tt
    from_zero (c ∷ cs) = (zeros c.history, from_zero cs)

-- five tests in a row
pub five : (a b c d e : Bool) → (a && (b && (c && (d && e)))) ≡ true
    → (a ≡ true) × ((b ≡ true) × ((c ≡ true) × ((d ≡ true) × (e ≡ true))))
five a b c d e t =
    let one = and_parts a (b && (c && (d && e))) t in
    let two = and_parts b (c && (d && e)) one.1 in
    let three = and_parts c (d && e) two.1 in
    let four = and_parts d e three.1 in
    (one.0, (two.0, (three.0, (four.0, four.1))))

pub five_from : (a b c d e : Bool) → a ≡ true → b ≡ true → c ≡ true → d ≡ true → e ≡ true → (a && (b && (c && (d && e)))) ≡ true
five_from a b c d e p q r s t =
    and_from a (b && (c && (d && e))) p (and_from b (c && (d && e)) q (and_from c (d && e) r (and_from d e s t)))

-- what five tests decide of a library
pub whole_decided : (l : LibraryView) (a b c d e : Bool) → (IsTrue a ↔ IsDirectorySound l) → (IsTrue b ↔ (held_decks l.idents ≡ map (λ d. d.ident) l.decks))
    → (IsTrue c ↔ AreApart (map key_of (all_cards l))) → (IsTrue d ↔ AllByRecursion (λ c. AreApart c.targets) l.yanks) → e ≡ are_parts_sound l
    → IsTrue (a && (b && (c && (d && e)))) ↔ (IsSound l × IsWhole l)
whole_decided l a b c d e directory decks keys targets parts = (
  (λ t.
      let all = five a b c d e t in
      sound_from l (record {
        directory = directory.0 all.0;
        decks = decks.0 all.1.0;
        keys = keys.0 all.1.1.0;
        targets = targets.0 all.1.1.1.0;
        parts = sym parts ∙ all.1.1.1.1;
      })),
  (λ is.
      let p = parts_from l is.0 is.1 in
      five_from a b c d e (directory.1 p.directory) (decks.1 p.decks) (keys.1 p.keys) (targets.1 p.targets) (parts ∙ p.parts)),
)

-- what three tests decide of a directory
pub directory_decided : (l : LibraryView) (a b c : Bool) → (IsTrue a ↔ AreApart (map (λ i. i.name) (filter (λ i. i.held) l.idents)))
    → b ≡ are_aged_from 1 l.idents → (IsTrue c ↔ (held_named yank_name l.idents ≡ None)) → IsTrue (a && (b && c)) ↔ IsDirectorySound l
directory_decided l a b c names aged free =
    let ages = aged_decided 1 l.idents in (
      (λ t.
          let one = and_parts a (b && c) t in
          let two = and_parts b c one.1 in
          record { ages = ages.0 (sym aged ∙ two.0); names = names.0 one.0; reserved = free.0 two.1 }),
      (λ is. and_from a (b && c) (names.1 is.names) (and_from b c (aged ∙ ages.1 is.ages) (free.1 is.reserved))),
    )
