-- Tests of names, texts and numbers decide whether these are those of runs.
use Rattle.upd_examine.proofs.Common.{◌≡◌, ℕ, ◌<◌, ◌≤◌, true, ◌&&◌, List, length, ◌↔◌, IsTrue, nat_le, nat_lt, and_parts, and_from, leb-true, le-leb}
use Rattle.upd_examine.proofs.Common.{ltb-true, lt-ltb, list_all, AllByRecursion, Bytes, CardView, DeckView, LibraryView, all_decks, has_line_texts}
use Rattle.upd_text.specs.Names.{is_name}
use Rattle.upd_text.specs.declared.limits.TheConstants.{MAX_LINE_BYTES, MAX_RUN_LINES}
use Rattle.upd_deck.specs.Reading.{is_allowed}
use Rattle.upd_laws.specs.ReadRuns.{HasLineTexts, IsLineText, IsOfRun}
use Rattle.upd_examine.specs.TextTests.{is_card_of_run, is_line_text, is_number_of_run}
use Rattle.upd_examine.proofs.TestLemmas.{all_decided, all_flat}

text_decided : (text : Bytes) → (is_line_text text ≡ true) ↔ IsLineText text
text_decided text =
    let short = nat_le (length text) MAX_LINE_BYTES in
    let allowed = list_all is_allowed text in (
      (λ t. let parts = and_parts short allowed t in (leb-true (length text) MAX_LINE_BYTES parts.0, parts.1)),
      (λ is. and_from short allowed (le-leb (length text) MAX_LINE_BYTES is.0) is.1),
    )

number_decided : (n : ℕ) → (is_number_of_run n ≡ true) ↔ ((0 < n) × (n ≤ MAX_RUN_LINES))
number_decided n = (
  (λ t. let parts = and_parts (nat_lt 0 n) (nat_le n MAX_RUN_LINES) t in (ltb-true 0 n parts.0, leb-true n MAX_RUN_LINES parts.1)),
  (λ is. and_from (nat_lt 0 n) (nat_le n MAX_RUN_LINES) (lt-ltb 0 n is.0) (le-leb n MAX_RUN_LINES is.1)),
)

card_decided : (c : CardView) → (is_card_of_run c ≡ true) ↔ IsOfRun c
card_decided c =
    let text = text_decided c.text in
    let number = number_decided c.number in (
      (λ t.
          let parts = and_parts (is_line_text c.text) (is_number_of_run c.number) t in
          let within = number.0 parts.1 in
          (text.0 parts.0, within.0, within.1)),
      (λ is. and_from (is_line_text c.text) (is_number_of_run c.number) (text.1 is.0) (number.1 (is.1, is.2))),
    )

cards_decided : (cs : List CardView) → (list_all is_card_of_run cs ≡ true) ↔ AllByRecursion IsOfRun cs
cards_decided cs = all_decided is_card_of_run IsOfRun card_decided cs

decks_decided : (ds : List DeckView) → (list_all (λ d. list_all is_card_of_run d.cards) ds ≡ true) ↔ AllByRecursion (λ d. AllByRecursion IsOfRun d.cards) ds
decks_decided ds = all_decided (λ d. list_all is_card_of_run d.cards) (λ d. AllByRecursion IsOfRun d.cards) (λ d. cards_decided d.cards) ds

pub texts_decided : (l : LibraryView) → (has_line_texts l ≡ true) ↔ HasLineTexts l
texts_decided l =
    let names = list_all (λ i. is_name i.name) l.idents in
    let yanks = list_all is_card_of_run l.yanks in
    let decks = list_all (λ d. list_all is_card_of_run d.cards) l.decks in
    let named = all_decided (λ i. is_name i.name) (λ i. IsTrue (is_name i.name)) (λ i. ((λ t. t), (λ t. t))) l.idents in
    let yanked = cards_decided l.yanks in
    let others = decks_decided l.decks in
    let all = all_flat IsOfRun (all_decks l) in (
      (λ t.
          let parts = and_parts names (yanks && decks) t in
          let cards = and_parts yanks decks parts.1 in
          record { names = named.0 parts.0; cards = all.1 (yanked.0 cards.0, others.0 cards.1) }),
      (λ is.
          let cards = all.0 is.cards in
          and_from names (yanks && decks) (named.1 is.names) (and_from yanks decks (yanked.1 cards.0) (others.1 cards.1))),
    )
