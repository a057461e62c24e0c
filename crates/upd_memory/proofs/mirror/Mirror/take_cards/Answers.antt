use Rattle.upd_memory.proofs.Common.{◌≡◌, ℕ, CardRef, list_any, is_home}
use Rattle.upd_core.specs.Edits as serials
use Rattle.upd_row_store.specs.Ranges.{is_among}
use Rattle.upd_memory.specs.RowsByKey.{is_in}
use Rattle.upd_memory.proofs.CardSetLemmas.{cards_left}
use Rattle.upd_memory.proofs.MirrorLemmas.{ok_value}
use Rattle.upd_memory.proofs.mirror.Mirror.take_cards.Goals as goal

pub returns : goal.returns
returns c = λ rows are.
    let was = c.args.self.now in
    let cards = c.args.cards.now in
    let gone = ok_value (λ set. (card : CardRef) → is_in set card ≡ is_among cards card) _ c.ok.result _ c.ok.ensures.value c.in_ok-gone.was
    c.set_of.ensures in
    let lists = ok_value (λ decks. (d : ℕ) → serials.is_among decks.items d ≡ list_any (λ x. is_home was.homes x d) cards) _ c.ok-2.result _
    c.ok-2.ensures.value c.in_ok-decks.was c.homes_listed.ensures in
    record {
      idents = are.idents;
      cards =
          cards_left was.decks c.drop_set_of_all.new.decks was.homes rows.cards cards (is_in c.in_ok-gone.gone) c.in_ok-decks.decks.items
          gone lists (rw c.deref.ensures.value at c.drop_set_of_all.ensures) are.homes are.cards;
      homes = c.drop_homes.ensures rows.cards are.homes;
      entries = are.entries;
      entry_count = are.entry_count;
      targets = are.targets;
      states = c.drop_statuses.ensures rows.states are.states;
      counts = are.counts;
    }
