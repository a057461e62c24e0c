use Rattle.upd_memory.proofs.Common.{sym, subst, AllByRecursion, Agrees}
use Rattle.upd_row_store.specs.Shifts.{IsPiece}
use Rattle.upd_row_store.proofs.MoveLemmas.{all_moved}
use Rattle.upd_memory.proofs.MirrorLemmas.{cards_placed, homes_placed, on_success}
use Rattle.upd_memory.proofs.mirror.Mirror.move_deck.Goals as goal

pub returns : goal.returns
returns c =
    on_success c.place_cards_of.result c.place_cards_of.ensures (λ placed rows are.
    let deck = c.args.deck in
    let moves = c.args.moves.now in
    let was = c.args.self.now in
    let pieces = subst (AllByRecursion (IsPiece moves)) (sym c.deref.ensures.value) c.in_ok-pieces.ensures in
    subst (Agrees (record was { decks = c.place_cards_of.new.decks })) (sym (all_moved deck moves rows)) (record {
      idents = are.idents;
      cards = cards_placed deck moves was.decks c.place_cards_of.new.decks rows.cards (placed moves pieces) are.cards;
      homes = homes_placed deck moves was.homes rows.cards are.homes;
      entries = are.entries;
      entry_count = are.entry_count;
      targets = are.targets;
      states = are.states;
      counts = are.counts;
    }))
