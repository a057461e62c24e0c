use Rattle.upd_row_store.proofs.Common.{subst}
use Rattle.upd_row_store.proofs.NamedLemmas.{AreNamesOf}
use Rattle.upd_row_store.proofs.PartRowLemmas.{AreCardsOf, cards_kept, entries_kept}
use Rattle.upd_row_store.proofs.parts.rows_of_part.Goals as goal

pub returns : goal.returns
returns c = λ tables are.
    let kept = c.keep_cards.new.cards.items in
    let cards = cards_kept c.args.ages.now c.in_ok-ages.ages c.args.rows.cards.items kept tables.cards c.in_ok-ages.ensures c.keep_cards.ensures are.cards in
    let names = subst (λ xs. AreNamesOf xs c.in_ok-names.names) c.deref.ensures.value c.in_ok-names.ensures in
    let set = subst (λ xs. AreCardsOf xs c.in_ok-cards.cards) c.deref-2.ensures.value c.in_ok-cards.ensures in
    record {
      idents = are.idents;
      cards = cards;
      entries = entries_kept c.in_ok-names.names c.in_ok-cards.cards kept _ c.args.rows.entries.items c.keep_entries.new.entries.items tables.entries names set
          cards c.keep_entries.ensures are.entries;
      targets = are.targets;
    }
