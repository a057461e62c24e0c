use Rattle.upd_store.proofs.Common.{◌∙◌, ages_of_rows}
use Rattle.upd_store.proofs.tree_store.TreeStoreRowStore.decks_of.Goals as goal

pub returns-in-Ok-ages_of_decks-clause-found : goal.returns-in-Ok-ages_of_decks-clause-found
returns-in-Ok-ages_of_decks-clause-found g c clean l sound whole rows shown shows =
    c.decks_by_age.ensures c.args.cards.now rows l sound shows
    (ages_of_rows c.args.cards.now c.as_slice.result.now rows.cards c.in-Ok-ages_of_decks.ages.items c.in-Ok-ages_of_decks.ensures
    (c.as_slice.ensures.value ∙ (c.in-Ok.ensures.found clean rows shown).cards))
