use Rattle.upd_store.proofs.Common.{IsTrue, rules, ◌∙◌, ages_of_rows}
use Rattle.upd_row_store.proofs.HolderLemmas.{any_same}
use Rattle.upd_store.proofs.row_store.SqlStoreRowStore.decks_of.Goals as goal

pub returns-in-Ok-ages_of_decks-clause-found : goal.returns-in-Ok-ages_of_decks-clause-found
returns-in-Ok-ages_of_decks-clause-found g c clean l sound whole rows shown shows =
    let ours : IsTrue c.is_ours.result = search rules in
    let open_before = (c.in-Ok.ensures.opens clean).0 in
    let found = c.in-Ok.ensures.found clean rows (record { schema_is = c.is_ours.ensures ours open_before; rows_are = shown }) in
    let own = ages_of_rows c.args.cards.now c.deref.result.now _ c.in-Ok-ages_of_decks.ages.items c.in-Ok-ages_of_decks.ensures c.deref.ensures.value in
    c.decks_by_age.ensures c.args.cards.now rows l sound shows (λ d. own d ∙ any_same _ found.cards)
