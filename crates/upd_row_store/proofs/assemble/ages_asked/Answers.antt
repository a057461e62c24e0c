use Rattle.upd_row_store.proofs.Common.{[], ◌∷◌, ◌∙◌, ap, sym, same_trans, Rows, Shows}
use Rattle.upd_row_store.specs.Asked.{ages_asked}
use Rattle.upd_row_store.proofs.HolderLemmas.{ages_of_rows}
use Rattle.upd_row_store.proofs.assemble.ages_asked.Goals as goal

pub returns-in_ok-ages-in-Holding : goal.returns-in_ok-ages-in-Holding
returns-in_ok-ages-in-Holding c = λ tables l sound shows are.
    let cards = c.args.rows.now.cards.items in
    let read : Rows = record tables { cards = cards } in
    let shown : Shows read l =
    record { idents = shows.idents; cards = same_trans are.cards shows.cards; entries = shows.entries; targets = shows.targets } in
    c.decks_by_age.ensures (c.in-Holding.card ∷ []) read l sound shown
    (ages_of_rows (c.in-Holding.card ∷ []) c.deref-in-Holding.result.now cards c.in_ok-ages-in-Holding.ages.items c.in_ok-ages-in-Holding.ensures
    c.deref-in-Holding.ensures.value)
    ∙ ap (λ asked. ages_asked asked l) (sym c.in-Holding.is)
