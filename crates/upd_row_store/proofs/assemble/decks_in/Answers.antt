use Rattle.upd_row_store.proofs.Common.{◌++◌, ap, sym, ◌∙◌, CardRow, decks_from}
use Rattle.upd_row_store.proofs.assemble.decks_in.Goals as goal

pub loop-row-preserved : goal.loop-row-preserved
loop-row-preserved c =
    let idents = c.args.idents.now in
    let entries = c.args.entries.now in
    let targets = c.args.targets.now in
    c.in_ok-add_in_order.ensures idents entries targets c.in-Some.row c.next.new.self.rest.items (sym (ap (λ (r : CardRow). r.deck) c.row.view_is))
    (c.in_ok-card.ensures idents c.in_ok-ages.ensures)
    ∙ ap (λ rows. c.loop-row.decks.items ++ decks_from idents entries targets c.loop-row.deck rows) (sym c.in-Some.ensures.steps.0)
    ∙ c.loop-row.invariant
