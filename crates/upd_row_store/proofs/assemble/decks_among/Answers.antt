use Rattle.upd_row_store.proofs.Common.{ap, ◌∙◌, subst, decks_in}
use Rattle.std.proofs.lemmas.Result.{IfOk-weaker}
use Rattle.upd_row_store.proofs.NamedLemmas.{AreNamesOf, decks_of_named}
use Rattle.upd_row_store.proofs.assemble.decks_among.Goals as goal

pub returns : goal.returns
returns c =
    let cards = c.args.cards.items in
    let names = subst (λ xs. AreNamesOf xs c.in_ok-names.names) c.deref.ensures.value c.in_ok-names.ensures in
    IfOk-weaker c.decks_in-2.result _ _
    (λ decks is. is ∙ ap (λ xs. decks_in xs c.args.entries.now c.args.targets.now cards) c.deref-2.ensures.value
    ∙ decks_of_named c.in_ok-names.names c.args.idents.now c.in_ok-named.named.items c.args.entries.now c.args.targets.now cards names c.in_ok-named.ensures)
    c.decks_in-2.ensures
