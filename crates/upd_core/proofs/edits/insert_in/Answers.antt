use Rattle.upd_core.proofs.Common.{◌∙◌, ◌-◌, length, insert, is_some, ap, sym, DeckView, is_deck}
use Rattle.upd_core.proofs.FirstLemmas.{at_first_found, at_first_none, find_found, find_missed}
use Rattle.upd_core.proofs.edits.insert_in.Goals as goal

pub returns-in_ok-insert_behind-clause-ok : goal.returns-in_ok-insert_behind-clause-ok
returns-in_ok-insert_behind-clause-ok c =
    let change : DeckView → DeckView = λ d. record d { cards = insert d.cards (length d.cards - c.args.behind) c.args.card } in
    at_first_found (is_deck c.args.age) change c.args.decks.now.items c.in-Some.i _ _ _ (rw c.deref.ensures.value at c.in-Some.ensures.first)
    (c.deck.view_is ∙ c.index_mut-deck.ensures.value) (rw c.in_ok-insert_behind.ensures.ok)

pub returns-in_default-clause-ok : goal.returns-in_default-clause-ok
returns-in_default-clause-ok c = at_first_none (is_deck c.args.age) _ c.args.decks.now.items (rw c.deref.ensures.value at c.in_default.ensures.first)

pub returns-in_ok-insert_behind-clause-found : goal.returns-in_ok-insert_behind-clause-found
returns-in_ok-insert_behind-clause-found c =
    sym (ap is_some (find_found (is_deck c.args.age) c.args.decks.now.items c.in-Some.i _ _ (rw c.deref.ensures.value at c.in-Some.ensures.first)
    (c.deck.view_is ∙ c.index_mut-deck.ensures.value)))

pub returns-in_default-clause-found : goal.returns-in_default-clause-found
returns-in_default-clause-found c =
    sym (ap is_some (find_missed (is_deck c.args.age) c.args.decks.now.items (rw c.deref.ensures.value at c.in_default.ensures.first)))
