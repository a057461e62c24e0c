use Rattle.upd_core.proofs.Common.{ℕ, ◌∙◌, ap, sym, option_map_or, DeckView, is_deck, entered_count, entered_range}
use Rattle.upd_core.proofs.FirstLemmas.{at_first_found, at_first_none, find_found, find_missed}
use Rattle.upd_core.proofs.edits.enter_in.Goals as goal

pub returns-in_ok-count-clause-ok : goal.returns-in_ok-count-clause-ok
returns-in_ok-count-clause-ok c =
    let change : DeckView → DeckView = λ d. record d { cards = entered_range c.args.from c.args.to c.args.entry d.cards } in
    at_first_found (is_deck c.args.age) change c.args.decks.now.items c.in-Some.i _ _ _ (rw c.deref.ensures.value at c.in-Some.ensures.first)
    (c.deck.view_is ∙ c.index_mut-deck.ensures.value) (rw c.in_ok-count.ensures.ok)

pub returns-in_ok-count-clause-count : goal.returns-in_ok-count-clause-count
returns-in_ok-count-clause-count c =
    let gain : DeckView → ℕ = λ d. entered_count c.args.from c.args.to d.cards in
    let found = find_found (is_deck c.args.age) c.args.decks.now.items c.in-Some.i _ _ (rw c.deref.ensures.value at c.in-Some.ensures.first)
    (c.deck.view_is ∙ c.index_mut-deck.ensures.value) in
    c.in_ok-count.ensures.count ∙ sym (ap (λ o. option_map_or gain o 0) found)

pub returns-in_default-clause-ok : goal.returns-in_default-clause-ok
returns-in_default-clause-ok c = at_first_none (is_deck c.args.age) _ c.args.decks.now.items (rw c.deref.ensures.value at c.in_default.ensures.first)

pub returns-in_default-clause-count : goal.returns-in_default-clause-count
returns-in_default-clause-count c =
    let gain : DeckView → ℕ = λ d. entered_count c.args.from c.args.to d.cards in
    let missed = find_missed (is_deck c.args.age) c.args.decks.now.items (rw c.deref.ensures.value at c.in_default.ensures.first) in
    sym (ap (λ o. option_map_or gain o 0) missed)
