use Rattle.upd_diff.proofs.Common.{◌≡◌, [], drop, AreCardDiffs, AreOfDeck}
use Rattle.upd_diff.proofs.LeadLemmas.{await_gone, first_left}
use Rattle.upd_diff.proofs.deck_diffs.add_deck.Goals as goal

pub returns-in_ok-push-in-None-clause-paired : goal.returns-in_ok-push-in-None-clause-paired
returns-in_ok-push-in-None-clause-paired c = λ olds news before h.
    let k = c.in_ok-card_diffs-in-None.card_diffs in
    let d = c.args.deck.now in
    let after = c.args.after.now in
    let card_diffs : AreCardDiffs d.cards [] k.card_diffs =
    rw (← c.deck.view_is, ← c.deref-in-None.ensures.value) c.in_ok-card_diffs-in-None.ensures.card_diffs in
    let deck : k.deck ≡ d.ident = rw (← c.deck.view_is) c.in_ok-card_diffs-in-None.ensures.deck in
    let are : AreOfDeck d.ident d.cards [] k = record { deck = deck; card_diffs = card_diffs; short = c.in_ok-card_diffs-in-None.ensures.short } in
    rw c.in_ok-push-in-None.ensures.items
    (await_gone olds news c.args.found.now.items d k before (drop c.args.next after)
    (λ e es is. c.in-None.ensures e (first_left after c.args.next e es is)) are h)
