use Rattle.upd_memory.proofs.Common.{◌∙◌, ◌||◌, ap, sym, list_any, take, is_home}
use Rattle.std.proofs.lemmas.List.Folds.{list_any_more}
use Rattle.upd_memory.proofs.card_sets.homes_listed.Goals as goal

pub loop-card-preserved : goal.loop-card-preserved
loop-card-preserved c = λ d.
    let cards = c.args.cards.now in
    let i = c.loop-card.card-index in
    let card = c.card-item.result in
    let homes = c.args.homes.now in
    c.in_ok-list_home.ensures d ∙ ap (λ b. b || is_home homes card d) (c.loop-card.invariant d)
    ∙ sym (list_any_more (λ x. is_home homes x d) cards i card c.loop-card-test.true
    ∙ ap (λ x. list_any (λ y. is_home homes y d) (take i cards) || is_home homes x d) (sym c.card-item.is))
