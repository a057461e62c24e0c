use Rattle.upd_memory.proofs.Common.{◌==◌, ◌∙◌, ◌||◌, ap, sym, take, filter, if◌then◌else◌, not, get_or, cards_at}
use Rattle.std.proofs.lemmas.List.Folds.{list_any_more}
use Rattle.upd_core.specs.Edits.{is_among}
use Rattle.upd_memory.specs.RowsByKey.{is_in}
use Rattle.upd_memory.proofs.CardSetLemmas.{once_or_twice}
use Rattle.upd_memory.proofs.card_sets.drop_set_of_all.Goals as goal

pub loop-deck-preserved : goal.loop-deck-preserved
loop-deck-preserved c = λ d.
    let listed = c.args.listed.now in
    let i = c.loop-deck.deck-index in
    let deck = get_or listed i 0 in
    let set = c.args.set.now in
    let rows = cards_at c.args.decks.now d in
    once_or_twice (λ r. is_in set r.card) (is_among (take i listed) d) (deck == d) rows (cards_at c.loop-deck.decks d) (cards_at c.drop_set_of.new.decks d)
    (c.loop-deck.invariant d) (c.drop_set_of.ensures d)
    ∙ ap (λ b. if b then filter (λ r. not (is_in set r.card)) rows else rows)
    (sym (list_any_more (λ a. a == d) listed i 0 c.loop-deck-test.true))
