use Rattle.upd_core.proofs.Common.{◌∙◌, is_deck}
use Rattle.upd_core.specs.Edits.{deck_without}
use Rattle.upd_core.specs.Gone.{is_gone}
use Rattle.upd_core.proofs.FirstLemmas.{at_first_found, at_first_none}
use Rattle.upd_core.proofs.edits.purge_deck.Goals as goal

pub returns-in-Some : goal.returns-in-Some
returns-in-Some c =
    at_first_found (is_deck c.args.age) (deck_without (is_gone c.args.gone.now)) c.args.decks.now.items c.in-Some.i _ _ _
    (rw c.deref.ensures.value at c.in-Some.ensures.first)
    (c.deck.view_is ∙ c.index_mut-deck.ensures.value) (rw c.purge_cards.ensures)

pub returns-in_default : goal.returns-in_default
returns-in_default c = at_first_none (is_deck c.args.age) _ c.args.decks.now.items (rw c.deref.ensures.value at c.in_default.ensures.first)
