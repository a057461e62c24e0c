use Rattle.upd_edit.proofs.Common.{◌∙◌, ap, sym}
use Rattle.upd_edit.specs.StayingDecks.{kind_by_runs, kind_of_deck}
use Rattle.upd_edit.proofs.staying_decks.kind_by_runs.Goals as goal

pub returns-in_ok-together-in-DeckStays : goal.returns-in_ok-together-in-DeckStays
returns-in_ok-together-in-DeckStays c =
    c.kind_of_deck.ensures
    ∙ ap (λ t. kind_of_deck t c.in-DeckStays.word c.in-DeckStays.set c.in-DeckStays.deck c.in-DeckStays.known) c.in_ok-together-in-DeckStays.ensures
    ∙ sym (ap (kind_by_runs c.args.runs.now c.args.idents.now) c.in-DeckStays.is)
