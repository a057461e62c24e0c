use Rattle.upd_correct.proofs.Common.{drop, AllByRecursion, LeadsCards}
use Rattle.upd_correct.proofs.checked_library.leave_cards.Given as goal

abbrev pub invariant-loop-deck : goal.invariant-loop-deck
invariant-loop-deck l =
    AllByRecursion (LeadsCards l.taken.targets l.last l.before l.after) (drop l.deck-index l.decks)
    → AllByRecursion (LeadsCards l.taken.targets l.last l.before l.after) l.decks
