use Rattle.upd_correct.proofs.Common.{drop, AllByRecursion, HasTexts}
use Rattle.upd_correct.proofs.checked_library.have_texts.Given as goal

abbrev pub invariant-loop-deck : goal.invariant-loop-deck
invariant-loop-deck l =
    (AllByRecursion (HasTexts l.live.targets l.after) (drop l.deck-index l.decks) → AllByRecursion (HasTexts l.live.targets l.after) l.decks)
    × (AllByRecursion (HasTexts l.live.targets l.after) l.decks → AllByRecursion (HasTexts l.live.targets l.after) (drop l.deck-index l.decks))
