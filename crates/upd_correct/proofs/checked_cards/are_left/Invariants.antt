use Rattle.upd_correct.proofs.Common.{drop, AreLeft}
use Rattle.upd_correct.proofs.checked_cards.are_left.Given as goal

abbrev pub invariant-loop-card : goal.invariant-loop-card
invariant-loop-card l =
    AreLeft l.taken.targets l.live.targets l.deck l.set l.last l.rest (drop l.card-index l.news)
    → AreLeft l.taken.targets l.live.targets l.deck l.set l.last l.olds l.news
