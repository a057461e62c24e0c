use Rattle.upd_partial.proofs.Common.{◌≡◌, take, cards_named}
use Rattle.upd_partial.proofs.needs.cards_by_line.Given as goal

abbrev pub invariant-loop-line : goal.invariant-loop-line
invariant-loop-line l = l.cards.items ≡ cards_named (take l.line-index l.line-items)
