use Rattle.upd_correct.proofs.Common.{◌≡◌, ◌++◌, drop, map, filter_map, listed_card}
use Rattle.upd_correct.proofs.listed_card.listed_cards.Given as goal

abbrev pub invariant-loop-line : goal.invariant-loop-line
invariant-loop-line l =
    l.cards.items ++ filter_map listed_card (map (λ t. t.now) (drop l.line-index l.lines)) ≡ filter_map listed_card (map (λ t. t.now) l.lines)
