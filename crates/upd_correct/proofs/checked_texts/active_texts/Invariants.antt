use Rattle.upd_correct.proofs.Common.{◌≡◌, map, take, filter, is_active}
use Rattle.upd_correct.proofs.checked_texts.active_texts.Given as goal

abbrev pub invariant-loop-card : goal.invariant-loop-card
invariant-loop-card l =
    map (λ t. t.now) l.texts.items ≡ map (λ c. c.text) (filter (is_active l.live.targets l.deck) (take l.card-index l.cards))
