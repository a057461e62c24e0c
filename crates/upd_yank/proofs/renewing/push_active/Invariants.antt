use Rattle.upd_yank.proofs.Common.{◌≡◌, ◌++◌, map, take, filter, without_past, counted_card, was_active}
use Rattle.upd_yank.proofs.renewing.push_active.Given as goal

abbrev pub invariant-loop-card : goal.invariant-loop-card
invariant-loop-card l = record {
  ident : l.deck.ident ≡ l.initial.deck.ident;
  cards : l.deck.cards ≡ l.initial.deck.cards
      ++ map without_past (filter (λ c. was_active l.statuses (counted_card l.idents l.initial.deck.ident c)) (take l.card-index l.cards));
}
