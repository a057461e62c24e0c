use Rattle.upd_memory.proofs.Common.{◌≡◌, nat_le, ◌&&◌, ◌||◌, list_any, CardRef, is_listed, is_from, cards_at}
use Rattle.upd_memory.proofs.moved_idents.list_moved.Given as goal

-- what is listed, with what the rest lists
abbrev pub invariant-loop-deck : goal.invariant-loop-deck
invariant-loop-deck l = (c : CardRef)
    → (is_listed l.movable c || list_any (λ e. list_any (λ r. nat_le e.1 r.pos && is_from r.card c) (cards_at l.decks e.0)) l.deck-iterator)
    ≡ (is_listed l.initial.movable c || list_any (λ e. list_any (λ r. nat_le e.1 r.pos && is_from r.card c) (cards_at l.decks e.0)) l.places.entries)
