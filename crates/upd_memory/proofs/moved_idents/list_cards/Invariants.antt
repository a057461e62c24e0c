use Rattle.upd_memory.proofs.Common.{◌≡◌, nat_le, take, ◌&&◌, ◌||◌, list_any, CardRef, is_listed, is_from}
use Rattle.upd_memory.proofs.moved_idents.list_cards.Given as goal

abbrev pub invariant-loop-row : goal.invariant-loop-row
invariant-loop-row l = (c : CardRef)
    → is_listed l.movable c ≡ (is_listed l.initial.movable c || list_any (λ r. nat_le l.from r.pos && is_from r.card c) (take l.row-index l.rows))
