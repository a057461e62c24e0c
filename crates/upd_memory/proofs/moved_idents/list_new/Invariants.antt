use Rattle.upd_memory.proofs.Common.{◌≡◌, map, take, ◌||◌, list_any, CardRef, change_view, is_listed, adds_from}
use Rattle.upd_memory.proofs.moved_idents.list_new.Given as goal

abbrev pub invariant-loop-change : goal.invariant-loop-change
invariant-loop-change l = (c : CardRef)
    → is_listed l.movable c ≡ (is_listed l.initial.movable c || list_any (λ ch. adds_from ch c) (map change_view (take l.change-index l.changes)))
