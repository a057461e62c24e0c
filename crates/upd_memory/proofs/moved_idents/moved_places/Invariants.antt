use Rattle.upd_memory.proofs.Common.{◌≡◌, ℕ, map, take, list_any, change_view, moves_at, is_reached}
use Rattle.upd_memory.proofs.moved_idents.moved_places.Given as goal

abbrev pub invariant-loop-change : goal.invariant-loop-change
invariant-loop-change l = (d p : ℕ) → is_reached l.places d p ≡ list_any (λ c. moves_at c d p) (map change_view (take l.change-index l.changes))
