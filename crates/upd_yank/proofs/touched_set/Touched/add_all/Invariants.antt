use Rattle.upd_yank.proofs.Common.{◌≡◌, ◌||◌, take, list_any, same_ref, CardRef}
use Rattle.upd_yank.proofs.touched_set.Touched.add_all.Given as goal

abbrev pub invariant-loop-card : goal.invariant-loop-card
invariant-loop-card l = (r : CardRef) → list_any (same_ref r) l.self ≡ (list_any (same_ref r) l.initial.self || list_any (λ k. same_ref r k.card)
    (take l.card-index l.cards))
