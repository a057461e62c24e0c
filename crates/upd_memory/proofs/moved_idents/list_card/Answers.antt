use Rattle.upd_memory.proofs.Common.{arith, common_steps}
use Rattle.upd_memory.proofs.MovedIdentLemmas.{card_put}
use Rattle.upd_memory.proofs.moved_idents.list_card.Goals.{in_default-via-in-None-1, in_default-via-in-Some+else-least-card}
use Rattle.upd_memory.proofs.moved_idents.list_card.Goals as goal

pub returns-2 : goal.returns-2
returns-2 c =
    card_put c.args.movable.now c.insert.new.self c.args.card.now
    (λ m there. elim c.in_default.branch [
      | in_default-via-in-None-1 w ↦ grind (arith, common_steps)
      | in_default-via-in-Some+else-least-card w ↦ grind (arith, common_steps)
    ]) c.in_ok-insert.ensures.updates.0
