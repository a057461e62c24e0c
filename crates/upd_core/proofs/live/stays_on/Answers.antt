use Rattle.upd_core.proofs.Common.{false, arith, common_steps, is_taken}
use Rattle.upd_core.proofs.StatusLaws.{stays_on-take}
use Rattle.upd_core.proofs.live.stays_on.Goals as goal

pub returns-then-not-is_taken : goal.returns-then-not-is_taken
returns-then-not-is_taken c =
    let last = stays_on-take (is_taken c.args.targets.now c.args.deck) c.args.history.now c.loop-i.i (record { ident = 0; active = false }) (omega arith)
    (omega arith) in
    grind (arith, common_steps)
