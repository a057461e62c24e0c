use Rattle.std.proofs.Math.Logic.{∥∥₁_map}
use Rattle.upd_keep.proofs.Common.{subst}
use Rattle.sqlite.specs.Files.{file_state}
use Rattle.sqlite.specs.State.{HasCleanDisk}
use Rattle.upd_keep.proofs.crash_law.crash_after_arrival.Goals as goal

pub returns : goal.returns
returns g c = λ clean journal in_hand guards left may found is.
    let honest = subst (λ s. HasCleanDisk (file_state s.conn)) c.close.ensures (c.stopped.ensures.clean clean) in
    ∥∥₁_map (c.stopped.ensures.opens clean left may found is) (λ allowed. c.arrive-answer.ensures.arrives.leaves honest journal in_hand guards found
    (subst (λ s. (file_state s.conn).may_leave found) c.close.ensures allowed))
