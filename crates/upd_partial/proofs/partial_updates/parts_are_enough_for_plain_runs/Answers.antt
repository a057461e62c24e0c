use Rattle.upd_partial.proofs.Common.{inr, refl}
use Rattle.upd_partial.proofs.IdleLemmas.{idle_in}
use Rattle.upd_partial.proofs.partial_updates.parts_are_enough_for_plain_runs.Goals as goal

pub returns : goal.returns
returns c = λ out lines l reached sound does no_yank is. inr (out, refl, idle_in out lines l reached sound does no_yank is)
