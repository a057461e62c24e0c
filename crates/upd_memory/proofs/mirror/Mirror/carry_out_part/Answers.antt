use Rattle.upd_memory.proofs.Common.{subst, Agrees}
use Rattle.upd_memory.proofs.MirrorLemmas.{on_success}
use Rattle.upd_memory.proofs.mirror.Mirror.carry_out_part.Goals as goal

pub returns-in-Some : goal.returns-in-Some
returns-in-Some c =
    on_success c.take_gone.result c.take_gone.ensures (λ taken rows are. subst (Agrees c.take_gone.new.self) (c.in-Some.ensures rows) (taken rows are))
