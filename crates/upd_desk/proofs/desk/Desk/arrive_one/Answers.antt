-- A fault of an arrival is passed on as it is.
use Rattle.upd_desk.proofs.Common.{refl}
use Rattle.upd_desk.proofs.RefusedLemmas.{error_is}
use Rattle.upd_desk.proofs.desk.Desk.arrive_one.Goals as goal

pub returns-in_err-answered : goal.returns-in_err-answered
returns-in_err-answered g c =
    rw (error_is _ _ c.from_residual.ensures.1) (record {
      arrives = c.in_err-answered.ensures.arrives;
      work = c.in_err-answered.ensures.work;
      reads = c.in_err-answered.ensures.reads;
      idle = refl;
      unadmitted = c.in_err-answered.ensures.unadmitted;
      faults = c.in_err-answered.ensures.faults;
      failed = c.in_err-answered.ensures.failed;
    })
