use Rattle.std.proofs.Common.{ap, inl, inr, refl}
use Rattle.upd_text.specs.declared.fault.Fault.{Fault}
use Rattle.upd_row_store.specs.Keeping.IsLost.{OfMemory}
use Rattle.upd_cli.proofs.LeavingLemmas.{unread_fails, untouched_frames}
use Rattle.upd_cli.proofs.desk_work.run_with_text.Goals as goal

pub returns-in-Err : goal.returns-in-Err
returns-in-Err g c =
    let fault = c.in-Err.fault in
    let is = c.in-Err.ensures.err in
    record {
      leaves = inr (inr (inr (inl (OfMemory fault (ap (λ (f : Fault). f.kind) is) (ap (λ (f : Fault). f.at) is)), refl, refl, refl)));
      frames = untouched_frames _ _ _ c.args.command.now fault (unread_fails fault (inl is)) refl refl refl;
    }
