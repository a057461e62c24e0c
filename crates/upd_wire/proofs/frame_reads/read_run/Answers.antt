use Rattle.upd_wire.proofs.Common.{◌++◌, Consumes-trans}
use Rattle.upd_wire.proofs.ReadLemmas.{end_stops}
use Rattle.upd_wire.proofs.frame_reads.read_run.Goals as goal

pub returns-in-Err-clause-err : goal.returns-in-Err-clause-err
returns-in-Err-clause-err g c =
    let (taken, consumed, stops) = c.in-Err.ensures.err in
    let bytes = c.read_bytes.new.run.items in (
      bytes ++ taken,
      Consumes-trans _ _ _ _ _ c.in_ok-read_bytes.ensures.ok consumed,
      end_stops c.in-Err.kind c.args.size bytes taken _ c.in_ok-read_bytes.ensures.size stops,
    )
