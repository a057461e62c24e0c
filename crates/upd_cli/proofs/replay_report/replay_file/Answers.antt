use Rattle.std.proofs.Common.{inl, inr, sym, subst}
use Rattle.upd_memory.specs.Mirrored.{AgreesIfAny}
use Rattle.upd_cli.proofs.LeavingLemmas.{either, unopened_fails}
use Rattle.upd_cli.proofs.replay_report.replay_file.Goals as goal

pub returns-in-Ok-clause-replays : goal.returns-in-Ok-clause-replays
returns-in-Ok-clause-replays g c =
    let opened = c.in-Ok.ensures in
    let ended = c.replay_opened.ensures in
    either c.in-Ok.library opened.below opened.only opened.served ended.below opened.found opened.ours ended.above
    (λ s found only served did.
    let (old, (inner, mirror), (last, replays)) = did in
    inr (inl (
      old,
      last,
      record {
        holds = rw inner (λ honest is_open. (found honest).0.holds);
        reads = rw inner (λ honest is_open. (found honest).0.reads);
        ours = rw inner (λ honest is_open. (found honest).1);
        shown = λ rows shown. (shown, subst (λ m. AgreesIfAny m rows) (sym mirror) tt);
      },
      replays,
    )))
    (λ s found ours did.
    let (old, (inner, mirror), (last, replays)) = did in
    inl (
      old,
      last,
      record {
        holds = rw inner (λ honest is_open. (found honest is_open).holds);
        reads = rw inner (λ honest is_open. (found honest is_open).reads);
        ours = rw inner ours;
        shown = λ rows shown. (shown, subst (λ m. AgreesIfAny m rows) (sym mirror) tt);
      },
      replays,
    ))

pub returns-in-Err-clause-replays : goal.returns-in-Err-clause-replays
returns-in-Err-clause-replays g c = inr (inr c.in-Err.ensures.unopened)

pub returns-in-Err-clause-failed : goal.returns-in-Err-clause-failed
returns-in-Err-clause-failed g c = unopened_fails c.in-Err.fault c.in-Err.ensures.unopened
