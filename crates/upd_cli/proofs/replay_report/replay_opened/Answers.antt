use Rattle.std.proofs.Common.{inl}
use Rattle.std.proofs.lemmas.Result.{IfErr-weaker}
use Rattle.upd_cli.proofs.LeavingLemmas.{no_err, no_ok, of_err, of_ok, unopened_fails}
use Rattle.upd_cli.proofs.replay_report.replay_opened.Goals as goal

pub returns-in-Ok : goal.returns-in-Ok
returns-in-Ok g c =
    let (last, replays) = c.replay_store.ensures in
    record {
      below = of_ok _ c.args.library c.in-Ok.library c.in-Ok.is (c.new.result, (c.new.ensures.inner, c.new.ensures.mirror), (last, replays));
      above = no_err _ c.args.library c.in-Ok.library c.in-Ok.is;
      failed = IfErr-weaker c.replay_store.result _ _ (λ fault lost. unopened_fails fault (inl lost)) replays.lost;
    }

pub returns-in-Err : goal.returns-in-Err
returns-in-Err g c =
    let (last, replays) = c.replay_store-in-Err.ensures in
    record {
      below = no_ok _ c.args.library c.in-Err.library c.in-Err.is;
      above = of_err _ c.args.library c.in-Err.library c.in-Err.is
          (c.new-in-Err.result, (c.new-in-Err.ensures.inner, c.new-in-Err.ensures.mirror), (last, replays));
      failed = IfErr-weaker c.replay_store-in-Err.result _ _ (λ fault lost. unopened_fails fault (inl lost)) replays.lost;
    }
