use Rattle.std.proofs.Common.{ℕ, List, inl, inr, sym, subst, ◌∙◌, append-nil}
use Rattle.std.proofs.KnownBytes.{Appends-nil}
use Rattle.upd_compile.specs.Modes.{mode_named}
use Rattle.upd_subcommands.specs.Inputs.{IsOf, IsSpool, ReadsFor, UsesFaults, WritesRefusals, most_read_for}
use Rattle.upd_subcommands.specs.Streams.{TakesFront}
use Rattle.upd_subcommands.specs.Trial.{trial_named}
use Rattle.upd_words.specs.declared.words.Request.{Request}
use Rattle.upd_subcommands.proofs.CommandLemmas.{answered, none_of}
use Rattle.upd_subcommands.specs.Command.{IsReported, ending}
use Rattle.upd_cli.specs.Commands.{IsShown}
use Rattle.upd_cli.proofs.DoneLemmas.{done_as, shown_status}
use Rattle.upd_cli.proofs.LeavingLemmas.{clean_end, silent_end}
use Rattle.upd_cli.proofs.command.carry_out.Goals as goal

pub returns-in-Trial-clause-done : goal.returns-in-Trial-clause-done
returns-in-Trial-clause-done g c =
    let (run, is, ends) = c.carry_out_trial-ended.ensures.ends in
    done_as c.args.request.now _ _ c.in-Trial.is (
      run,
      is,
      answered c.carry_out_trial-ended.result _ (trial_named c.in-Trial.mode.now run) (g.W.Write.contents c.args.output.now)
          (g.W.Write.contents c.carry_out_trial-ended.new.output) _ _ ends c.finish.ensures.reported,
    )

pub returns-in-Trial-clause-waits : goal.returns-in-Trial-clause-waits
returns-in-Trial-clause-waits g c = λ no.
    c.carry_out_trial-ended.ensures.waits (none_of (mode_named c.in-Trial.mode.now) (λ some. no (subst ReadsFor (sym c.in-Trial.is) some)))

pub returns-in-Init-clause-done : goal.returns-in-Init-clause-done
returns-in-Init-clause-done g c =
    done_as c.args.request.now _ _ c.in-Init.is (Appends-nil (g.W.Write.contents c.args.output.now), c.carry_out_init.ensures.made)

pub returns-in-Library-clause-done : goal.returns-in-Library-clause-done
returns-in-Library-clause-done g c =
    done_as c.args.request.now _ _ c.in-Library.is
    (c.run_on_file-ended.result.0, c.run_on_file-ended.new.faults, c.run_on_file-ended.ensures.leaves, c.finish_with.ensures.reported)

pub returns-in-Library-clause-front : goal.returns-in-Library-clause-front
returns-in-Library-clause-front g c = λ other.
    let IsTaken : Request → Type 0 =
    λ request. TakesFront (most_read_for request) (g.R.Read.remaining c.args.input.now) (g.R.Read.remaining c.run_on_file-ended.new.input) in
    subst IsTaken (sym c.in-Library.is) (c.run_on_file-ended.ensures.front (λ is. other (subst (IsOf IsSpool) (sym c.in-Library.is) is)))

pub returns-in-Library-clause-waits : goal.returns-in-Library-clause-waits
returns-in-Library-clause-waits g c = λ no. c.run_on_file-ended.ensures.waits (λ is. no (subst ReadsFor (sym c.in-Library.is) is))

pub returns-in-Library-clause-silent : goal.returns-in-Library-clause-silent
returns-in-Library-clause-silent g c = λ which.
    silent_end _ _ c.run_on_file-ended.result.0 _ _ _ c.finish_with.ensures.reported c.run_on_file-ended.ensures.refused c.run_on_file-ended.ensures.failed
    (elim which [
      | inl two ↦ inl two
      | inr one ↦ inr (one.0, λ is. one.1 (subst (IsOf WritesRefusals) (sym c.in-Library.is) is))
    ])

pub returns-in-Library-clause-clean : goal.returns-in-Library-clause-clean
returns-in-Library-clause-clean g c = λ other zero.
    c.finish_with.ensures.clean zero
    ∙ clean_end _ _ c.run_on_file-ended.result.0 _ _ _ c.finish_with.ensures.reported c.run_on_file-ended.ensures.clean c.run_on_file-ended.ensures.quiet
    (λ is. other (subst (IsOf UsesFaults) (sym c.in-Library.is) is)) zero

pub returns-in-Backup-clause-done : goal.returns-in-Backup-clause-done
returns-in-Backup-clause-done g c =
    done_as c.args.request.now _ _ c.in-Backup.is (
      Appends-nil (g.W.Write.contents c.args.output.now),
      (c.backup_file.result, c.backup_file.ensures.copies, (c.backup_file.ensures.failed, c.finish-in-Backup.ensures.reported)),
    )

pub returns-in-Compact-clause-done : goal.returns-in-Compact-clause-done
returns-in-Compact-clause-done g c =
    done_as c.args.request.now _ _ c.in-Compact.is (
      Appends-nil (g.W.Write.contents c.args.output.now),
      (c.compact_file.result, c.compact_file.ensures.compacts, (c.compact_file.ensures.failed, c.finish-in-Compact.ensures.reported)),
    )

pub returns-in-Examine-clause-done : goal.returns-in-Examine-clause-done
returns-in-Examine-clause-done g c = done_as c.args.request.now _ _ c.in-Examine.is c.report_on.ensures.reported

pub returns-in-Replay-clause-done : goal.returns-in-Replay-clause-done
returns-in-Replay-clause-done g c = done_as c.args.request.now _ _ c.in-Replay.is c.replay_on.ensures.reported

pub returns-in-Migrate-clause-done : goal.returns-in-Migrate-clause-done
returns-in-Migrate-clause-done g c =
    done_as c.args.request.now _ _ c.in-Migrate.is (Appends-nil (g.W.Write.contents c.args.output.now), c.carry_out_migrate.ensures.migrated)

pub returns-in-Explain-clause-done : goal.returns-in-Explain-clause-done
returns-in-Explain-clause-done g c = done_as c.args.request.now _ _ c.in-Explain.is c.carry_out_explaining.ensures.reported

pub returns-in-Shown-clause-done : goal.returns-in-Shown-clause-done
returns-in-Shown-clause-done g c =
    let IsRight : List ℕ → Type 0 =
    λ text. IsShown text (ending c.finish-in-Shown.result (g.W.Write.contents c.args.output.now) (g.W.Write.contents c.write_out.new.output)
    (g.E.Write.contents c.args.faults.now) (g.E.Write.contents c.finish-in-Shown.new.faults)) in
    let shown : IsRight c.as_bytes.result.now =
    (c.write_out.result, c.write_out.ensures.ok, c.write_out.ensures.front, c.write_out.ensures.err, c.finish-in-Shown.ensures.reported) in
    done_as c.args.request.now _ _ c.in-Shown.is (shown_status _ _ shown, subst IsRight c.as_bytes.ensures.value shown)

pub returns-in-Unread-clause-done : goal.returns-in-Unread-clause-done
returns-in-Unread-clause-done g c =
    let IsRight : List ℕ → Type 0 =
    λ text. IsReported 2 text c.report_unread.result (g.E.Write.contents c.args.faults.now) (g.E.Write.contents c.report_unread.new.faults) in
    done_as c.args.request.now _ _ c.in-Unread.is (
      Appends-nil (g.W.Write.contents c.args.output.now),
      c.report_unread.ensures.status,
      subst IsRight (append-nil c.as_bytes-in-Unread.result.now ∙ c.as_bytes-in-Unread.ensures.value) c.report_unread.ensures.reported,
    )

pub returns-in-NoAddress-clause-done : goal.returns-in-NoAddress-clause-done
returns-in-NoAddress-clause-done g c =
    done_as c.args.request.now _ _ c.in-NoAddress.is
    (Appends-nil (g.W.Write.contents c.args.output.now), c.report_no_address.ensures.status, c.report_no_address.ensures.reported)
