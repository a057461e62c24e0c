use Rattle.std.proofs.Common.{ap, ap₂, sym, ◌∙◌}
use Rattle.std.proofs.lemmas.List.Sums.{fold_more}
use Rattle.clap.specs.Words.{App, with_subcommand}
use Rattle.upd_words.specs.Words.{with_row}
use Rattle.upd_words.proofs.app.with_commands.Goals as goal

pub loop-row-preserved : goal.loop-row-preserved
loop-row-preserved c =
    c.in_ok-app.ensures.shape c.in_ok-command.ensures.local
    ∙ ap₂ with_subcommand c.loop-row.invariant (ap (λ (a : App). a.top) c.in_ok-command.ensures.app)
    ∙ sym (fold_more with_row _ c.args.commands.now c.loop-row.row-index _ c.loop-row-test.true)
