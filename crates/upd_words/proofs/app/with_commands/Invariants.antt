use Rattle.std.proofs.Common.{◌≡◌, fold, take}
use Rattle.clap.specs.Words.{app_of}
use Rattle.upd_words.specs.Words.{with_row}
use Rattle.upd_words.proofs.app.with_commands.Given as goal

abbrev pub invariant-loop-row : goal.invariant-loop-row
invariant-loop-row l = app_of l.app ≡ fold with_row (app_of l.initial.app) (take l.row-index l.commands)
