use Rattle.std.proofs.Common.{◌≡◌, List, ap, fold, ◌∙◌}
use Rattle.std.proofs.lemmas.Result.{IfOk-weaker}
use Rattle.clap.specs.Words.{App}
use Rattle.upd_words.specs.Words.{with_row}
use Rattle.upd_words.specs.declared.app.CommandRow.{CommandRow}
use Rattle.upd_words.proofs.app.program.Goals as goal

-- a table more, at a program of which it is known what it is
adds : {old new was is : App} (rows : List CommandRow) → new ≡ fold with_row old rows → old ≡ was → fold with_row was rows ≡ is → new ≡ is
adds rows new old is = new ∙ ap (λ (a : App). fold with_row a rows) old ∙ is

pub returns : goal.returns
returns c =
    let first = adds c.changing_commands.result.now c.in_ok-app.ensures c.bare_program.ensures c.changing_commands.ensures in
    let second = adds c.querying_commands.result.now c.in_ok-app-2.ensures first c.querying_commands.ensures in
    let third = adds c.correcting_commands.result.now c.in_ok-app-3.ensures second c.correcting_commands.ensures in
    IfOk-weaker c.with_commands-4.result _ _ (λ app is. adds c.keeping_commands.result.now is third c.keeping_commands.ensures) c.with_commands-4.ensures
