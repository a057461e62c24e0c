use Rattle.upd_subcommands.proofs.Common.{ap, ◌∙◌, ◌++◌}
use Rattle.upd_subcommands.specs.Listening.{listening_line}
use Rattle.upd_wire.proofs.LineLemmas.{text_written}
use Rattle.upd_subcommands.proofs.listening.line_of.Goals as goal

pub returns-in-Ok : goal.returns-in-Ok
returns-in-Ok c =
    let line = listening_line c.args.address in
    text_written c.new-line.result line c.writeln.new.self c.new-line.ensures.intact c.in-Ok.ensures.writes
    ∙ ap (λ before. before ++ line) c.new-line.ensures.text
