use Rattle.upd_subcommands.proofs.Common.{Ok, sym, subst}
use Rattle.upd_words.specs.declared.words.Command.{Command}
use Rattle.upd_subcommands.specs.DeskCommands.{Does}
use Rattle.upd_subcommands.specs.Streams.{stream}
use Rattle.upd_subcommands.proofs.desk_command.carry_out_at.Goals as goal

pub returns-in-CorrectAt-clause-does : goal.returns-in-CorrectAt-clause-does
returns-in-CorrectAt-clause-does g c =
    let IsDone : Command → Type 0 =
    λ command. Does g.S.Meaning command c.args.text.now (Ok c.correct_text-in-CorrectAt.result) c.args.desk.now.store c.correct_text-in-CorrectAt.new.desk.store
    (stream g.R.Read.remaining c.args.input.now c.args.input.now) (stream g.W.Write.contents c.args.output.now c.correct_text-in-CorrectAt.new.output)
    (stream g.E.Write.contents c.args.faults.now c.correct_text-in-CorrectAt.new.faults) in
    subst IsDone (sym c.in-CorrectAt.is) c.correct_text-in-CorrectAt.ensures.reports
