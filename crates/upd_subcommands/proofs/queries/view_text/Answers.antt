use Rattle.upd_desk.proofs.ArrivesLemmas.{unstored}
use Rattle.upd_desk.proofs.QueryLemmas.{store_fails}
use Rattle.upd_edit.specs.Source.{source}
use Rattle.upd_subcommands.proofs.QueryAnswers.{source_keeps}
use Rattle.upd_subcommands.proofs.queries.view_text.Goals as goal

pub returns-in-Err-source-clause-kind : goal.returns-in-Err-source-clause-kind
returns-in-Err-source-clause-kind c = λ is.
    let fault = c.in-Err-source.fault in
    let name = c.in-Source.name in
    unstored fault (source_keeps name c.args.library.now fault (store_fails fault (source name c.args.library.now) is c.in-Err-source.ensures)) is
