use Rattle.upd_subcommands.proofs.desk_command.serve_at.Goals as goal

pub returns-in-Ok-clause-leads : goal.returns-in-Ok-clause-leads
returns-in-Ok-clause-leads g c =
    let (made, few, all, leads, (served, lost, is, logs)) = c.in-Ok.ensures.leads in
    (made, few, all, leads, (served, lost, logs))
