use Rattle.upd_subcommands.proofs.Common.{◌++◌, ◌∷◌, [], Ok, Err, refl, ap, ◌∙◌}
use Rattle.upd_subcommands.proofs.ReportingLemmas.{five_parts, mark_told}
use Rattle.upd_subcommands.proofs.arriving.write_mark.Goals as goal

pub returns-in-Ok-clause-reports : goal.returns-in-Ok-clause-reports
returns-in-Ok-clause-reports g c =
    mark_told _ _ (Ok 0) _ c.args.site.now c.args.mark
    (five_parts c.settled_parts.result _ c.settled_parts.ensures.count ∙ ap (λ l. l ++ 10 ∷ []) c.settled_parts.ensures.text) (refl, c.in-Ok.ensures.ok)

pub returns-in-Err-clause-reports : goal.returns-in-Err-clause-reports
returns-in-Err-clause-reports g c =
    mark_told _ _ (Err c.in-Err.fault) _ c.args.site.now c.args.mark
    (five_parts c.settled_parts.result _ c.settled_parts.ensures.count ∙ ap (λ l. l ++ 10 ∷ []) c.settled_parts.ensures.text)
    (c.in-Err.ensures.err, c.in-Err.ensures.front)
