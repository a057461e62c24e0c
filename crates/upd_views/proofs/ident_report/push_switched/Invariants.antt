use Rattle.std.proofs.Common.{◌≡◌, ◌++◌, ◌==◌, drop}
use Rattle.std.specs.List.{filter, flat_map}
use Rattle.upd_views.specs.IdentReport.{switch_line}
use Rattle.upd_views.proofs.ident_report.push_switched.Given as goal

abbrev pub invariant-loop-entry : goal.invariant-loop-entry
invariant-loop-entry l =
    l.text.items ++ flat_map (switch_line l.idents l.card) (filter (λ e. e.ident == l.ident) (drop l.entry-index l.entries))
    ≡ l.initial.text.items ++ flat_map (switch_line l.idents l.card) (filter (λ e. e.ident == l.ident) l.entries)
