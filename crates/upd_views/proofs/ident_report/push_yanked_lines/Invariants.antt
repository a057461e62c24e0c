use Rattle.std.proofs.Common.{◌≡◌, ◌++◌, drop}
use Rattle.std.specs.List.{filter, flat_map}
use Rattle.upd_views.specs.IdentReport.{is_of, yanked_line}
use Rattle.upd_views.proofs.ident_report.push_yanked_lines.Given as goal

abbrev pub invariant-loop-target : goal.invariant-loop-target
invariant-loop-target l =
    l.text.items ++ flat_map (yanked_line l.idents l.card) (filter (is_of l.ident) (drop l.target-index l.card.targets))
    ≡ l.initial.text.items ++ flat_map (yanked_line l.idents l.card) (filter (is_of l.ident) l.card.targets)
