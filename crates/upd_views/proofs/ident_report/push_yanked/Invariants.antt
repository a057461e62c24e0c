use Rattle.std.proofs.Common.{◌≡◌, ◌++◌, drop}
use Rattle.std.specs.List.{filter, flat_map}
use Rattle.upd_core.specs.Status.{is_good}
use Rattle.upd_views.specs.IdentReport.{yanked_lines}
use Rattle.upd_views.proofs.ident_report.push_yanked.Given as goal

abbrev pub invariant-loop-card : goal.invariant-loop-card
invariant-loop-card l =
    l.text.items ++ flat_map (yanked_lines l.idents l.ident) (filter (is_good l.live.targets 0) (drop l.card-index l.yanks))
    ≡ l.initial.text.items ++ flat_map (yanked_lines l.idents l.ident) (filter (is_good l.live.targets 0) l.yanks)
