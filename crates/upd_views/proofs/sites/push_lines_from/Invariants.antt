use Rattle.std.proofs.Common.{◌≡◌, ◌++◌, drop}
use Rattle.upd_views.specs.SiteLines.{lines_from}
use Rattle.upd_views.proofs.sites.push_lines_from.Given as goal

abbrev pub invariant-loop-other : goal.invariant-loop-other
invariant-loop-other l =
    l.text.items ++ lines_from l.site (drop l.other-index l.others) ≡ l.initial.text.items ++ lines_from l.initial.site l.others
