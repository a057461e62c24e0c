use Rattle.std.proofs.Common.{◌≡◌, ◌++◌, drop, map}
use Rattle.upd_views.specs.SiteLines.{of_mark}
use Rattle.upd_views.proofs.sites.push_marks.Given as goal

abbrev pub invariant-loop-row : goal.invariant-loop-row
invariant-loop-row l = l.sites.items ++ map of_mark (drop l.row-index l.marks) ≡ l.initial.sites.items ++ map of_mark l.marks
