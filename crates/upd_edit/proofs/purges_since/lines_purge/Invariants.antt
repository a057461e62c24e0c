use Rattle.upd_edit.proofs.Common.{◌≡◌, drop}
use Rattle.upd_edit.specs.PurgesSince.{lines_purge}
use Rattle.upd_edit.proofs.purges_since.lines_purge.Given as goal

abbrev pub invariant-loop-line : goal.invariant-loop-line
invariant-loop-line l = lines_purge l.last l.idents (drop l.line-index l.lines) ≡ lines_purge l.last l.idents l.lines
