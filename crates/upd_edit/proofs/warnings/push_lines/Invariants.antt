use Rattle.upd_edit.proofs.Common.{◌≡◌, ◌++◌, drop, flat_map}
use Rattle.upd_edit.specs.Warnings.{line_warnings}
use Rattle.upd_edit.proofs.warnings.push_lines.Given as goal

abbrev pub invariant-loop-line : goal.invariant-loop-line
invariant-loop-line l =
    l.list.items ++ flat_map (line_warnings l.seen) (drop l.line-index l.lines)
    ≡ l.initial.list.items ++ flat_map (line_warnings l.seen) l.lines
