use Rattle.upd_apply.proofs.Common.{◌≡◌, drop, each_behind, at_line, line_ranges}
use Rattle.upd_apply.specs.Compile.{ranges_named}
use Rattle.upd_apply.proofs.compile.ranges_named.Given as goal

abbrev pub invariant-loop-line : goal.invariant-loop-line
invariant-loop-line l =
    each_behind (λ line. at_line line.number (line_ranges l.library line.item)) l.found.items (drop l.line-index l.lines) ≡ ranges_named l.lines l.library
