use Rattle.upd_apply.proofs.Common.{at_line, each_behind-none, line_ranges}
use Rattle.upd_apply.proofs.compile.ranges_named.Goals as goal

pub loop-line-init : goal.loop-line-init
loop-line-init c = rw c.new-found.ensures.items (each_behind-none (λ line. at_line line.number (line_ranges c.args.library.now line.item)) c.args.lines.now)
