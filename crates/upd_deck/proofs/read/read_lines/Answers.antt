use Rattle.upd_deck.proofs.Common.{arith, each_behind-none, said_at}
use Rattle.upd_deck.proofs.read.read_lines.Goals as goal

pub loop-line-init : goal.loop-line-init
loop-line-init c = (rw c.new-lines.ensures.items (each_behind-none said_at c.args.cut.now), omega (arith, c.new-lines.ensures.len))
