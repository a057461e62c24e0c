use Rattle.upd_deck.proofs.Common.{◌≡◌, ◌≤◌, length, drop, each_behind, each, said_at}
use Rattle.upd_deck.proofs.read.read_lines.Given as goal

abbrev pub invariant-loop-line : goal.invariant-loop-line
invariant-loop-line l =
    (each_behind said_at l.lines.items (drop l.line-index l.cut) ≡ each said_at l.cut) × (length l.lines.items ≤ l.line-index)
