use Rattle.upd_deck.proofs.Common.{◌≡◌, ◌≤◌, length, trimmed}
use Rattle.upd_deck.proofs.read.trimmed.Given as goal

abbrev pub invariant-loop-text : goal.invariant-loop-text
invariant-loop-text l = (trimmed l.text ≡ trimmed l.line) × (length l.text ≤ length l.line)

abbrev pub decreases-loop-text : goal.decreases-loop-text
decreases-loop-text l = length l.text
