use Rattle.upd_wire.proofs.Common.{◌≡◌, ◌+◌, ℕ, piece}
use Rattle.upd_wire.proofs.log_lines.piece.Given as goal

abbrev pub invariant-pieces : goal.invariant-pieces
invariant-pieces l = (n : ℕ) → piece l.separator n l.rest ≡ piece l.separator (l.counter + n) l.text
