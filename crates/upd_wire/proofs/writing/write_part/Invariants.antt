use Rattle.upd_wire.proofs.Common.{◌≡◌, ◌++◌, ℕ, List, length, Appends}
use Rattle.upd_wire.proofs.writing.write_part.Given as goal

abbrev pub invariant-output : goal.invariant-output
invariant-output g l = (done : List ℕ) × (l.bytes ≡ done ++ l.rest) × Appends (g.W.Write.contents l.initial.writer) (g.W.Write.contents l.writer) done

abbrev pub decreases-output : goal.decreases-output
decreases-output g l = length l.rest
