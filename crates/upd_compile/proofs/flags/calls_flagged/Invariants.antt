use Rattle.upd_compile.proofs.Common.{◌≡◌, map, take, list_any, is_flagged}
use Rattle.upd_compile.proofs.flags.calls_flagged.Given as goal

abbrev pub invariant-loop-positions : goal.invariant-loop-positions
invariant-loop-positions l = l.found.items ≡ map (list_any (is_flagged l.flags)) (map (λ list. list.items) (take l.positions-index l.calls))
