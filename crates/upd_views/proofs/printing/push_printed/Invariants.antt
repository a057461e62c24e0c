use Rattle.std.proofs.Common.{◌≡◌, ◌++◌, drop}
use Rattle.upd_views.specs.Printed.{printed}
use Rattle.upd_views.proofs.printing.push_printed.Given as goal

abbrev pub invariant-loop-byte : goal.invariant-loop-byte
invariant-loop-byte l = l.line.items ++ printed l.kept (drop l.byte-index l.text) ≡ l.initial.line.items ++ printed l.kept l.text
