use Rattle.std.proofs.Common.{◌≡◌, ◌++◌, drop}
use Rattle.upd_views.specs.Escaped.{escaped}
use Rattle.upd_views.proofs.escaping.push_escaped.Given as goal

abbrev pub invariant-loop-byte : goal.invariant-loop-byte
invariant-loop-byte l = l.page.items ++ escaped (drop l.byte-index l.text) ≡ l.initial.page.items ++ escaped l.text
