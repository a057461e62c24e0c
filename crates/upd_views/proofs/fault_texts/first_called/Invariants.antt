use Rattle.std.proofs.Common.{◌≡◌, drop}
use Rattle.std.specs.List.{find}
use Rattle.upd_views.specs.FaultTexts.{is_called}
use Rattle.upd_views.proofs.fault_texts.first_called.Given as goal

abbrev pub invariant-loop-kind : goal.invariant-loop-kind
invariant-loop-kind l = find (is_called l.word) (drop l.kind-index l.kinds) ≡ find (is_called l.word) l.kinds
