use Rattle.upd_edit.proofs.Common.{◌≡◌, ◌++◌, drop, flat_map}
use Rattle.upd_edit.specs.RefusalLines.{refusal_line}
use Rattle.upd_edit.proofs.refused.push_refusals.Given as goal

abbrev pub invariant-loop-refusal : goal.invariant-loop-refusal
invariant-loop-refusal l =
    l.text.items ++ flat_map refusal_line (drop l.refusal-index l.refusals) ≡ l.initial.text.items ++ flat_map refusal_line l.refusals
